-- A correction is refused with 13 exactly if the corrected log, read afresh, refuses an entry (right-iff); a taken one leaves table, log and index as that fresh
-- reading has them (right_fresh), with the rows up to the corrected hand's own start byte for byte (rows_kept); a refused one changes nothing (wrong_same).
-- Assumes nothing beside `Stored`, where it is named.
use mathlib.Core.Path.{◌≡◌, refl, sym, ap, ap₂, ◌∙◌, subst}
use mathlib.Core.Bool.{Bool, true, false, not}
use mathlib.Core.Logic.{◌⊎◌, inl, inr}
use mathlib.Core.List.{List, [], ◌∷◌, ◌++◌}
use Prim.Native.Nat.{ℕ, zero, suc, ◌+◌, ◌-◌, ◌*◌, ◌≤◌}
use native.Mathlib.Omega.{arith}
use lib.ListN.{length, take, drop}
use lib.Dec.{eqb}
use borrow.Author.Tests.{eq-eqb, ne_eqb, eqb-true, not-false}
use Rattle.std.specs.Prelude.{Option, Some, None, Result, Ok, Err}
use Rattle.paper.specs.declared.refusal.Refusal.TheVariants.{OutOfRange}
use Rattle.paper.specs.declared.refusal.Refusal.{Refusal}
use Rattle.laws.specs.Tests.{pick, either, one}
use Rattle.laws.proofs.Tests.{test}
use Rattle.paper.specs.RefusalNumbers.{when}
use Rattle.paper.specs.SheetAndEntries.{between, made, numbers_of}
use Rattle.paper.specs.declared.Sheet.{Sheet}
use Rattle.paper.specs.declared.Numbers.{Numbers}
use Rattle.paper.specs.declared.Entry.{Entry}
use Rattle.paper.proofs.Codes.{between_in, or_zero, when_zero}
use Rattle.text.specs.Line.{after_line, line_number}
use Rattle.blocks.specs.Block.{line_kind, block_from}
use Rattle.blocks.specs.Entry.{parsed_of, entry_at}
use Rattle.blocks.proofs.Entries.{read_is, numbers_back}
use Rattle.writing.specs.AnswerSheet.{over, written_of}
use Rattle.table.specs.Settle.{no_payout}
use Rattle.table.specs.declared.table.Table.{Table}
use Rattle.records.specs.Stored.{record_in, entry_in, put_record}
use Rattle.fresh.specs.Reading.{is_hand, replacing, played_to, index_to}
use Rattle.fresh.specs.declared.Played.{Played}
use Rattle.desk.specs.Desk.{refused_at, judged_bytes}
use Rattle.desk.specs.declared.Judged.{Judged}
use Rattle.amends.specs.Righting.{right_key, right_of, number_of, is_six, outside, parsed_in, righted_by, replayed_of, code_before, judged_right}
use Rattle.amends.specs.declared.Right.{Right}
use Rattle.ledger.specs.Keeping.{was_taken, answered_as}
use Rattle.ledger.specs.Entering.{numbers_in}
use Rattle.ledger.specs.Righting.{righted_of, log_righted, index_righted}
use Rattle.ledger.specs.declared.Book.{Book}
use Rattle.history.specs.History.{run, AllTaken}
use Rattle.archive.specs.Archive.{records_of, hands_in, rows_of, Stored, replaced, before}
use Rattle.archive.proofs.Lists.{run_sheet, all_fit, entries_to, entries_back, entries_replaced, replaced_length, put_replaced, played_run, played_all, all_played}
use Rattle.archive.proofs.Index.{front_over, over_room, rows_length, index_rows, rows_before, rows_replaced, same_front}
use Rattle.archive.proofs.Entered.{told_zero, run_count}
use Rattle.ledger.specs.Righting as righting

thirteen_no : ◌≡◌ {A = ℕ} 13 0 → ⊥
thirteen_no e = omega (arith, e)

unread : {e : Entry} → (Err OutOfRange) ≡ Ok e → ⊥
unread {e} h = subst is_none h tt
  where
    is_none : Result Entry Refusal → Type 0
    is_none (Err why) = Unit {0}
    is_none (Ok x) = ⊥

-- ---- any code but 0 changes nothing, whatever lies in the buffers

righted_same : (t : Table) (n : ℕ) (p : Played) → ((righted_by t n p).code ≡ 0 → ⊥) → (righted_by t n p).table ≡ t
unfolding righted_by
righted_same t n p h = go p.ok h
  where
    j : Bool → Judged
    j b = pick b (record { block = true; n = n; code = 0; table = p.table; payout = no_payout }) (refused_at t n 13)

    go : (b : Bool) → ((j b).code ≡ 0 → ⊥) → (j b).table ≡ t
    go true f = absurd (f refl)
    go false f = refl

replayed_same : (t : Table) (n : ℕ) (x : Result Entry Refusal) (log : List ℕ) → ((replayed_of t n x log).code ≡ 0 → ⊥) → (replayed_of t n x log).table ≡ t
replayed_same t n (Ok e) log h = righted_same t n (played_to t.sheet (replacing (n - 1) e (entry_in log)) t.taken) h
replayed_same t n (Err why) log h = refl

judged_same : (t : Table) (shared : Bool) (r : Right) (log : List ℕ) → ((judged_right t shared r log).code ≡ 0 → ⊥) → (judged_right t shared r log).table ≡ t
unfolding judged_right
judged_same t shared r log h = go (eqb (code_before t shared r log) 0) h
  where
    j : Bool → Judged
    j b = pick b (replayed_of t (number_of r) (parsed_in r.block) log) (refused_at t (number_of r) (code_before t shared r log))

    go : (b : Bool) → ((j b).code ≡ 0 → ⊥) → (j b).table ≡ t
    go true f = replayed_same t (number_of r) (parsed_in r.block) log f
    go false f = refl

module _ (b : Book) (shared : Bool) (r : Right) (log index out : List ℕ) where
  abbrev judged : Judged
  judged = judged_right b.table shared r log

  wrong_so : (w : Result ℕ Refusal) → ((answered_as b judged b.hands w).code ≡ 0 → ⊥)
      → ((answered_as b judged b.hands w).book ≡ b)
      × ((righting.log_after (was_taken w judged.code) (number_of r) (numbers_in r.block) log ≡ log)
      × (righting.index_after (was_taken w judged.code) b.table (number_of r) (numbers_in r.block) log index ≡ index))
  unfolding righting.log_after righting.index_after
  wrong_so (Ok k) h =
      let f : eqb judged.code 0 ≡ false = ne_eqb judged.code 0 h in (
        ap (λ (t : Table). record { table = t; hands = b.hands }) (judged_same b.table shared r log h),
        (
          ap (λ (q : Bool). pick q (put_record log (number_of r - 1) (numbers_in r.block)) log) f,
          ap (λ (q : Bool). pick q (index_to b.table.sheet (entry_in (put_record log (number_of r - 1) (numbers_in r.block))) b.table.taken index) index) f,
        ),
      )
  wrong_so (Err why) h = (refl, (refl, refl))

  pub wrong_same : ((righted_of b shared r log out).code ≡ 0 → ⊥)
      → ((righted_of b shared r log out).book ≡ b) × ((log_righted b shared r log out ≡ log) × (index_righted b shared r log index out ≡ index))
  unfolding righted_of log_righted index_righted
  wrong_same h = wrong_so (written_of (judged_bytes judged) out) h

-- ---- what the five lines say

-- where they are an entry, its numbers are theirs, and one of the six opens no hand
six_not : (k s a c : ℕ) → is_six k ≡ true → is_hand (entry_at k s a c) ≡ false
unfolding is_hand
six_not zero s a c h = absurd (no h)
  where
    no : false ≡ true → ⊥
    no e = subst (λ (t : Bool). pick t ⊥ (Unit {0})) e tt
six_not (suc zero) s a c h = absurd (no h)
  where
    no : false ≡ true → ⊥
    no e = subst (λ (t : Bool). pick t ⊥ (Unit {0})) e tt
six_not (suc (suc zero)) s a c h = absurd (no h)
  where
    no : false ≡ true → ⊥
    no e = subst (λ (t : Bool). pick t ⊥ (Unit {0})) e tt
six_not (suc (suc (suc zero))) s a c h = refl
six_not (suc (suc (suc (suc zero)))) s a c h = refl
six_not (suc (suc (suc (suc (suc zero))))) s a c h = refl
six_not (suc (suc (suc (suc (suc (suc zero)))))) s a c h = refl
six_not (suc (suc (suc (suc (suc (suc (suc zero))))))) s a c h = refl
six_not (suc (suc (suc (suc (suc (suc (suc (suc zero)))))))) s a c h = refl
six_not (suc (suc (suc (suc (suc (suc (suc (suc (suc k))))))))) s a c h = absurd (no (between_in 3 8 _ h).1)
  where
    no : suc (suc (suc (suc (suc (suc (suc (suc (suc k)))))))) ≤ 8 → ⊥
    no l = omega (arith, l)

raw_said : (n k s a c : ℕ) (e : Entry) → parsed_of k s a c ≡ Ok e → not (is_six k) ≡ false → (made k s a c ≡ numbers_of e) × (is_hand e ≡ false)
raw_said n k s a c e h o =
    let q = read_is k s a c e h in (
      sym (sym (ap numbers_of q.1) ∙ numbers_back k s a c q.0),
      ap is_hand (sym q.1) ∙ six_not k s a c (not-false (is_six k) o),
    )

said : (n kind s a c : Option ℕ) (e : Entry) → parsed_in (block_from n kind s a c) ≡ Ok e → outside kind ≡ false
    → (numbers_in (block_from n kind s a c) ≡ numbers_of e) × (is_hand e ≡ false)
said None kind s a c e h o = absurd (unread h)
said (Some n) None s a c e h o = absurd (unread h)
said (Some n) (Some k) None a c e h o = absurd (unread h)
said (Some n) (Some k) (Some s) None c e h o = absurd (unread h)
said (Some n) (Some k) (Some s) (Some a) None e h o = absurd (unread h)
said (Some n) (Some k) (Some s) (Some a) (Some c) e h o = raw_said n k s a c e h o

lines_said : (lines : List ℕ) (e : Entry) → parsed_in (right_of lines).block ≡ Ok e → outside (right_of lines).kind ≡ false
    → (numbers_in (right_of lines).block ≡ numbers_of e) × (is_hand e ≡ false)
unfolding right_of
lines_said lines e h o =
    said (line_number right_key lines) (line_kind (after_line lines)) (line_number (115 ∷ 101 ∷ 97 ∷ 116 ∷ []) (after_line (after_line lines)))
    (line_number (97 ∷ []) (after_line (after_line (after_line lines)))) (line_number (98 ∷ []) (after_line (after_line (after_line (after_line lines))))) e h o

-- neither 14 nor 2
pub record Rightly (t : Table) (shared : Bool) (r : Right) (log : List ℕ) : Type 0 where
  pub alone : shared ≡ false
  pub first : 1 ≤ number_of r
  pub last : number_of r ≤ t.taken
  pub old : is_six (record_in log (number_of r - 1)).kind ≡ true
  pub new : outside r.kind ≡ false

pub rightly : (t : Table) (shared : Bool) (r : Right) (log : List ℕ) → code_before t shared r log ≡ 0 → Rightly t shared r log
rightly t shared r log h =
    let stored = between 1 t.taken (number_of r) in
    let six = is_six (record_in log (number_of r - 1)).kind in
    let p = or_zero (when shared 14) (when (either (not stored) (either (not six) (outside r.kind))) 2) h in
    let q = none (not stored) (either (not six) (outside r.kind)) (when_zero (either (not stored) (either (not six) (outside r.kind))) 1 p.1) in
    let o = none (not six) (outside r.kind) q.1 in
    let i = between_in 1 t.taken (number_of r) (not-false stored q.0) in
    record { alone = when_zero shared 13 p.0; first = i.0; last = i.1; old = not-false six o.0; new = o.1 }
  where
    none : (a c : Bool) → either a c ≡ false → (a ≡ false) × (c ≡ false)
    none true c e = absurd (subst (λ (x : Bool). pick x (Unit {0}) ⊥) e tt)
    none false c e = (refl, e)

-- ---- the fresh reading

hands_cong : (f g : ℕ → Entry) (k : ℕ) → ((i : ℕ) → is_hand (f i) ≡ is_hand (g i)) → hands_in (entries_to f k) ≡ hands_in (entries_to g k)
hands_cong f g zero h = refl
hands_cong f g (suc k) h = ap₂ (λ (m : ℕ) (x : Bool). m + one x) (hands_cong f g k h) (h k)

all_before : (sheet : Sheet) (n : ℕ) (es : List Entry) → AllTaken sheet es → AllTaken sheet (before n es)
all_before sheet n [] a = tt
all_before sheet n (x ∷ es) a = go (eqb n (length es + 1)) (all_before sheet n es a.1)
  where
    go : (t : Bool) → AllTaken sheet (before n es) → AllTaken sheet (pick t es (before n es))
    go true h = a.1
    go false h = h

module _ (sheet : Sheet) (es : List Entry) (b : Book) (log index : List ℕ) (s : Stored sheet es b log index) (shared : Bool) (lines : List ℕ) where
  abbrev r : Right
  r = right_of lines

  abbrev n : ℕ
  n = number_of r

  abbrev rest : List ℕ
  rest = drop (length (records_of es)) log

  taken_is : b.table.taken ≡ length es
  taken_is = ap (λ (t : Table). t.taken) s.table ∙ run_count sheet es s.all

  sheet_is : b.table.sheet ≡ sheet
  sheet_is = ap (λ (t : Table). t.sheet) s.table ∙ run_sheet sheet es

  back : entries_to (entry_in log) (length es) ≡ es
  back = ap (λ (l : List ℕ). entries_to (entry_in l) (length es)) s.records ∙ entries_back es rest (all_fit sheet s.good es s.all)

  -- the entries with e in the place of the n-th, as a fresh reading meets them
  met : (e : Entry) → 1 ≤ n → entries_to (replacing (n - 1) e (entry_in log)) (length es) ≡ replaced n e es
  met e h = entries_replaced n e (entry_in log) es h back

  abbrev play : Entry → Played
  play e = played_to b.table.sheet (replacing (n - 1) e (entry_in log)) b.table.taken

  play_is : (e : Entry) → play e ≡ played_to sheet (replacing (n - 1) e (entry_in log)) (length es)
  play_is e = ap₂ (λ (x : Sheet) (k : ℕ). played_to x (replacing (n - 1) e (entry_in log)) k) sheet_is taken_is

  play_table : (e : Entry) → 1 ≤ n → (play e).table ≡ run sheet (replaced n e es)
  play_table e h = ap (λ (p : Played). p.table) (play_is e) ∙ played_run sheet (replacing (n - 1) e (entry_in log)) (length es) ∙ ap (run sheet) (met e h)

  play_all : (e : Entry) → 1 ≤ n → (play e).ok ≡ true → AllTaken sheet (replaced n e es)
  play_all e h q =
      subst (AllTaken sheet) (met e h)
      (played_all sheet (replacing (n - 1) e (entry_in log)) (length es) (sym (ap (λ (p : Played). p.ok) (play_is e)) ∙ q))

  all_play : (e : Entry) → 1 ≤ n → AllTaken sheet (replaced n e es) → (play e).ok ≡ true
  all_play e h a =
      ap (λ (p : Played). p.ok) (play_is e) ∙ all_played sheet (replacing (n - 1) e (entry_in log)) (length es) (subst (AllTaken sheet) (sym (met e h)) a)

  abbrev j : Judged
  j = judged_right b.table shared r log

  -- neither 14 nor 2: what is judged is what the fresh reading said
  judged_fresh : code_before b.table shared r log ≡ 0 → j ≡ replayed_of b.table n (parsed_in r.block) log
  unfolding judged_right
  judged_fresh h =
      ap (λ (t : Bool). pick t (replayed_of b.table n (parsed_in r.block) log) (refused_at b.table n (code_before b.table shared r log)))
      (eq-eqb (code_before b.table shared r log) 0 h)

  righted_code : (p : Played) → (righted_by b.table n p).code ≡ pick p.ok 0 13
  unfolding righted_by
  righted_code p = go p.ok
    where
      go : (t : Bool) → (pick t (record { block = true; n = n; code = 0; table = p.table; payout = no_payout }) (refused_at b.table n 13)).code ≡ pick t 0 13
      go true = refl
      go false = refl

  code_read : (e : Entry) → code_before b.table shared r log ≡ 0 → parsed_in r.block ≡ Ok e → j.code ≡ pick (play e).ok 0 13
  code_read e h q = ap (λ (x : Judged). x.code) (judged_fresh h ∙ ap (λ (x : Result Entry Refusal). replayed_of b.table n x log) q) ∙ righted_code (play e)

  -- "It is refused with 13 .. exactly if codes 1 to 10 refuse the new entry or any later one when the whole corrected log is read afresh": lines that are no
  -- entry always, and an entry exactly where not every one is taken
  module _ (before-zero : code_before b.table shared r log ≡ 0) where
    pub right-none : parsed_in r.block ≡ Err OutOfRange → j.code ≡ 13
    right-none q = ap (λ (x : Judged). x.code) (judged_fresh before-zero ∙ ap (λ (x : Result Entry Refusal). replayed_of b.table n x log) q)

    module _ (e : Entry) (read : parsed_in r.block ≡ Ok e) where
      first : 1 ≤ n
      first = (rightly b.table shared r log before-zero).first

      pub right-taken : AllTaken sheet (replaced n e es) → j.code ≡ 0
      right-taken a = code_read e before-zero read ∙ ap (λ (t : Bool). pick t 0 13) (all_play e first a)

      pub right-iff : ((AllTaken sheet (replaced n e es) → ⊥) → j.code ≡ 13) × (j.code ≡ 13 → AllTaken sheet (replaced n e es) → ⊥)
      right-iff = (
        λ never. code_read e before-zero read ∙ ap (λ (t : Bool). pick t 0 13) (refused (play e).ok refl never),
        λ c a. thirteen_no (sym c ∙ right-taken a),
      )
        where
          refused : (t : Bool) → (play e).ok ≡ t → (AllTaken sheet (replaced n e es) → ⊥) → t ≡ false
          refused true q never = absurd (never (play_all e first q))
          refused false q never = refl

  -- ---- a taken one

  -- what was said, if it was taken
  pub record Took (e : Entry) : Type 0 where
    pub read : parsed_in r.block ≡ Ok e
    pub right : Rightly b.table shared r log
    pub ok : (play e).ok ≡ true
    pub table : j.table ≡ (play e).table

  took_read : (x : Result Entry Refusal) → parsed_in r.block ≡ x → (replayed_of b.table n x log).code ≡ 0
      → (e : Entry) × (parsed_in r.block ≡ Ok e) × ((play e).ok ≡ true) × ((replayed_of b.table n x log).table ≡ (play e).table)
  unfolding righted_by
  took_read (Err why) q h = absurd (thirteen_no h)
  took_read (Ok e) q h = go (play e).ok refl h
    where
      jj : Bool → Judged
      jj t = pick t (record { block = true; n = n; code = 0; table = (play e).table; payout = no_payout }) (refused_at b.table n 13)

      go : (t : Bool) → (play e).ok ≡ t → (jj t).code ≡ 0
          → (d : Entry) × (parsed_in r.block ≡ Ok d) × ((play d).ok ≡ true) × ((jj t).table ≡ (play d).table)
      go true o z = (e, q, o, refl)
      go false o z = absurd (thirteen_no z)

  took_so : (t : Bool) → eqb (code_before b.table shared r log) 0 ≡ t
      → (pick t (replayed_of b.table n (parsed_in r.block) log) (refused_at b.table n (code_before b.table shared r log))).code ≡ 0
      → code_before b.table shared r log ≡ 0
  took_so true q z = eqb-true (code_before b.table shared r log) 0 q
  took_so false q z = z

  took : j.code ≡ 0 → (e : Entry) × Took e
  unfolding judged_right
  took h =
      let z = took_so (eqb (code_before b.table shared r log) 0) refl h in
      let same = judged_fresh z in
      let f = took_read (parsed_in r.block) refl (sym (ap (λ (x : Judged). x.code) same) ∙ h) in
      (f.0, record { read = f.1; right = rightly b.table shared r log z; ok = f.2; table = ap (λ (x : Judged). x.table) same ∙ f.3 })

  module _ (e : Entry) (k : Took e) where
    abbrev es' : List Entry
    es' = replaced n e es

    numbers-are : (numbers_in r.block ≡ numbers_of e) × (is_hand e ≡ false)
    numbers-are = lines_said lines e k.read k.right.new

    all-taken : AllTaken sheet es'
    all-taken = play_all e k.right.first k.ok

    -- the log: the record stands in the place of the old one
    log_is : put_record log (n - 1) (numbers_in r.block) ≡ records_of es' ++ rest
    log_is =
        ap₂ (λ (l : List ℕ) (x : Numbers). put_record l (n - 1) x) s.records numbers-are.0
        ∙ put_replaced n e es rest k.right.first (subst (λ (m : ℕ). n ≤ m) taken_is k.right.last)

    entries-are : entries_to (entry_in (put_record log (n - 1) (numbers_in r.block))) (length es) ≡ es'
    entries-are =
        ap₂ (λ (l : List ℕ) (m : ℕ). entries_to (entry_in l) m) log_is (sym (replaced_length n e es)) ∙ entries_back es' rest (all_fit sheet s.good es' all-taken)

    -- the six open no hand: there are as many rows as before
    hands-are : hands_in es' ≡ hands_in es
    hands-are =
        ap hands_in (sym (met e k.right.first)) ∙ hands_cong (replacing (n - 1) e (entry_in log)) (entry_in log) (length es) (λ i. each i (test (eqb i (n - 1)))) ∙ ap hands_in back
      where
        at_place : is_hand (entry_in log (n - 1)) ≡ false
        at_place = six_not (record_in log (n - 1)).kind (record_in log (n - 1)).seat (record_in log (n - 1)).a (record_in log (n - 1)).b k.right.old

        each : (i : ℕ) → (eqb i (n - 1) ≡ true) ⊎ (eqb i (n - 1) ≡ false) → is_hand (replacing (n - 1) e (entry_in log) i) ≡ is_hand (entry_in log i)
        each i (inl y) =
            ap (λ (t : Bool). is_hand (pick t e (entry_in log i))) y ∙ numbers-are.1 ∙ sym (ap (λ (m : ℕ). is_hand (entry_in log m)) (eqb-true i (n - 1) y) ∙ at_place)
        each i (inr z) = ap (λ (t : Bool). is_hand (pick t e (entry_in log i))) z

    index_is : index_to b.table.sheet (entry_in (put_record log (n - 1) (numbers_in r.block))) b.table.taken index ≡ over (rows_of sheet es') index
    index_is =
        ap₂ (λ (x : Sheet) (m : ℕ). index_to x (entry_in (put_record log (n - 1) (numbers_in r.block))) m index) sheet_is taken_is
        ∙ index_rows sheet s.good (entry_in (put_record log (n - 1) (numbers_in r.block))) (length es) index (subst (AllTaken sheet) (sym entries-are) all-taken)
        (omega (arith, ap hands_in entries-are, hands-are, over_room (rows_of sheet es) index s.rows, rows_length sheet s.good es s.all))
        ∙ ap (λ (xs : List Entry). over (rows_of sheet xs) index) entries-are

    righted-so : {b' : Book} {log' index' : List ℕ} → b' ≡ record { table = j.table; hands = b.hands } → log' ≡ put_record log (n - 1) (numbers_in r.block)
        → index' ≡ index_to b.table.sheet (entry_in (put_record log (n - 1) (numbers_in r.block))) b.table.taken index
        → Stored sheet es' b' log' index'
    righted-so {b'} {log'} {index'} eb el ei = record {
      good = s.good;
      all = all-taken;
      table = ap (λ (y : Book). y.table) eb ∙ k.table ∙ play_table e k.right.first;
      hands = ap (λ (y : Book). y.hands) eb ∙ s.hands ∙ sym hands-are;
      count = omega (arith, replaced_length n e es, s.count);
      records = el ∙ log_is ∙ front_over (records_of es') rest ∙ ap (over (records_of es')) (sym (el ∙ log_is));
      rows = over-same (ei ∙ index_is);
    }
      where
        over-same : {l : List ℕ} → l ≡ over (rows_of sheet es') index → l ≡ over (rows_of sheet es') l
        over-same {l} q = q ∙ front_over (rows_of sheet es') (drop (length (rows_of sheet es')) index) ∙ ap (over (rows_of sheet es')) (sym q)

  -- "When taken, table, log, index and pots equal that fresh reading; index rows up to and including the corrected hand's own start keep their bytes."
  pub record Righted (e : Entry) (out : List ℕ) : Type 0 where
    pub what : Took e
    pub fresh : Stored sheet (replaced n e es) (righted_of b shared r log out).book (log_righted b shared r log out) (index_righted b shared r log index out)
    pub kept : take (44 * hands_in (before n es)) (index_righted b shared r log index out) ≡ take (44 * hands_in (before n es)) index

  pub right_fresh : (out : List ℕ) → (righted_of b shared r log out).code ≡ 0 → (e : Entry) × Righted e out
  unfolding righted_of log_righted index_righted righting.log_after righting.index_after
  right_fresh out h =
      let w : Result ℕ Refusal = written_of (judged_bytes j) out in
      let told = told_zero b j b.hands w h in
      let f = took told.0 in
      let e : Entry = f.0 in
      let ok : was_taken w j.code ≡ true = told.1 in
      let log' = ap (λ (q : Bool). pick q (put_record log (n - 1) (numbers_in r.block)) log) ok in
      let index' = ap (λ (q : Bool). pick q (index_to b.table.sheet (entry_in (put_record log (n - 1) (numbers_in r.block))) b.table.taken index) index) ok in
      let bef = rows_before sheet n es in
      let aft = rows_replaced sheet n e es in (
        e,
        record {
          what = f.1;
          fresh = righted-so e f.1 told.2 log' index';
          kept =
              same_front (rows_of sheet (before n es)) bef.0 aft.0 index (44 * hands_in (before n es))
              (rows_length sheet s.good (before n es) (all_before sheet n es s.all))
              (s.rows ∙ ap (λ (l : List ℕ). over l index) bef.1)
              (index' ∙ index_is e f.1 ∙ ap (λ (l : List ℕ). over l index) aft.1);
        },
      )

  -- the sentence on the rows, by its own name: as many rows as hands were opened before the corrected entry, so the last of them is its own hand's
  pub rows_kept : (out : List ℕ) → (righted_of b shared r log out).code ≡ 0
      → take (44 * hands_in (before n es)) (index_righted b shared r log index out) ≡ take (44 * hands_in (before n es)) index
  rows_kept out h = let f = right_fresh out h in f.1.kept
