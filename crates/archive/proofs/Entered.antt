-- A taken entry is stored behind the others, with its row where it opens a hand, and all bytes behind stay (entered); any other code, and so 15, leaves the table,
-- the count, the log and the index as they were (refused_same, fifteen_same). Assumes nothing beside `Stored`, where it is named.
use mathlib.Core.Path.{◌≡◌, refl, sym, ap, ap₂, ◌∙◌, subst}
use mathlib.Core.Bool.{Bool, true, false}
use mathlib.Core.List.{List, [], ◌∷◌}
use Prim.Native.Nat.{ℕ, ◌+◌, ◌*◌, ◌≤◌, ◌<◌}
use native.Mathlib.Omega.{arith}
use lib.ListN.{length}
use lib.Dec.{eqb, ltb, leb}
use borrow.Author.Tests.{eq-eqb, ne_eqb, leb-false, ltb-false}
use Rattle.std.specs.Prelude.{Result, Ok, Err}
use Rattle.paper.specs.declared.refusal.Refusal.{Refusal}
use Rattle.laws.specs.Tests.{pick, both, either, one}
use Rattle.paper.specs.SheetAndEntries.{made, numbers_of}
use Rattle.paper.specs.declared.Sheet.{Sheet}
use Rattle.paper.specs.declared.Numbers.{Numbers}
use Rattle.paper.specs.declared.Entry.{Entry}
use Rattle.blocks.specs.Entry.{parsed_of}
use Rattle.blocks.specs.declared.Block.{Block}
use Rattle.blocks.specs.declared.Block.TheVariants.{Raw}
use Rattle.blocks.proofs.Entries.{read_is, numbers_back}
use Rattle.writing.specs.AnswerSheet.{over, written_of}
use Rattle.table.specs.Take.{code_of, next_of}
use Rattle.table.specs.declared.table.Table.{Table}
use Rattle.table.proofs.Refusals.{taken_counted}
use Rattle.table.proofs.Sounds.{passed}
use Rattle.records.specs.Bytes.{put_at}
use Rattle.records.specs.Stored.{record_bytes, put_record}
use Rattle.fresh.specs.Reading.{is_hand, index_after}
use Rattle.desk.specs.Desk.{judge_parsed, judge_block, refused_at, judged_bytes}
use Rattle.desk.specs.declared.Judged.{Judged}
use Rattle.ledger.specs.Keeping.{was_taken, answered_as, hands_after, log_after, index_kept}
use Rattle.ledger.specs.Entering.{is_full, numbers_in, held_back, judged_entry, judged_here, entered_of, log_entered, index_entered}
use Rattle.ledger.specs.declared.Book.{Book}
use Rattle.ledger.proofs.Holding.{entry_counts}
use Rattle.history.specs.History.{run, AllTaken}
use Rattle.archive.specs.Archive.{records_of, hands_in, rows_of, Stored}
use Rattle.archive.proofs.Lists.{records_length}
use Rattle.archive.proofs.Index.{over_twice, over_room, put_behind, rows_length, row_more}

-- ---- small facts over tests

true_false : true ≡ false → ⊥
true_false h = subst (λ (t : Bool). pick t (Unit {0}) ⊥) h tt

either_none : (a b : Bool) → either a b ≡ false → (a ≡ false) × (b ≡ false)
either_none true b h = absurd (true_false h)
either_none false b h = (refl, h)

not_both : (a b : Bool) → b ≡ true → both a b ≡ false → a ≡ false
not_both true b e h = absurd (true_false (sym e ∙ h))
not_both false b e h = refl

pub told_zero : (b : Book) (j : Judged) (hands : ℕ) (w : Result ℕ Refusal) → (answered_as b j hands w).code ≡ 0
    → (j.code ≡ 0) × (was_taken w j.code ≡ true) × ((answered_as b j hands w).book ≡ record { table = j.table; hands = hands })
told_zero b j hands (Ok k) h = (h, eq-eqb j.code 0 h, refl)
told_zero b j hands (Err why) h = absurd (no h)
  where
    no : ◌≡◌ {A = ℕ} 12 0 → ⊥
    no e = omega (arith, e)

-- ---- any code but 0 changes nothing, whatever lies in the buffers

module _ (b : Book) (block : Block) (log index sheet : List ℕ) where
  abbrev j : Judged
  j = judged_here b block log index

  abbrev x : Numbers
  x = numbers_in block

  same_as : (w : Result ℕ Refusal) → ((answered_as b j (hands_after (was_taken w j.code) b x) w).code ≡ 0 → ⊥)
      → ((answered_as b j (hands_after (was_taken w j.code) b x) w).book ≡ b) × ((log_after (was_taken w j.code) b x log ≡ log) × (index_kept (was_taken w j.code) b x index ≡ index))
  unfolding log_after index_kept
  same_as (Ok k) h =
      let f : eqb j.code 0 ≡ false = ne_eqb j.code 0 h in
      let t : j.table ≡ b.table = (entry_counts b block (length log) (length index)).same h in (
        ap (λ (u : Table). record { table = u; hands = hands_after (eqb j.code 0) b x }) t
            ∙ ap (λ (q : Bool). record { table = b.table; hands = hands_after q b x }) f,
        (
          ap (λ (q : Bool). pick q (put_record log b.table.taken x) log) f,
          ap (λ (q : Bool). pick q (index_after (eqb x.kind 2) b.hands (b.table.taken + 1) b.table.chairs index) index) f,
        ),
      )
  same_as (Err why) h = (refl, (refl, refl))

  pub refused_same : ((entered_of b block log index sheet).code ≡ 0 → ⊥)
      → ((entered_of b block log index sheet).book ≡ b) × ((log_entered b block log index sheet ≡ log) × (index_entered b block log index sheet ≡ index))
  unfolding entered_of log_entered index_entered
  refused_same h = same_as (written_of (judged_bytes j) sheet) h

  -- "After 15 the table, the count, log and index are as before"
  pub fifteen_same : (entered_of b block log index sheet).code ≡ 15
      → ((entered_of b block log index sheet).book ≡ b) × ((log_entered b block log index sheet ≡ log) × (index_entered b block log index sheet ≡ index))
  fifteen_same e = refused_same (λ z. no (sym e ∙ z))
    where
      no : ◌≡◌ {A = ℕ} 15 0 → ⊥
      no q = omega (arith, q)

-- ---- a taken entry

pub run_count : (sheet : Sheet) (es : List Entry) → AllTaken sheet es → (run sheet es).taken ≡ length es
unfolding run
run_count sheet [] a = refl
run_count sheet (e ∷ es) a = taken_counted (run sheet es) (length es + 1) e a.0 ∙ omega (arith, run_count sheet es a.1)

held_zero : (t : Table) (full : Bool) (i : Judged) → (held_back t full i).code ≡ 0 → (full ≡ false) × ((held_back t full i ≡ i) × (i.code ≡ 0))
unfolding held_back
held_zero t full i h = go (both full (either (eqb i.code 0) (leb 4 i.code))) refl h
  where
    no : ◌≡◌ {A = ℕ} 15 0 → ⊥
    no e = omega (arith, e)

    go : (q : Bool) → both full (either (eqb i.code 0) (leb 4 i.code)) ≡ q → (pick q (refused_at t i.n 15) i).code ≡ 0
        → (full ≡ false) × ((pick q (refused_at t i.n 15) i ≡ i) × (i.code ≡ 0))
    go true e z = absurd (no z)
    go false e z =
        let late : either (eqb i.code 0) (leb 4 i.code) ≡ true = ap (λ (y : Bool). either y (leb 4 i.code)) (eq-eqb i.code 0 z) in
        (not_both full (either (eqb i.code 0) (leb 4 i.code)) late e, (refl, z))

-- what room means
pub record Room (count hands : ℕ) (hand : Bool) (log index : ℕ) : Type 0 where
  pub few : count < 4096
  pub record_fits : 8 * count + 8 ≤ log
  pub row_fits : hand ≡ true → 44 * hands + 44 ≤ index

room_is : (count hands : ℕ) (hand : Bool) (log index : ℕ) → is_full count hands hand log index ≡ false → Room count hands hand log index
unfolding is_full
room_is count hands hand log index h =
    let p = either_none (leb 4096 count) (either (ltb log (8 * count + 8)) (both hand (ltb index (44 * hands + 44)))) h in
    let q = either_none (ltb log (8 * count + 8)) (both hand (ltb index (44 * hands + 44))) p.1 in
    record {
      few = leb-false 4096 count p.0;
      record_fits = ltb-false log (8 * count + 8) q.0;
      row_fits = λ e. ltb-false index (44 * hands + 44) (sym (ap (λ (y : Bool). both y (ltb index (44 * hands + 44))) e) ∙ q.1);
    }

module _ (sheet : Sheet) (es : List Entry) (b : Book) (log index : List ℕ) (s : Stored sheet es b log index) (n k seat a c : ℕ) (e : Entry) (read : parsed_of k seat a c ≡ Ok e) (out : List ℕ) where
  abbrev block : Block
  block = Raw n k seat a c

  -- the buffers afterwards: the joined bytes, and behind them what was there
  pub record Entered (b' : Book) (log' index' : List ℕ) : Type 0 where
    pub stored : Stored sheet (e ∷ es) b' log' index'
    pub records-over : log' ≡ over (records_of (e ∷ es)) log
    pub rows-over : index' ≡ over (rows_of sheet (e ∷ es)) index

  numbers : made k seat a c ≡ numbers_of e
  numbers = let r = read_is k seat a c e read in sym (sym (ap numbers_of r.1) ∙ numbers_back k seat a c r.0)

  kind_hand : eqb k 2 ≡ is_hand e
  unfolding is_hand
  kind_hand = ap (λ (x : Numbers). eqb x.kind 2) numbers

  taken_is : b.table.taken ≡ length es
  taken_is = ap (λ (t : Table). t.taken) s.table ∙ run_count sheet es s.all

  parsed_is : judge_block b.table block ≡ judge_parsed b.table n (Ok e)
  parsed_is = ap (judge_parsed b.table n) read

  module _ (full : is_full b.table.taken b.hands (eqb k 2) (length log) (length index) ≡ false) (zero : code_of b.table n e ≡ 0) where
    room : Room b.table.taken b.hands (eqb k 2) (length log) (length index)
    room = room_is b.table.taken b.hands (eqb k 2) (length log) (length index) full

    next-n : n ≡ length es + 1
    next-n = sym (passed b.table n e zero).next ∙ ap (λ (m : ℕ). m + 1) taken_is

    code-run : code_of (run sheet es) (length es + 1) e ≡ 0
    code-run = sym (ap₂ (λ (t : Table) (m : ℕ). code_of t m e) s.table next-n) ∙ zero

    table-run : next_of b.table n e ≡ run sheet (e ∷ es)
    unfolding run
    table-run = ap₂ (λ (t : Table) (m : ℕ). next_of t m e) s.table next-n

    log_is : put_record log b.table.taken (made k seat a c) ≡ over (records_of (e ∷ es)) log
    log_is =
        ap₂ (λ (m : ℕ) (x : Numbers). put_at (8 * m) (record_bytes x) log) taken_is numbers
        ∙ ap (put_at (8 * length es) (record_bytes (numbers_of e))) s.records
        ∙ put_behind (records_of es) (record_bytes (numbers_of e)) log (8 * length es) (records_length es) (omega (arith, room.record_fits, taken_is))

    rows-room : (h : Bool) → eqb k 2 ≡ h → 44 * (hands_in es + one h) ≤ length index
    rows-room true q = omega (arith, room.row_fits q, s.hands)
    rows-room false q = omega (arith, over_room (rows_of sheet es) index s.rows, rows_length sheet s.good es s.all)

    index_is : index_after (eqb k 2) b.hands (b.table.taken + 1) b.table.chairs index ≡ over (rows_of sheet (e ∷ es)) index
    index_is =
        ap₂ (λ (h : Bool) (m : ℕ). index_after h m (b.table.taken + 1) b.table.chairs index) kind_hand s.hands
        ∙ ap₂ (λ (m : ℕ) (t : Table). index_after (is_hand e) (hands_in es) (m + 1) t.chairs index) taken_is s.table
        ∙ ap (index_after (is_hand e) (hands_in es) (length es + 1) (run sheet es).chairs) s.rows
        ∙ row_more sheet s.good es e index s.all (rows-room (is_hand e) kind_hand)

    entered_so : {b' : Book} {log' index' : List ℕ} → b' ≡ record { table = next_of b.table n e; hands = b.hands + one (eqb k 2) }
        → log' ≡ put_record log b.table.taken (made k seat a c)
        → index' ≡ index_after (eqb k 2) b.hands (b.table.taken + 1) b.table.chairs index → Entered b' log' index'
    entered_so {b'} {log'} {index'} eb el ei = record {
      stored = record {
        good = s.good;
        all = (code-run, s.all);
        table = ap (λ (y : Book). y.table) eb ∙ table-run;
        hands = ap (λ (y : Book). y.hands) eb ∙ ap₂ (λ (m : ℕ) (h : Bool). m + one h) s.hands kind_hand;
        count = omega (arith, room.few, taken_is);
        records = over_twice (records_of (e ∷ es)) log (el ∙ log_is);
        rows = over_twice (rows_of sheet (e ∷ es)) index (ei ∙ index_is);
      };
      records-over = el ∙ log_is;
      rows-over = ei ∙ index_is;
    }

  pub entered : (entered_of b block log index out).code ≡ 0 → Entered (entered_of b block log index out).book (log_entered b block log index out) (index_entered b block log index out)
  unfolding entered_of log_entered index_entered judged_entry log_after index_kept
  entered h =
      let i : Judged = judge_block b.table block in
      let full : Bool = is_full b.table.taken b.hands (eqb k 2) (length log) (length index) in
      let jj : Judged = held_back b.table full i in
      let w : Result ℕ Refusal = written_of (judged_bytes jj) out in
      let told = told_zero b jj (hands_after (was_taken w jj.code) b (made k seat a c)) w h in
      let held = held_zero b.table full i told.0 in
      let ok : was_taken w jj.code ≡ true = told.1 in
      let table : jj.table ≡ next_of b.table n e = ap (λ (y : Judged). y.table) (held.1.0 ∙ parsed_is) in
      let zero : code_of b.table n e ≡ 0 = sym (ap (λ (y : Judged). y.code) parsed_is) ∙ held.1.1 in
      entered_so held.0 zero
      (told.2 ∙ ap₂ (λ (u : Table) (q : Bool). record { table = u; hands = hands_after q b (made k seat a c) }) table ok)
      (ap (λ (q : Bool). pick q (put_record log b.table.taken (made k seat a c)) log) ok)
      (ap (λ (q : Bool). pick q (index_after (eqb k 2) b.hands (b.table.taken + 1) b.table.chairs index) index) ok)
