-- A correction read line by line, and judged step by step. Assumes nothing.
use mathlib.Core.Path.{◌≡◌, refl, sym, ap, ◌∙◌, subst}
use mathlib.Core.Bool.{Bool, true, false, not}
use mathlib.Core.List.{List, [], ◌∷◌}
use Prim.Native.Nat.{ℕ, ◌-◌, ◌<◌, ◌^◌}
use native.Mathlib.Omega.{arith}
use lib.ListN.{length}
use lib.Dec.{eqb, ltb}
use borrow.Author.Tests.{eq-eqb, ne_eqb}
use Rattle.std.specs.Prelude.{Option, Some, None, Result, Ok, Err}
use Rattle.paper.specs.declared.refusal.Refusal.TheVariants.{OutOfRange}
use Rattle.paper.specs.declared.refusal.Refusal.{Refusal}
use Rattle.laws.specs.Tests.{pick, both}
use Rattle.paper.specs.declared.Entry.{Entry}
use Rattle.text.specs.Line.{line_len, after_line, after_lines, value_of, line_number}
use Rattle.text.specs.TableSheet.{is_value, value_in}
use Rattle.text.proofs.Numbers.{number_back}
use Rattle.blocks.specs.Block.{line_kind, block_from}
use Rattle.blocks.specs.Entry.{parsed_of}
use Rattle.blocks.specs.Front.{block_ended}
use Rattle.blocks.specs.declared.Block.{Block}
use Rattle.blocks.specs.declared.Block.TheVariants.{Raw}
use Rattle.table.specs.Settle.{no_payout}
use Rattle.table.specs.Take.{Sound}
use Rattle.table.specs.declared.table.Table.{Table}
use Rattle.table.specs.declared.table.Payout.{Payout}
use Rattle.records.specs.Stored.{record_in, entry_in}
use Rattle.records.specs.declared.Record.{Record}
use Rattle.fresh.specs.Reading.{replacing, played_to}
use Rattle.fresh.specs.declared.Played.{Played}
use Rattle.fresh.proofs.Counts.{played_sheet, played_count}
use Rattle.desk.specs.Desk.{refused_at, SmallPaid}
use Rattle.desk.specs.declared.Judged.{Judged}
use Rattle.desk.proofs.Laws.{small_none}
use Rattle.amends.specs.Righting.{right_key, right_of, is_right, number_of, is_six, outside, right_code, parsed_in, righted_by, replayed_of, code_before, judged_right}
use Rattle.amends.specs.declared.Right.{Right}

-- ---- its five lines

-- a number that was read has at most nine digits
value_small : (x : Option ℕ) → ((v : ℕ) → x ≡ Some v → v < 10 ^ 9) → value_in x < 10 ^ 9
value_small (Some v) h = h v refl
value_small None h = omega arith

pub right_five : (l : List ℕ) {l1 l2 l3 l4 : List ℕ} {n k s a b : Option ℕ} {r : Block}
    → n ≡ line_number right_key l
    → l1 ≡ after_line l → k ≡ line_kind l1
    → l2 ≡ after_line l1 → s ≡ line_number (115 ∷ 101 ∷ 97 ∷ 116 ∷ []) l2
    → l3 ≡ after_line l2 → a ≡ line_number (97 ∷ []) l3
    → l4 ≡ after_line l3 → b ≡ line_number (98 ∷ []) l4
    → r ≡ block_from n k s a b → record { n = n; kind = k; block = r } ≡ right_of l
unfolding right_of
right_five l en e1 ek e2 es e3 ea e4 eb er = rw (er, en, ek, es, ea, eb, e4, e3, e2, e1)

pub right_small : (l : List ℕ) {n : Option ℕ} → n ≡ line_number right_key l → value_in n < 10 ^ 9
right_small l {n} e = value_small n (λ v h. (number_back (value_of right_key l) v (sym e ∙ h)).1)

pub ended_is : (l : List ℕ) {fifth : List ℕ} {e : ℕ} → fifth ≡ after_lines 4 l → e ≡ line_len fifth → ltb e (length fifth) ≡ block_ended l
unfolding block_ended
ended_is l {fifth} {e} p q = ap (λ (k : ℕ). ltb k (length fifth)) q ∙ ap (λ (t : List ℕ). ltb (line_len t) (length t)) p

pub right_yes : (l : List ℕ) {x : Option ℕ} {v : ℕ} {b : Bool} → x ≡ line_number right_key l → x ≡ Some v → b ≡ block_ended l → b ≡ is_right l
unfolding is_right
right_yes l {x} {v} {b} e h g = g ∙ ap (λ (y : Option ℕ). both (is_value y) (block_ended l)) (sym h ∙ e)

pub right_no : (l : List ℕ) {x : Option ℕ} → x ≡ line_number right_key l → x ≡ None → false ≡ is_right l
unfolding is_right
right_no l {x} e h = ap (λ (y : Option ℕ). both (is_value y) (block_ended l)) (sym h ∙ e)

-- ---- 14, then 2

pub outside_value : (x : Option ℕ) {k : ℕ} {b : Bool} → x ≡ Some k → b ≡ is_six k → not b ≡ outside x
outside_value x {k} {b} e h = ap not h ∙ ap outside (sym e)

pub parsed_raw : (x : Block) {n k s a b : ℕ} {p : Result Entry Refusal} → x ≡ Raw n k s a b → p ≡ parsed_of k s a b → p ≡ parsed_in x
parsed_raw x {n} {k} {s} {a} {b} {p} e h = h ∙ ap parsed_in (sym e)

-- ---- 13, or the fresh reading

abbrev Rightly : Judged → Judged → Type 0
Rightly r j = (r ≡ j) × Sound r.table × SmallPaid r.payout

pub refused_right : (t : Table) (n code : ℕ) {r j : Judged} → Sound t → r ≡ refused_at t n code → refused_at t n code ≡ j → Rightly r j
refused_right t n code {r} {j} s e h = (
  e ∙ h,
  subst (λ (x : Judged). Sound x.table) (sym e) s,
  subst (λ (x : Judged). SmallPaid x.payout) (sym e) small_none,
)

module _ (t : Table) (n : ℕ) (p : Played) where
  abbrev taking : Payout → Judged
  taking paid = record { block = true; n = n; code = 0; table = p.table; payout = paid }

  pub righted_yes : {none : Payout} → p.ok ≡ true → none ≡ no_payout → Sound p.table → Rightly (taking none) (righted_by t n p)
  unfolding righted_by
  righted_yes {none} e h s = (
    ap taking h ∙ sym (ap (λ (b : Bool). pick b (taking no_payout) (refused_at t n 13)) e),
    s,
    subst SmallPaid (sym h) small_none,
  )

  pub righted_no : p.ok ≡ false → refused_at t n 13 ≡ righted_by t n p
  unfolding righted_by
  righted_no e = sym (ap (λ (b : Bool). pick b (taking no_payout) (refused_at t n 13)) e)

pub replayed_none : (t : Table) (n : ℕ) (log : List ℕ) {x : Result Entry Refusal} {why : Refusal} → x ≡ Err why → refused_at t n 13 ≡ replayed_of t n x log
replayed_none t n log e = ap (λ (y : Result Entry Refusal). replayed_of t n y log) (sym e)

pub replayed_read : (t : Table) (n : ℕ) (log : List ℕ) {x : Result Entry Refusal} {e : Entry} {m : ℕ} {p : Played} {r : Judged} → x ≡ Ok e → m ≡ n - 1
    → p ≡ played_to t.sheet (replacing m e (entry_in log)) t.taken → r ≡ righted_by t n p → r ≡ replayed_of t n x log
replayed_read t n log {x} {e} {m} {p} {r} f g h i =
    i ∙ ap (righted_by t n) (h ∙ ap (λ (k : ℕ). played_to t.sheet (replacing k e (entry_in log)) t.taken) g) ∙ ap (λ (y : Result Entry Refusal). replayed_of t n y log) (sym f)

-- ---- all of it

module _ (t : Table) (shared : Bool) (r : Right) (log : List ℕ) where
  pub code_is : {n m code : ℕ} {old : Record} → n ≡ number_of r → m ≡ n - 1 → old ≡ record_in log m → code ≡ right_code shared t.taken n old.kind r.kind
      → code ≡ code_before t shared r log
  code_is {n} {m} {code} {old} e f g h =
      h ∙ ap (λ (x : Record). right_code shared t.taken n x.kind r.kind) (g ∙ ap (record_in log) f)
      ∙ ap (λ (k : ℕ). right_code shared t.taken k (record_in log (k - 1)).kind r.kind) e

  pub judged_no : {n code : ℕ} → n ≡ number_of r → code ≡ code_before t shared r log → (code ≡ 0 → ⊥) → refused_at t n code ≡ judged_right t shared r log
  unfolding judged_right
  judged_no {n} {code} e h f =
      ap (λ (k : ℕ). refused_at t k code) e ∙ ap (refused_at t (number_of r)) h
      ∙ sym (ap (λ (b : Bool). pick b (replayed_of t (number_of r) (parsed_in r.block) log) (refused_at t (number_of r) (code_before t shared r log)))
      (ne_eqb (code_before t shared r log) 0 (λ q. f (h ∙ q))))

  pub judged_yes : {n code : ℕ} {x : Result Entry Refusal} {j : Judged} → n ≡ number_of r → code ≡ code_before t shared r log → code ≡ 0 → x ≡ parsed_in r.block
      → j ≡ replayed_of t n x log → j ≡ judged_right t shared r log
  unfolding judged_right
  judged_yes {n} {code} {x} {j} e h f g i =
      i ∙ ap (λ (k : ℕ). replayed_of t k x log) e ∙ ap (λ (y : Result Entry Refusal). replayed_of t (number_of r) y log) g
      ∙ sym (ap (λ (b : Bool). pick b (replayed_of t (number_of r) (parsed_in r.block) log) (refused_at t (number_of r) (code_before t shared r log)))
      (eq-eqb (code_before t shared r log) 0 (sym h ∙ f)))

-- the number of what was judged is the corrected one
righted_by_n : (t : Table) (n : ℕ) (p : Played) → (righted_by t n p).n ≡ n
unfolding righted_by
righted_by_n t n p = go p.ok
  where
    go : (b : Bool) → (pick b (record { block = true; n = n; code = 0; table = p.table; payout = no_payout }) (refused_at t n 13)).n ≡ n
    go true = refl
    go false = refl

replayed_n : (t : Table) (n : ℕ) (x : Result Entry Refusal) (log : List ℕ) → (replayed_of t n x log).n ≡ n
replayed_n t n (Ok e) log = righted_by_n t n (played_to t.sheet (replacing (n - 1) e (entry_in log)) t.taken)
replayed_n t n (Err why) log = refl

pub judged_n : (t : Table) (shared : Bool) (r : Right) (log : List ℕ) → (judged_right t shared r log).n ≡ number_of r
unfolding judged_right
judged_n t shared r log = go (eqb (code_before t shared r log) 0)
  where
    go : (b : Bool) → (pick b (replayed_of t (number_of r) (parsed_in r.block) log) (refused_at t (number_of r) (code_before t shared r log))).n ≡ number_of r
    go true = replayed_n t (number_of r) (parsed_in r.block) log
    go false = refl

pub judged_small : (t : Table) (shared : Bool) (r : Right) (log : List ℕ) {j : Judged} → number_of r < 10 ^ 9 → j ≡ judged_right t shared r log → j.n < 10 ^ 9
judged_small t shared r log h e = subst (λ (k : ℕ). k < 10 ^ 9) (sym (ap (λ (x : Judged). x.n) e ∙ judged_n t shared r log)) h

-- a correction changes neither the sheet nor how many entries are taken
righted_keeps : (t : Table) (n : ℕ) (p : Played) → p.table.sheet ≡ t.sheet → (p.ok ≡ true → p.table.taken ≡ t.taken)
    → ((righted_by t n p).table.sheet ≡ t.sheet) × ((righted_by t n p).table.taken ≡ t.taken)
unfolding righted_by
righted_keeps t n p s c = go p.ok c
  where
    go : (b : Bool) → (b ≡ true → p.table.taken ≡ t.taken)
        → ((pick b (record { block = true; n = n; code = 0; table = p.table; payout = no_payout }) (refused_at t n 13)).table.sheet ≡ t.sheet)
        × ((pick b (record { block = true; n = n; code = 0; table = p.table; payout = no_payout }) (refused_at t n 13)).table.taken ≡ t.taken)
    go true q = (s, q refl)
    go false q = (refl, refl)

replayed_keeps : (t : Table) (n : ℕ) (x : Result Entry Refusal) (log : List ℕ) → ((replayed_of t n x log).table.sheet ≡ t.sheet) × ((replayed_of t n x log).table.taken ≡ t.taken)
replayed_keeps t n (Ok e) log =
    let f = replacing (n - 1) e (entry_in log) in
    righted_keeps t n (played_to t.sheet f t.taken) (played_sheet t.sheet f t.taken) (played_count t.sheet f t.taken)
replayed_keeps t n (Err why) log = (refl, refl)

pub judged_keeps : (t : Table) (shared : Bool) (r : Right) (log : List ℕ)
    → ((judged_right t shared r log).table.sheet ≡ t.sheet) × ((judged_right t shared r log).table.taken ≡ t.taken)
unfolding judged_right
judged_keeps t shared r log = go (eqb (code_before t shared r log) 0)
  where
    j : Bool → Judged
    j b = pick b (replayed_of t (number_of r) (parsed_in r.block) log) (refused_at t (number_of r) (code_before t shared r log))

    go : (b : Bool) → ((j b).table.sheet ≡ t.sheet) × ((j b).table.taken ≡ t.taken)
    go true = replayed_keeps t (number_of r) (parsed_in r.block) log
    go false = (refl, refl)
