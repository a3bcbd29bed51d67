-- What every table of a fresh reading has: the sheet, and where every entry was taken their count. Assumes nothing.
use mathlib.Core.Path.{◌≡◌, refl, ap, ◌∙◌}
use mathlib.Core.Bool.{Bool, true, false}
use Prim.Native.Nat.{ℕ, zero, suc, ◌+◌}
use native.Mathlib.Omega.{arith}
use lib.Dec.{eqb}
use borrow.Author.Tests.{eqb-true}
use Rattle.laws.specs.Tests.{pick}
use Rattle.laws.proofs.Tests.{both_true}
use Rattle.paper.specs.declared.Sheet.{Sheet}
use Rattle.paper.specs.declared.Entry.{Entry}
use Rattle.table.specs.State.{with_taken}
use Rattle.table.specs.Take.{code_of, next_of, applied_to}
use Rattle.table.specs.declared.table.Table.{Table}
use Rattle.table.proofs.Standing.{sheet_applied}
use Rattle.table.proofs.Refusals.{taken_counted}
use Rattle.fresh.specs.Reading.{played_of, played_to}
use Rattle.fresh.specs.declared.Played.{Played}

pub next_sheet : (t : Table) (n : ℕ) (e : Entry) → (next_of t n e).sheet ≡ t.sheet
unfolding next_of
next_sheet t n e = go (eqb (code_of t n e) 0)
  where
    go : (b : Bool) → (pick b (with_taken (applied_to t e) n) t).sheet ≡ t.sheet
    go true = sheet_applied t e
    go false = refl

pub played_sheet : (sheet : Sheet) (f : ℕ → Entry) (k : ℕ) → (played_to sheet f k).table.sheet ≡ sheet
unfolding played_of
played_sheet sheet f zero = refl
played_sheet sheet f (suc k) = next_sheet (played_to sheet f k).table (k + 1) (f k) ∙ played_sheet sheet f k

-- one entry more was taken, and all before it
pub played_step : (p : Played) (n : ℕ) (e : Entry) → (played_of p n e).ok ≡ true → (p.ok ≡ true) × (code_of p.table n e ≡ 0)
unfolding played_of
played_step p n e h = let q = both_true p.ok (eqb (code_of p.table n e) 0) h in (q.0, eqb-true (code_of p.table n e) 0 q.1)

pub played_next : (p : Played) (n : ℕ) (e : Entry) → (played_of p n e).table ≡ next_of p.table n e
unfolding played_of
played_next p n e = refl

pub played_count : (sheet : Sheet) (f : ℕ → Entry) (k : ℕ) → (played_to sheet f k).ok ≡ true → (played_to sheet f k).table.taken ≡ k
played_count sheet f zero h = refl
played_count sheet f (suc k) h =
    let p = played_to sheet f k in
    let s = played_step p (k + 1) (f k) h in
    ap (λ (t : Table). t.taken) (played_next p (k + 1) (f k)) ∙ taken_counted p.table (k + 1) (f k) s.1 ∙ omega (arith, played_count sheet f k s.0)
