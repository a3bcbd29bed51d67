-- The records that a log's reader comes to, one after another, are its entries in their order; so what is read of them is the fresh reading. Assumes nothing.
use mathlib.Core.Path.{◌≡◌, refl, sym, ap, ap₂, ◌∙◌, subst}
use Rattle.std.specs.Prelude.{Option, unwrap_or}
use mathlib.Core.Logic.{◌⊎◌, inl, inr}
use mathlib.Core.List.{List}
use Prim.Native.Nat.{ℕ, zero, suc, ◌+◌, ◌-◌, ◌*◌, ◌≤◌, ◌<◌}
use native.Mathlib.Omega.{arith}
use lib.Dec.{eqb, ltb}
use lib.ListN.{length}
use borrow.Author.Tests.{ltb-true, ltb-false}
use Rattle.laws.specs.Tests.{pick}
use Rattle.laws.proofs.Tests.{test}
use Rattle.paper.specs.declared.Entry.{Entry}
use Rattle.paper.specs.declared.Sheet.{Sheet}
use Rattle.records.specs.Stored.{no_record, record_at, entry_by, entry_in}
use Rattle.records.specs.declared.Record.{Record}
use Rattle.records.proofs.Found.{absent, next_is, next_stays}
use Rattle.fresh.specs.Reading.{begun_of, played_of, played_from, played_to, replacing, entry_or, place_to, met, read_to}
use Rattle.fresh.specs.declared.Played.{Played}

-- ---- the records

module _ (log : List ℕ) where
  -- a reader stands at the k-th record, or stays where no record is left
  abbrev Stands : ℕ → Type 0
  Stands k = (place_to log k ≡ 8 * k) ⊎ ((length log - place_to log k < 8) × (length log - 8 * k < 8))

  further : (k : ℕ) → length log - 8 * k < 8 → length log - 8 * suc k < 8
  further k l = omega (arith, l)

  stands_on : (k : ℕ) → Stands k → Stands (suc k)
  stands_on k (inl e) = elim (test (ltb (length log - place_to log k) 8)) [
    | inl y ↦ ending (ltb-true (length log - place_to log k) 8 y)
    | inr n ↦ going (ltb-false (length log - place_to log k) 8 n)
  ]
    where
      ending : length log - place_to log k < 8 → Stands (suc k)
      ending l = inr (
        subst (λ (at : ℕ). length log - at < 8) (sym (next_stays log (place_to log k) l)) l,
        further k (subst (λ (at : ℕ). length log - at < 8) e l),
      )

      going : 8 ≤ length log - place_to log k → Stands (suc k)
      going l = inl (let n = next_is log (place_to log k) l in omega (arith, n, e))
  stands_on k (inr l) = inr (
    subst (λ (at : ℕ). length log - at < 8) (sym (next_stays log (place_to log k) l.0)) l.0,
    further k l.1,
  )

  stands : (k : ℕ) → Stands k
  stands zero = inl refl
  stands (suc k) = stands_on k (stands k)

  pub entry_is : (k : ℕ) → entry_by (met log k) ≡ entry_in log k
  entry_is k = elim (stands k) [
    | inl e ↦ ap (λ (at : ℕ). entry_by (unwrap_or (record_at log at) no_record)) e
    | inr l ↦ ap none_or (sym (absent log (place_to log k) refl l.0)) ∙ ap none_or (absent log (8 * k) refl l.1)
  ]
    where
      none_or : Option Record → Entry
      none_or r = entry_by (unwrap_or r no_record)

-- ---- what is read of them

module _ (p : Played) (log : List ℕ) (at : ℕ) (e : Entry) where
  -- the i-th entry, or what replaces it
  or_is : (i : ℕ) → entry_or i at e (met log i) ≡ replacing at e (entry_in log) i
  or_is i = ap (λ (x : Entry). pick (eqb i at) e x) (entry_is log i)

  pub played_is : (i : ℕ) → read_to p log at e i ≡ played_from p (replacing at e (entry_in log)) i
  played_is zero = refl
  played_is (suc i) = ap₂ (λ (q : Played) (x : Entry). played_of q (i + 1) x) (played_is i) (or_is i)

-- what is read to the last is the fresh reading
pub all : (sheet : Sheet) (log : List ℕ) (count at : ℕ) (e : Entry) → read_to (begun_of sheet) log at e count ≡ played_to sheet (replacing at e (entry_in log)) count
all sheet log count at e = played_is (begun_of sheet) log at e count
