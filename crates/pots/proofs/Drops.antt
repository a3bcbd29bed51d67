-- What a hand drops (request No. 7): at most the table's drop and what the commission leaves of the lowest pot; nothing without a board card, without a pot,
-- or at a table whose drop is 0. For any number of pots.
-- Assumes nothing.
use Prim.Native.Nat.{ℕ, zero, suc, ◌-◌, ◌≤◌, min, zero-le}
use mathlib.Core.Path.{◌≡◌, refl, ap}
use mathlib.Core.Bool.{Bool, true, false}
use mathlib.Core.List.{List, [], ◌∷◌}
use native.Mathlib.Omega.{arith}
use lib.Dec.{eqb}
use lib.ListN.{get_or, replicate}
use Rattle.laws.specs.Tests.{pick}
use Rattle.pots.specs.declared.Pot.{Pot}
use Rattle.pots.specs.declared.Commission.{Commission}
use Rattle.pots.specs.Runs.{pot, pot_sum, padded}
use Rattle.pots.specs.Settle.{fee_of}
use Rattle.pots.specs.Hand.{lowest_after, drop_of}

picked : (b : Bool) (x : ℕ) → pick b 0 x ≤ x
picked true x = zero-le
picked false x = omega arith

-- the drop is at most what the sheet says, and at most what the commission leaves of the lowest pot
pub drop_most : (rule : Commission) (ps : List Pot) → drop_of rule ps ≤ rule.drop
unfolding drop_of
drop_most rule ps = omega (arith, picked (eqb rule.board 0) (min rule.drop (lowest_after rule rule.cap ps)))

pub drop_fits : (rule : Commission) (ps : List Pot) → drop_of rule ps ≤ lowest_after rule rule.cap ps
unfolding drop_of
drop_fits rule ps = omega (arith, picked (eqb rule.board 0) (min rule.drop (lowest_after rule rule.cap ps)))

-- no board card, no drop
pub drop_none : (rule : Commission) (ps : List Pot) → rule.board ≡ 0 → drop_of rule ps ≡ 0
unfolding drop_of
drop_none rule ps e = rw e

-- no pot, no drop
pub drop_nowhere : (rule : Commission) → drop_of rule [] ≡ 0
unfolding lowest_after
drop_nowhere rule = omega (arith, drop_fits rule [])

-- a table whose drop is 0 drops nothing
pub drop_lone : (rule : Commission) (ps : List Pot) → rule.drop ≡ 0 → drop_of rule ps ≡ 0
drop_lone rule ps e = omega (arith, drop_most rule ps)

-- what is left of the lowest pot, of a list that has an empty pot behind its last
pub lowest_first : (rule : Commission) (left : ℕ) (ps : List Pot) → lowest_after rule left ps ≡ (get_or ps 0 (pot 0 0)).amount - fee_of rule left (get_or ps 0 (pot 0 0)).amount
unfolding lowest_after
lowest_first rule left [] = omega arith
lowest_first rule left (p ∷ ps) = refl

pub drop_first : (rule : Commission) (ps : List Pot)
    → drop_of rule ps ≡ pick (eqb rule.board 0) 0 (min rule.drop ((get_or ps 0 (pot 0 0)).amount - fee_of rule rule.cap (get_or ps 0 (pot 0 0)).amount))
unfolding drop_of
drop_first rule ps = ap (λ (k : ℕ). pick (eqb rule.board 0) 0 (min rule.drop k)) (lowest_first rule rule.cap ps)

-- the first of a list of pots in n places is the lowest, or an empty one
pub padded_lowest : (n : ℕ) (ps : List Pot) → get_or (padded n ps) 0 (pot 0 0) ≡ get_or ps 0 (pot 0 0)
unfolding padded
padded_lowest n [] = empty (n - 0)
  where
    empty : (k : ℕ) → get_or (replicate k (pot 0 0)) 0 (pot 0 0) ≡ pot 0 0
    empty zero = refl
    empty (suc k) = refl
padded_lowest n (p ∷ ps) = refl

pub lowest_within : (ps : List Pot) → (get_or ps 0 (pot 0 0)).amount ≤ pot_sum ps
unfolding pot_sum
lowest_within [] = zero-le
lowest_within (p ∷ ps) = omega arith
