-- `raised` meets its contract. The invariant: what is written and the rest with 1 added are those of all.
-- Assumes nothing.
use Prim.Native.Nat.{suc, ◌+◌}
use mathlib.Core.Path.{refl, sym, ap, ◌∙◌}
use mathlib.Core.List.{◌∷◌, map}
use native.Mathlib.Omega.{arith}
use borrow.Author.Rules.{rules}
use lib.ListN.{get_or, drop, length-set}
use native.Mathlib.Numerals.{add-one}
use Rattle.laws.proofs.Places.{front_turn, front_done}
use Rattle.pots.proofs.hand.raised.Goals as goal

pub overflow_add-a : goal.overflow_add-a
overflow_add-a c = record { fits = omega (arith, c.requires c.loop-i.i) }

pub loop-i-preserved : goal.loop-i-preserved
loop-i-preserved c =
    let l = c.loop-i in
    let xs = c.args.xs in (
      length-set l.a l.i (get_or xs l.i 0 + 1) ∙ l.invariant.0,
      front_turn (map suc) (map suc) 0 l.a _ xs l.i (get_or xs l.i 0 + 1) (search rules) (search rules)
          (ap (λ k. k ∷ map suc (drop (l.i + 1) xs)) (sym (add-one (get_or xs l.i 0)))) l.invariant.1,
    )

pub returns : goal.returns
returns c =
    let l = c.loop-i in
    front_done (map suc) l.a _ c.args.xs l.i (search rules) (search rules) refl l.invariant.1
