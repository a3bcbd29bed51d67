-- `added` meets its contract. The invariant: the first i places are those of the sum.
-- Assumes nothing.
use Prim.Native.Nat.{◌+◌}
use mathlib.Core.Path.{◌≡◌, refl, sym, ap, ◌∙◌}
use mathlib.Core.List.{◌∷◌}
use native.Mathlib.Omega.{arith}
use borrow.Author.Rules.{rules}
use lib.ListN.{length, get_or, drop, length-set}
use Rattle.pots.specs.Hand.{plus}
use Rattle.laws.proofs.Places.{front_turn, front_done}
use Rattle.pots.proofs.Hands.{plus_at, plus_length, at_most_sum}
use Rattle.pots.proofs.hand.added.Goals as goal

pub overflow_add-a : goal.overflow_add-a
overflow_add-a c =
    let i = c.loop-i.i in
    let a = c.args in
    let n : length a.xs ≡ 10 = search rules in
    let m : length a.ys ≡ 10 = search rules in
    record { fits = omega (arith, plus_at a.xs a.ys i (n ∙ sym m) (search rules), at_most_sum (plus a.xs a.ys) i) }

pub loop-i-preserved : goal.loop-i-preserved
loop-i-preserved c =
    let l = c.loop-i in
    let a = c.args in
    let x = get_or a.xs l.i 0 + get_or a.ys l.i 0 in
    let n : length a.xs ≡ 10 = search rules in
    let m : length a.ys ≡ 10 = search rules in (
      length-set l.a l.i x ∙ l.invariant.0,
      front_turn (λ k. k) (λ k. k) 0 l.a _ (plus a.xs a.ys) l.i x (search rules) (rw plus_length (search rules))
          (ap (λ k. k ∷ drop (l.i + 1) (plus a.xs a.ys)) (plus_at a.xs a.ys l.i (n ∙ sym m) (search rules))) l.invariant.1,
    )

pub returns : goal.returns
returns c =
    let l = c.loop-i in
    let a = c.args in
    front_done (λ k. k) l.a _ (plus a.xs a.ys) l.i (search rules) (rw plus_length (search rules)) refl l.invariant.1
