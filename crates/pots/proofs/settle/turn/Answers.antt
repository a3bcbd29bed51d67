-- `turn` meets its contract. The invariant: the first j places are those of the turned list.
-- Assumes nothing.
use Prim.Native.Nat.{◌+◌, ◌%◌}
use mathlib.Core.Path.{◌≡◌, refl, sym, ap, ◌∙◌}
use mathlib.Core.List.{◌∷◌}
use native.Mathlib.Omega.{arith}
use borrow.Author.Rules.{rules}
use lib.ListN.{length, get_or, drop, length-set}
use Rattle.pots.specs.Settle.{turned}
use Rattle.laws.proofs.Places.{front_turn, front_done}
use Rattle.pots.proofs.Settling.{turned_at, turned_length}
use Rattle.pots.proofs.settle.turn.Goals as goal

pub loop-j-preserved : goal.loop-j-preserved
loop-j-preserved c =
    let l = c.loop-j in
    let a = c.args in
    let n : length a.xs ≡ 10 = search rules in
    let x = get_or a.xs c.around.result 0 in (
      length-set l.a l.j x ∙ l.invariant.0,
      front_turn (λ k. k) (λ k. k) 0 l.a _ (turned a.k a.xs) l.j x (search rules) (rw turned_length (search rules))
          (ap (λ k. k ∷ drop (l.j + 1) (turned a.k a.xs))
          (turned_at a.k a.xs l.j (omega (arith, n)) (omega (arith, n))
          ∙ ap (λ m. get_or a.xs ((a.k + l.j) % m) 0) n
          ∙ ap (λ m. get_or a.xs m 0) (sym c.around.ensures.1)))
          l.invariant.1,
    )

pub returns : goal.returns
returns c =
    let l = c.loop-j in
    let a = c.args in
    front_done (λ k. k) l.a _ (turned a.k a.xs) l.j (search rules) (rw turned_length (search rules)) refl l.invariant.1
