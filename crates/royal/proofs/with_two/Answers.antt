-- `with_two` meets its contract: the board's five cards. Assumes nothing.
use mathlib.Core.Path.{◌≡◌, ap, ◌∙◌}
use mathlib.Core.List.{List, [], ◌∷◌, ◌++◌, map}
use Prim.Native.Nat.{ℕ}
use lib.ListN.{length}
use Rattle.cards.specs.Order.{choices}
use Rattle.royal.specs.Royal.{any_royal}
use Rattle.royal.proofs.Laws.{spelled}
use borrow.Author.Rules.{rules}
use Rattle.royal.proofs.with_two.Goals as goal

pub returns : goal.returns
returns c =
    let a = c.args in
    let five : length a.k ≡ 5 = search rules in
    c.with_five.ensures ∙ ap (λ (k : List ℕ). any_royal (map (λ q. (a.x ∷ a.y ∷ []) ++ q) (choices 3 k))) (spelled a.k five)
