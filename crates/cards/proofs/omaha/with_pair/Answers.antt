-- `with_pair` meets its contract.
use mathlib.Core.Path.{refl, ap, ◌∙◌}
use mathlib.Core.List.{List}
use Prim.Native.Nat.{ℕ}
use Rattle.cards.specs.Order.{keep, values_from}
use Rattle.cards.specs.Packed.{hand_in}
use Rattle.cards.proofs.Pairs.{two_digits}
use borrow.Author.Rules.{rules}
use Rattle.cards.proofs.omaha.with_pair.Goals as goal

pub returns : goal.returns
returns c =
    let s = c in
    let two = two_digits s.args.a s.args.b _ (search rules) (search rules) refl in record { is = c.best.ensures.is ∙ ap (λ (p : List ℕ). keep s.args.ranking (hand_in s.args.so_far) (values_from s.args.ranking p 3 s.args.board.now)) two; small = c.best.ensures.small }
