-- `cards::weighing::in_full` meets its contract. Assumes nothing.
use mathlib.Core.Path.{◌≡◌, ap, ◌∙◌}
use Prim.Native.Nat.{max}
use borrow.Author.Rules.{rules}
use Rattle.cards.specs.Hands.{value_of}
use Rattle.cards.proofs.Searched.{class_small}
use Rattle.cards.proofs.Weighed.{larger_better}
use Rattle.cards.proofs.weighing.in_full.Goals as goal

pub value-requires : goal.value-requires
value-requires c = c.requires.0

pub number_of-requires : goal.number_of-requires
number_of-requires c = class_small _ _ _ c.value.ensures

pub returns : goal.returns
returns c =
    let s = c in
    let m : c.max.result ≡ max s.args.so_far c.number_of.result = search rules in
    larger_better s.args.ranking s.requires.0 s.args.so_far c.number_of.result s.args.chosen _ c.value.result s.requires.1 c.number_of.ensures
    (c.value.ensures ∙ ap (value_of s.args.ranking) c.five_in.ensures) m
