-- Seven cards, seen one after another from the last to the first, and the hand that their counts name.
use mathlib.Core.Path.{◌≡◌, ap, ◌∙◌}
use native.Mathlib.Omega.{arith}
use lib.ListN.{length}
use Rattle.counts.specs.HandOrder.{named, counted_hand}
use Rattle.counts.proofs.Dealt.{low_at}
use Rattle.counts.proofs.Gathered.{seven_shown}
use borrow.Author.Rules.{rules}
use Rattle.counts.proofs.hand_by_counts.Goals as goal

pub see-requires : goal.see-requires
see-requires c = (low_at c.args.cards 6 c.requires.0, omega (arith, c.unseen.ensures.small))

pub see-requires-2 : goal.see-requires-2
see-requires-2 c = (low_at c.args.cards 5 c.requires.0, omega (arith, c.unseen.ensures.small, c.see.ensures.small))

pub see-three-requires : goal.see-three-requires
see-three-requires c = (low_at c.args.cards 4 c.requires.0, omega (arith, c.unseen.ensures.small, c.see.ensures.small, c.see-2.ensures.small))

pub see-requires-3 : goal.see-requires-3
see-requires-3 c = (low_at c.args.cards 3 c.requires.0, omega (arith, c.unseen.ensures.small, c.see.ensures.small, c.see-2.ensures.small, c.see-three.ensures.small))

pub see-five-requires : goal.see-five-requires
see-five-requires c = (low_at c.args.cards 2 c.requires.0, omega (arith, c.unseen.ensures.small, c.see.ensures.small, c.see-2.ensures.small, c.see-three.ensures.small, c.see-3.ensures.small))

pub see-requires-4 : goal.see-requires-4
see-requires-4 c = (low_at c.args.cards 1 c.requires.0, omega (arith, c.unseen.ensures.small, c.see.ensures.small, c.see-2.ensures.small, c.see-three.ensures.small, c.see-3.ensures.small, c.see-five.ensures.small))

pub see-requires-5 : goal.see-requires-5
see-requires-5 c = (low_at c.args.cards 0 c.requires.0, omega (arith, c.unseen.ensures.small, c.see.ensures.small, c.see-2.ensures.small, c.see-three.ensures.small, c.see-3.ensures.small, c.see-five.ensures.small, c.see-4.ensures.small))

pub name-requires : goal.name-requires
name-requires c =
    let a = c in
    let k : length a.args.cards ≡ 7 = search rules in
    let s = seven_shown a.args.cards c.see-5.result c.masks_of.result k a.requires.0 a.requires.1 (c.see-5.ensures.is _ (c.see-4.ensures.is _ (c.see-five.ensures.is _ (c.see-3.ensures.is _ (c.see-three.ensures.is _ (c.see-2.ensures.is _ (c.see.ensures.is _ c.unseen.ensures.is))))))) c.masks_of.ensures in
    s.short

pub returns : goal.returns
unfolding counted_hand
returns c =
    let a = c in
    let k : length a.args.cards ≡ 7 = search rules in
    let s = seven_shown a.args.cards c.see-5.result c.masks_of.result k a.requires.0 a.requires.1 (c.see-5.ensures.is _ (c.see-4.ensures.is _ (c.see-five.ensures.is _ (c.see-3.ensures.is _ (c.see-three.ensures.is _ (c.see-2.ensures.is _ (c.see.ensures.is _ c.unseen.ensures.is))))))) c.masks_of.ensures in
    c.name.ensures ∙ ap named s.are
