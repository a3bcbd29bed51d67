-- `cards::weighing::better` meets its contract. Assumes nothing.
use mathlib.Core.Path.{◌≡◌}
use Prim.Native.Nat.{max}
use native.Mathlib.Omega.{arith}
use borrow.Author.Rules.{rules}
use Rattle.cards.specs.Falls.{spread}
use Rattle.cards.proofs.Weighed.{odd-better, row_kept, row-class, row-better}
use Rattle.cards.proofs.weighing.better.Goals as goal

pub returns-then-k-eq0 : goal.returns-then-k-eq0
returns-then-k-eq0 c =
    let s = c in
    odd-better s.args.ranking s.requires.0 s.args.so_far s.args.chosen c.ranks_in-ranks.result c.steps_in-steps.result c.marks_in.result c.suits_in.result c.suits_in-2.result s.requires.1 c.ranks_in-ranks.ensures.is c.steps_in-steps.ensures.is c.marks_in.ensures.is c.if-marks_in-ne16843009.false c.suits_in.ensures c.suits_in-2.ensures c.if-suits_in.false
    c.pattern_in-k.result c.lowest_row.result c.place.result c.max.result c.pattern_in-k.ensures.is c.if-k-eq0.true c.if-steps-eq2172748161.false c.lowest_row.ensures c.if-ranks-lowest_row.false c.place.ensures (omega arith) (search rules)

pub returns-then-place-so_far : goal.returns-then-place-so_far
returns-then-place-so_far c =
    let s = c in
    row_kept s.args.ranking s.requires.0 s.args.so_far s.args.chosen c.ranks_in-ranks.result c.steps_in-steps.result c.marks_in.result c.suits_in.result c.suits_in-2.result s.requires.1 c.ranks_in-ranks.ensures.is c.steps_in-steps.ensures.is c.marks_in.ensures.is c.if-marks_in-ne16843009.false c.suits_in.ensures c.suits_in-2.ensures c.if-suits_in.false
    c.pattern_in-k.result c.row_of-row.result c.pattern_in-k.ensures.is c.if-k-eq0.false c.row_of-row.ensures c.place-2.result c.place-2.ensures (omega arith) c.if-place-so_far.true

pub number_of-requires : goal.number_of-requires
number_of-requires c =
    let s = c in
    row-class s.args.ranking s.requires.0 s.args.so_far s.args.chosen c.ranks_in-ranks.result c.steps_in-steps.result c.marks_in.result c.suits_in.result c.suits_in-2.result s.requires.1 c.ranks_in-ranks.ensures.is c.steps_in-steps.ensures.is c.marks_in.ensures.is c.if-marks_in-ne16843009.false c.suits_in.ensures c.suits_in-2.ensures c.if-suits_in.false
    c.pattern_in-k.result c.row_of-row.result c.pattern_in-k.ensures.is c.if-k-eq0.false c.row_of-row.ensures c.hand_at.result (spread c.cards_in.result) (spread c.ranks_of.result) c.cards_in.ensures c.ranks_of.ensures c.hand_at.ensures

pub returns : goal.returns
returns c =
    let s = c in
    let m : c.max-2.result ≡ max s.args.so_far c.number_of.result = search rules in
    row-better s.args.ranking s.requires.0 s.args.so_far s.args.chosen c.ranks_in-ranks.result c.steps_in-steps.result c.marks_in.result c.suits_in.result c.suits_in-2.result s.requires.1 c.ranks_in-ranks.ensures.is c.steps_in-steps.ensures.is c.marks_in.ensures.is c.if-marks_in-ne16843009.false c.suits_in.ensures c.suits_in-2.ensures c.if-suits_in.false
    c.pattern_in-k.result c.row_of-row.result c.pattern_in-k.ensures.is c.if-k-eq0.false c.row_of-row.ensures c.hand_at.result (spread c.cards_in.result) (spread c.ranks_of.result) c.cards_in.ensures c.ranks_of.ensures c.hand_at.ensures c.number_of.result c.max-2.result c.number_of.ensures m
