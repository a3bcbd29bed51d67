-- The classes in their order: the first of which there is a hand.
use mathlib.Core.Path.{ap, ◌∙◌}
use Rattle.counts.specs.HandOrder.{highest}
use Rattle.counts.specs.Kept.{shown}
use Rattle.counts.proofs.Firsts.{name_straight_flush, name-four, name-full, name-flush, name-straight, name-low}
use Rattle.counts.proofs.naming.name.Goals as goal

pub returns-then-k-gt0 : goal.returns-then-k-gt0
unfolding shown
returns-then-k-gt0 c =
    let a = c.args.m in
    name_straight_flush (shown a) _ c.row_foot-k.result c.row_foot-k.ensures.is c.if-k-gt0.true c.row_hand.ensures

pub returns-then-f-gt0 : goal.returns-then-f-gt0
unfolding shown
returns-then-f-gt0 c =
    let a = c.args.m in
    name-four (shown a) _ c.row_foot-k.result c.row_foot-k.ensures.is c.if-k-gt0.false c.top-f.result c.top-f.ensures.is c.if-f-gt0.true c.four_hand.ensures

pub returns-then-both : goal.returns-then-both
unfolding shown
returns-then-both c =
    let a = c.args.m in
    name-full (shown a) _ c.row_foot-k.result c.row_foot-k.ensures.is c.if-k-gt0.false c.top-f.result c.top-f.ensures.is
    c.if-f-gt0.false c.top-t.result c.top-p.result c.top-t.ensures.is (c.top-p.ensures.is ∙ ap highest c.less.ensures.are) c.both.result c.both.ensures c.if-both.true c.full_hand.ensures

pub returns-then-top-gt0 : goal.returns-then-top-gt0
unfolding shown
returns-then-top-gt0 c =
    let a = c.args.m in
    name-flush (shown a) _ c.row_foot-k.result c.row_foot-k.ensures.is c.if-k-gt0.false c.top-f.result c.top-f.ensures.is
    c.if-f-gt0.false c.top-t.result c.top-p.result c.top-t.ensures.is (c.top-p.ensures.is ∙ ap highest c.less.ensures.are) c.both.result c.both.ensures
    c.if-both.false c.top.result c.top.ensures.is c.if-top-gt0.true c.five_highest.ensures

pub returns-then-j-gt0 : goal.returns-then-j-gt0
unfolding shown
returns-then-j-gt0 c =
    let a = c.args.m in
    name-straight (shown a) _ c.row_foot-k.result c.row_foot-k.ensures.is c.if-k-gt0.false c.top-f.result c.top-f.ensures.is
    c.if-f-gt0.false c.top-t.result c.top-p.result c.top-t.ensures.is (c.top-p.ensures.is ∙ ap highest c.less.ensures.are) c.both.result c.both.ensures
    c.if-both.false c.top.result c.top.ensures.is c.if-top-gt0.false c.row_foot-j.result c.row_foot-j.ensures.is c.if-j-gt0.true c.row_hand-then-j-gt0.ensures

pub returns : goal.returns
unfolding shown
returns c =
    let a = c.args.m in
    name-low (shown a) _ c.row_foot-k.result c.row_foot-k.ensures.is c.if-k-gt0.false c.top-f.result c.top-f.ensures.is
    c.if-f-gt0.false c.top-t.result c.top-p.result c.top-t.ensures.is (c.top-p.ensures.is ∙ ap highest c.less.ensures.are) c.both.result c.both.ensures
    c.if-both.false c.top.result c.top.ensures.is c.if-top-gt0.false c.row_foot-j.result c.row_foot-j.ensures.is c.if-j-gt0.false c.low_name.ensures
