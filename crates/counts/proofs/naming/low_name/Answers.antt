-- The four lowest classes, in their order.
use mathlib.Core.Path.{ap, ◌∙◌}
use Rattle.counts.specs.HandOrder.{highest}
use Rattle.counts.specs.Kept.{shown}
use Rattle.counts.proofs.Firsts.{low_three, low-two-pair, low-pair, low-odd}
use Rattle.counts.proofs.naming.low_name.Goals as goal

pub returns-then-t-gt0 : goal.returns-then-t-gt0
unfolding shown
returns-then-t-gt0 c =
    let a = c.args.m in
    let t = c.top-t in
    let p = c.top-p in
    let q = c.top-q in
    low_three (shown a) _ t.result p.result q.result t.ensures.is p.ensures.is (q.ensures.is ∙ ap highest c.less.ensures.are) c.if-t-gt0.true c.three_hand.ensures

pub returns-then-q-gt0 : goal.returns-then-q-gt0
unfolding shown
returns-then-q-gt0 c =
    let a = c.args.m in
    let t = c.top-t in
    let p = c.top-p in
    let q = c.top-q in
    low-two-pair (shown a) _ t.result p.result q.result t.ensures.is p.ensures.is (q.ensures.is ∙ ap highest c.less.ensures.are) c.if-t-gt0.false c.if-q-gt0.true c.two_pair_hand.ensures

pub returns-then-p-gt0 : goal.returns-then-p-gt0
unfolding shown
returns-then-p-gt0 c =
    let a = c.args.m in
    let t = c.top-t in
    let p = c.top-p in
    let q = c.top-q in
    low-pair (shown a) _ t.result p.result q.result t.ensures.is p.ensures.is (q.ensures.is ∙ ap highest c.less.ensures.are) c.if-t-gt0.false c.if-q-gt0.false c.if-p-gt0.true c.pair_hand.ensures

pub returns : goal.returns
unfolding shown
returns c =
    let a = c.args.m in
    let t = c.top-t in
    let p = c.top-p in
    let q = c.top-q in
    low-odd (shown a) _ t.result p.result q.result t.ensures.is p.ensures.is (q.ensures.is ∙ ap highest c.less.ensures.are) c.if-t-gt0.false c.if-q-gt0.false c.if-p-gt0.false c.five_highest.ensures
