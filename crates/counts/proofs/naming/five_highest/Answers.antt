-- The first five ranks of a mask.
use Rattle.counts.specs.Kept.{ranks_in}
use Rattle.counts.proofs.Masked.{ranks_drop}
use Rattle.counts.proofs.Firsts.{five_are}
use Rattle.counts.proofs.naming.five_highest.Goals as goal

pub returns : goal.returns
returns c =
    let a = c.args in
    let n = c.less-n in
    let o = c.less-o in
    let p = c.less-p in
    let q = c.less in
    five_are a.class 15 (ranks_in a.m) (ranks_in n.result) (ranks_in o.result) (ranks_in p.result) (ranks_in q.result) _ _ _ _ _ (ranks_drop a.m)
    (c.top-a.ensures.is, n.ensures.are) (c.top-b.ensures.is, o.ensures.are) (c.top-c.ensures.is, p.ensures.are) (c.top-d.ensures.is, q.ensures.are)
    c.top.ensures.is
