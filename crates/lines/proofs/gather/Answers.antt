-- `gather` meets its contract: at each turn what is kept and what is left to gather are said by `Going`.
use mathlib.Core.Path.{◌≡◌}
use lib.ListN.{length}
use native.Mathlib.Omega.{arith}
use Rattle.lines.proofs.Keeps.{going_start, going_end, going-stop, going_turn}
use Rattle.lines.proofs.gather.Goals as goal

pub loop-i-init : goal.loop-i-init
loop-i-init c =
    let s = c in
    (going_start s.args.want s.args.part.now s.args.buf.now s.args.m (omega (arith, s.requires.0.most, s.requires.3)), s.requires.0, s.requires.1)

pub keep-fill-requires : goal.keep-fill-requires
keep-fill-requires c =
    let s = c in
    let i = c.loop-i.invariant in
    (i.1, omega (arith, i.2, s.requires.2), omega (arith, i.0.size, s.requires.3))

pub returns-then-want-fill : goal.returns-then-want-fill
returns-then-want-fill c =
    let s = c in
    let g = c.loop-i in
    let k = c.keep-fill in
    let r = going-stop g.invariant.0 c.loop-i-test.true k.ensures.0 k.ensures.1 c.keep-fill.auto.buf c.if-want-fill.true in
    record { got = r.0; kept = r.1; room = (k.ensures.2, omega arith, λ z. omega arith) }

pub loop-i-preserved : goal.loop-i-preserved
loop-i-preserved c =
    let s = c in
    let g = c.loop-i in
    let k = c.keep-fill in
    (going_turn g.invariant.0 c.loop-i-test.true k.ensures.0 k.ensures.1 c.keep-fill.auto.buf c.if-want-fill.false (omega (arith, k.ensures.2.most, g.invariant.0.size, s.requires.3)), k.ensures.2, c.if-want-fill.false)

pub shape_of-buf : goal.shape_of-buf
shape_of-buf c = c.loop-i.invariant.0.size

pub returns : goal.returns
returns c =
    let g = c.loop-i in
    let r = going_end g.invariant.0 c.loop-i-test.false in
    let e : g.i ≡ length c.args.part.now = omega arith in
    record { got = rw e at r.0; kept = r.1; room = (g.invariant.1, omega arith, λ z. omega arith) }
