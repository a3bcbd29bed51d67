-- `put_visible` meets its contract: after i turns the first i bytes are shown.
use Rattle.picture.proofs.Foreign.{visible_start, visible_on, visible_done}
use lib.ListN.{length}
use native.Mathlib.Omega.{arith}
use mathlib.Core.Path.{◌≡◌, refl}
use Rattle.picture.proofs.put_visible.Goals as goal

pub loop-i-init : goal.loop-i-init
loop-i-init c = visible_start c.args.bytes.now c.args.out.now c.args.at (omega arith)

pub loop-i-preserved : goal.loop-i-preserved
loop-i-preserved c = rw c.visible.ensures (visible_on c.args.bytes.now c.loop-i.i (omega arith) (omega arith) c.loop-i.invariant)

pub returns : goal.returns
returns c =
    let bs = c.args.bytes.now in
    let e : c.loop-i.i ≡ length bs = omega arith in
    (rw e at (visible_done bs c.loop-i.i (omega arith) c.loop-i.invariant), refl)
