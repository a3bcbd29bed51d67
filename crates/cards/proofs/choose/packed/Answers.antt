-- `cards::choose::packed` meets its contract: what is packed so far are the cards from `i` on. Assumes nothing.
use mathlib.Core.Path.{◌≡◌, refl}
use Prim.Native.Nat.{◌-◌}
use native.Mathlib.Omega.{arith}
use lib.ListN.{length}
use Rattle.cards.proofs.Packing.{packed_start, packed_turn, units_seven}
use Rattle.cards.proofs.choose.packed.Goals as goal

pub loop-i-init : goal.loop-i-init
loop-i-init c = let p = packed_start c.args.cards.now in (omega arith, p.0, p.1)

pub behind-n-requires : goal.behind-n-requires
behind-n-requires c = omega (arith, units_seven (length c.args.cards.now - c.loop-i.i) (omega arith))

pub loop-i-preserved : goal.loop-i-preserved
loop-i-preserved c =
    let l = c.loop-i in
    let t = packed_turn c.args.cards.now l.i l.n c.behind-n.result _ (omega arith) (omega arith) refl c.behind-n.ensures.1 c.behind-n.ensures.0 l.invariant.1 l.invariant.2 in
    (omega arith, t.0, t.1)

pub returns : goal.returns
returns c =
    let l = c.loop-i in
    let e : l.i ≡ c.args.at = omega arith in
    record { is = rw e at l.invariant.1; small = rw e at l.invariant.2 }
