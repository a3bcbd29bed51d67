-- `packed` meets its contract: from the last byte to the first, what is packed is what the rest of the word packs to.
use Rattle.blocks.proofs.Packs.{pack_room, pack_turn, pack_more}
use lib.ListN.{length}
use Prim.Native.Nat.{◌-◌, ◌≤◌}
use native.Mathlib.Omega.{arith}
use Rattle.blocks.proofs.kind.packed.Goals as goal

pub overflow_mul-v : goal.overflow_mul-v
overflow_mul-v c = omega (arith, pack_room c.loop-i.v 0 (length c.args.w.now - c.loop-i.i) c.loop-i.invariant.1 (omega arith) (omega arith))

pub overflow_add-v : goal.overflow_add-v
overflow_add-v c = let d : c.from.result ≤ 255 = omega (arith, c.type_inv.w (c.loop-i.i - 1)) in omega (arith, pack_room c.loop-i.v c.from.result (length c.args.w.now - c.loop-i.i) c.loop-i.invariant.1 d (omega arith))

pub loop-i-preserved : goal.loop-i-preserved
loop-i-preserved c = let w = c.args.w.now in let d : c.from.result ≤ 255 = omega (arith, c.type_inv.w (c.loop-i.i - 1)) in (pack_turn w c.loop-i.v c.from.result c.loop-i.i (omega arith) (omega arith) c.from.ensures c.loop-i.invariant.0, pack_more (length w) c.loop-i.v c.from.result c.loop-i.i (omega arith) (omega arith) d c.loop-i.invariant.1)
