-- `packed` meets its contract: from the last byte to the first, what is packed is what the rest of the word packs to.
use Rattle.text.specs.Bytes.{pack_of}
use lib.ListN.{length, drop}
use Prim.Native.Nat.{◌-◌, ◌<◌, ◌^◌}
use mathlib.Core.Path.{◌≡◌}
use Rattle.blocks.proofs.kind.packed.Given as goal

abbrev pub invariant-loop-i : goal.invariant-loop-i
invariant-loop-i l = (l.v ≡ pack_of (drop l.i l.w)) × (l.v < 256 ^ (length l.w - l.i))
