-- `feed_in` meets its contract.
use Rattle.embed.proofs.Calls.{called}
use Rattle.text.proofs.Parts.{part_is}
use Rattle.stream.specs.Feeding.{Held}
use Rattle.packed.specs.Layout.{fields_size}
use lib.ListN.{length, length-drop}
use mathlib.Core.Path.{refl, sym, ap, subst}
use Prim.Native.Nat.{◌≤◌}
use native.Mathlib.Omega.{arith}
use borrow.Author.Rules.{rules}
use Rattle.embed.proofs.feed_in.Goals as goal

pub feed-f-requires : goal.feed-f-requires
feed-f-requires c = (subst Held (sym c.unpack-c.ensures) (c.requires.0.held c.requires.1), (let l = c.requires.1 in omega (arith, ap length (part_is fields_size c.args.state.now), length-drop fields_size c.args.state.now, l)))

pub returns : goal.returns
returns c = let l : fields_size ≤ length c.args.state.now = (let k = c.requires.1 in omega (arith, k)) in called c.args.state.now c.args.part.now c.args.out.now c.unpack-c.ensures (part_is fields_size c.args.state.now) l c.feed-f.ensures.fed c.feed-f.ensures.used c.feed-f.ensures.held refl (c.pack.ensures.bytes, c.pack.ensures.back)
