-- `close_in` meets its contract.
use Rattle.embed.proofs.Calls.{closed_by}
use Rattle.text.proofs.Parts.{part_is}
use Rattle.stream.specs.Feeding.{Held}
use Rattle.packed.specs.Layout.{fields_size}
use lib.ListN.{length, length-drop}
use mathlib.Core.Path.{sym, ap, subst}
use native.Mathlib.Omega.{arith}
use borrow.Author.Rules.{rules}
use Rattle.embed.proofs.close_in.Goals as goal

pub unpack-c-requires : goal.unpack-c-requires
unpack-c-requires c = (let l = c.requires.1 in omega (arith, l))

pub close-e-requires : goal.close-e-requires
close-e-requires c = (subst Held (sym c.unpack-c.ensures) (c.requires.0.held c.requires.1), (let l = c.requires.1 in omega (arith, ap length (part_is fields_size c.args.state.now), length-drop fields_size c.args.state.now, l)))

pub returns : goal.returns
returns c = closed_by c.args.state.now c.args.out.now c.unpack-c.ensures (part_is fields_size c.args.state.now) c.close-e.ensures.bytes
