-- `write_nine_line` meets its contract: each writer writes behind the ones before it.
use lib.ListN.{length-append}
use mathlib.Core.List.{[], ◌∷◌}
use Rattle.writing.specs.Nine.{nine_line}
use Rattle.writing.proofs.Nine.{nine_count, nine_is}
use Rattle.writing.proofs.Sheets.{then}
use native.Mathlib.Omega.{arith}
use Rattle.writing.proofs.writer.write_nine_line.Goals as goal

pub put_key-a-requires : goal.put_key-a-requires
put_key-a-requires c = omega (arith, nine_count c.args.key.now c.args.n)

pub put_nine-requires : goal.put_nine-requires
put_nine-requires c = omega (arith, nine_count c.args.key.now c.args.n, length-append c.args.key.now (61 ∷ []))

pub put_byte-requires : goal.put_byte-requires
put_byte-requires c = omega (arith, nine_count c.args.key.now c.args.n, nine_is c.args.n, length-append c.args.key.now (61 ∷ []))

pub returns : goal.returns
unfolding nine_line
returns c = then (then c.put_key-a.ensures c.put_nine.ensures) c.put_byte.ensures
