-- `put_missing` meets its contract: the lines of the constant behind those that are there.
use Rattle.renewal.proofs.Steps.{meant_bytes, meant_bytes_law, lines_are, lines_short, lines_put}
use Rattle.renewal.specs.OldSheets.{meant}
use native.Mathlib.Omega.{arith}
use Rattle.renewal.proofs.put_missing.Goals as goal

pub put_bytes-requires : goal.put_bytes-requires
put_bytes-requires c = let m = lines_short c.args.k meant (lines_are c.args.k meant meant_bytes meant_bytes_law c.later_lines.ensures c.after_lines.ensures) in omega (arith, m, c.requires)

pub returns : goal.returns
returns c = lines_put c.args.k meant (lines_are c.args.k meant meant_bytes meant_bytes_law c.later_lines.ensures c.after_lines.ensures) c.put_bytes.ensures
