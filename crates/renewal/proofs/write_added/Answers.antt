-- `write_added` meets its contract: the lines of the constant behind those that are there.
use Rattle.renewal.proofs.Steps.{added_bytes, added_bytes_law, lines_are, lines_short, lines_put}
use Rattle.renewal.specs.OldSheets.{added_lines}
use native.Mathlib.Omega.{arith}
use Rattle.renewal.proofs.write_added.Goals as goal

pub put_bytes-requires : goal.put_bytes-requires
put_bytes-requires c = let m = lines_short c.args.k added_lines (lines_are c.args.k added_lines added_bytes added_bytes_law c.later_lines.ensures c.after_lines.ensures) in omega (arith, m, c.requires)

pub returns : goal.returns
returns c = let p = lines_put c.args.k added_lines (lines_are c.args.k added_lines added_bytes added_bytes_law c.later_lines.ensures c.after_lines.ensures) c.put_bytes.ensures in (p.0, omega (arith, p.1, c.requires))
