-- `last` stays inside its sheet.
use Rattle.pair.proofs.Inside.{inside}
use native.Mathlib.Omega.{arith}
use borrow.Author.Rules.{rules}
use Rattle.pair.proofs.last.Goals as goal

pub slice_bounds-write_all-end : goal.slice_bounds-write_all-end
slice_bounds-write_all-end c = omega (arith, inside c.last_lines-n.ensures (search rules))
