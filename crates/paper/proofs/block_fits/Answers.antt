-- `block_fits` meets its contract: the row of a known kind decides, and an unknown kind never fits.
use native.Mathlib.Omega.{arith}
use Rattle.paper.proofs.Rows.{row_fits, row_missing}
use Rattle.paper.proofs.block_fits.Goals as goal

pub returns-then-k-lt12 : goal.returns-then-k-lt12
returns-then-k-lt12 c =
    let s = c in
    row_fits s.args.x s.args.sheet s.args.n (omega arith)
    c.row_at-row.ensures
    c.spared.ensures
    c.ranged.ensures
    c.both-fit.ensures
    c.between.ensures
    c.both.ensures

pub returns : goal.returns
returns c = row_missing c.args.x c.args.sheet c.args.n (omega arith)
