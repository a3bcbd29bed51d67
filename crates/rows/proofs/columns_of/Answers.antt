-- `columns_of` meets its contract. The loop has put i rows into the columns.
-- Assumes nothing.
use Rattle.std.proofs.Common.{◌≡◌, ◌∙◌, ap, length, arith}
use Rattle.rows.specs.Columns.{columns_to}
use Rattle.rows.proofs.columns_of.Goals as goal

pub returns : goal.returns
returns c =
    let rows = c.args.rows.now in
    let e : c.loop-i.i ≡ length rows = omega arith in
    c.loop-i.invariant ∙ ap (λ i. columns_to i rows) e
