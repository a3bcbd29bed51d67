-- `rows::settled` meets its contract: the checker over the fronts of the two columns, or 2 for too many rows. Assumes nothing.
use lib.ListN.{length}
use mathlib.Core.Path.{◌≡◌}
use native.Mathlib.Omega.{arith}
use Rattle.rows.proofs.Slots.{settled_many, settled_few}
use borrow.Author.Rules.{rules}
use Rattle.tray.specs.Proposal.{code_of}
use Rattle.rows.proofs.settled.Goals as goal

pub returns-then-n-gt-ROWS : goal.returns-then-n-gt-ROWS
returns-then-n-gt-ROWS c = settled_many c.args.c c.args.n c.args.paid.now c.args.proposal.now c.if-n-gt-ROWS.true

pub slice_bounds-accept-end : goal.slice_bounds-accept-end
slice_bounds-accept-end c = let w : length c.args.c.worths ≡ 16 = search rules in omega (arith, w, c.if-n-gt-ROWS.false)

pub slice_bounds-counts-end : goal.slice_bounds-counts-end
slice_bounds-counts-end c = let w : length c.args.c.counts ≡ 16 = search rules in omega (arith, w, c.if-n-gt-ROWS.false)

pub returns : goal.returns
returns c = settled_few c.args.c c.args.n c.args.paid.now c.args.proposal.now (code_of c.accept-outcome.result) _ c.if-n-gt-ROWS.false c.accept-outcome.ensures.code c.accept-outcome.ensures.rows
