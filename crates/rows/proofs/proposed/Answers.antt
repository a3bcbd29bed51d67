-- `rows::proposed` meets its contract: the proposer over the fronts of the two columns, or 2 for too many rows. Assumes nothing.
use lib.ListN.{length}
use mathlib.Core.Path.{◌≡◌}
use native.Mathlib.Omega.{arith}
use Rattle.rows.proofs.Slots.{proposed_many, proposed_few}
use borrow.Author.Rules.{rules}
use Rattle.tray.specs.Proposal.{code_of}
use Rattle.rows.proofs.proposed.Goals as goal

pub returns-then-n-gt-ROWS : goal.returns-then-n-gt-ROWS
returns-then-n-gt-ROWS c = proposed_many c.args.c c.args.n c.args.paid.now c.args.list.now c.if-n-gt-ROWS.true

pub slice_bounds-propose-end : goal.slice_bounds-propose-end
slice_bounds-propose-end c = let w : length c.args.c.worths ≡ 16 = search rules in omega (arith, w, c.if-n-gt-ROWS.false)

pub slice_bounds-propose-end-2 : goal.slice_bounds-propose-end-2
slice_bounds-propose-end-2 c = let w : length c.args.c.counts ≡ 16 = search rules in omega (arith, w, c.if-n-gt-ROWS.false)

pub returns : goal.returns
returns c = proposed_few c.args.c c.args.n c.args.paid.now c.args.list.now _ (code_of c.propose.result) c.if-n-gt-ROWS.false c.propose.ensures.code c.propose.ensures.list
