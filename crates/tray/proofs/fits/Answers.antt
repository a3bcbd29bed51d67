-- `fits` meets its contract, by its tests in turn.
-- Assumes nothing.
use mathlib.Core.Path.{ap, ◌∙◌}
use Rattle.tray.proofs.Within.{Rows, fits_many, fits_counts, fits_sittings, fits_rest}
use Rattle.laws.specs.Tests.{both}
use borrow.Author.Rules.{rules}
use Rattle.tray.proofs.fits.Goals as goal

pub returns-then-rows-gt-ROWS : goal.returns-then-rows-gt-ROWS
returns-then-rows-gt-ROWS c = fits_many c.args.worths.now c.args.counts.now c.args.sittings c.args.long c.if-rows-gt-ROWS.true

pub returns-then-counts-rows : goal.returns-then-counts-rows
returns-then-counts-rows c = fits_counts c.args.worths.now c.args.counts.now c.args.sittings c.args.long c.if-counts-rows.true

pub returns-then-sittings-gt-SITTINGS : goal.returns-then-sittings-gt-SITTINGS
returns-then-sittings-gt-SITTINGS c = fits_sittings c.args.worths.now c.args.counts.now c.args.sittings c.args.long c.if-sittings-gt-SITTINGS.true

pub returns : goal.returns
returns c = c.both.ensures ∙ ap (λ t. both t c.long_enough.result) c.rows_fit-tray.ensures ∙ ap (λ t. both (Rows c.args.worths.now c.args.counts.now c.args.sittings c.args.long) t) c.long_enough.ensures ∙ fits_rest c.args.worths.now c.args.counts.now c.args.sittings c.args.long (search rules) (search rules) (search rules)
