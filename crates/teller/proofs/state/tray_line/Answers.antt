-- `teller::state::tray_line` meets its contract: a line of the tray, or a fault. Assumes nothing.
use Rattle.teller.specs.Keeping.{tray_line}
use mathlib.Core.Path.{sym, ◌∙◌}
use Rattle.teller.proofs.state.tray_line.Goals as goal

pub returns-then-fits_due : goal.returns-then-fits_due
unfolding tray_line
returns-then-fits_due c = rw (sym c.fits_due.ensures ∙ c.if-fits_due.true) c.taken_due.ensures

pub returns : goal.returns
unfolding tray_line
returns c = rw (sym c.fits_due.ensures ∙ c.if-fits_due.false) c.with_tray.ensures
