-- `rows_fit` meets its contract. The invariant: each row below i is within its bounds.
-- Assumes nothing.
use Rattle.std.proofs.Common.{ℕ, length, get_or, sym, ap, ◌∙◌, rules}
use Rattle.tray.specs.Proposal.{row_fits}
use Rattle.tray.proofs.Sums.{all_fails}
use Rattle.tray.proofs.rows_fit.Goals as goal

pub returns-then-not-row_fits : goal.returns-then-not-row_fits
returns-then-not-row_fits c =
    let w = c.args.worths.now in
    let f = λ (j : ℕ). row_fits (get_or w j 0) (get_or c.args.counts.now j 0) in
    all_fails (length w) f c.loop-i.i (search rules)
    (sym (c.row_fits.ensures ∙ ap (row_fits (get_or w c.loop-i.i 0)) c.number_at.ensures) ∙ c.if-not-row_fits.true)
