-- `check` meets its contract, by its two tests in turn.
-- Assumes nothing.
use mathlib.Core.Path.{sym, ◌∙◌}
use native.Mathlib.Omega.{arith}
use Rattle.tray.proofs.Within.{within}
use Rattle.tray.proofs.Judging.{judged_2, judged_0, judged_16}
use Rattle.tray.proofs.check.Goals as goal

pub pays_all-pays-requires : goal.pays_all-pays-requires
pays_all-pays-requires c = let h = within c.args.worths.now c.args.counts.now _ _ (sym c.fits.ensures ∙ c.if-not-fits.false) in
    (h.rows, h.few, h.worth)

pub holds_all-holds-requires : goal.holds_all-holds-requires
holds_all-holds-requires c = let h = within c.args.worths.now c.args.counts.now _ _ (sym c.fits.ensures ∙ c.if-not-fits.false) in
    (omega (arith, h.rows, h.same), h.few)

pub returns-then-both : goal.returns-then-both
returns-then-both c = judged_0 c.args.worths.now c.args.counts.now c.args.paid.now c.args.p.now c.pays_all-pays.result c.holds_all-holds.result c.both.result c.pays_all-pays.ensures c.holds_all-holds.ensures c.both.ensures (sym c.fits.ensures ∙ c.if-not-fits.false) c.if-both.true

pub returns : goal.returns
returns c = judged_16 c.args.worths.now c.args.counts.now c.args.paid.now c.args.p.now c.pays_all-pays.result c.holds_all-holds.result c.both.result c.pays_all-pays.ensures c.holds_all-holds.ensures c.both.ensures (sym c.fits.ensures ∙ c.if-not-fits.false) c.if-both.false

pub returns-then-not-fits : goal.returns-then-not-fits
returns-then-not-fits c = judged_2 c.args.worths.now c.args.counts.now c.args.paid.now c.args.p.now (sym c.fits.ensures ∙ c.if-not-fits.true)
