-- `hear` meets its contract: the pair has heard the bytes that the call used up, also where their answers could not be written.
use Rattle.std.proofs.Common.{refl}
use Rattle.std.proofs.lemmas.Result.{err_from_is_err_and}
use Rattle.pair.specs.Hearing.{hears_fed}
use Rattle.pair.proofs.TablesListener.hear.Goals as goal

pub returns-clause-heard : goal.returns-clause-heard
returns-clause-heard c =
    let d = c.feed_on-d in (d.ensures.far.1 c.requires.1 c.requires.0.4, d.ensures.held.2, (refl, hears_fed d.result d.ensures.fed))

pub returns-in_err-write_out-clause-failed : goal.returns-in_err-write_out-clause-failed
returns-in_err-write_out-clause-failed c =
    let d = c.feed_on-d in
    let p = err_from_is_err_and c.from_residual.result c.from_residual.ensures.1 in
    rw p.1 (d.result.used, d.ensures.far.1 c.requires.1 c.requires.0.4, d.ensures.held.2, (refl, hears_fed d.result d.ensures.fed))
