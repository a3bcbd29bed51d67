-- `hear` meets its contract: the clerk has heard the bytes that the call used up, also where their answers could not be written.
use Rattle.std.proofs.lemmas.Result.{err_from_is_err_and}
use Rattle.clerk.specs.Hearing.{hears_fed}
use Rattle.clerk.proofs.DeskListener.hear.Goals as goal

pub returns-clause-heard : goal.returns-clause-heard
returns-clause-heard c =
    let f = c.feed_on-f in (f.ensures.far.1 c.requires.1 c.requires.0.2, f.ensures.held.1, hears_fed f.result f.ensures.fed)

pub returns-in_err-write_out-clause-failed : goal.returns-in_err-write_out-clause-failed
returns-in_err-write_out-clause-failed c =
    let f = c.feed_on-f in
    let p = err_from_is_err_and c.from_residual.result c.from_residual.ensures.1 in
    rw p.1 (f.result.used, f.ensures.far.1 c.requires.1 c.requires.0.2, f.ensures.held.1, hears_fed f.result f.ensures.fed)
