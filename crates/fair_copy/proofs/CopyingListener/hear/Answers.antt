-- `hear` meets its contract: the copier has heard the bytes that the call used up, also where their copies or notes could not be written.
use Rattle.std.proofs.lemmas.Result.{err_from_is_err_and}
use Rattle.fair_copy.specs.Hearing.{hears_fed}
use Rattle.fair_copy.proofs.CopyingListener.hear.Goals as goal

pub returns-clause-heard : goal.returns-clause-heard
returns-clause-heard c =
    let f = c.copy_on-f in (f.ensures.far.1 c.requires.1 c.requires.0.2 c.requires.0.3, f.ensures.held.1, hears_fed f.result f.ensures.fed)

pub returns-in_err-write_both-clause-failed : goal.returns-in_err-write_both-clause-failed
returns-in_err-write_both-clause-failed c =
    let f = c.copy_on-f in
    let p = err_from_is_err_and c.from_residual.result c.from_residual.ensures.1 in
    rw p.1 (f.result.used, f.ensures.far.1 c.requires.1 c.requires.0.2 c.requires.0.3, f.ensures.held.1, hears_fed f.result f.ensures.fed)
