-- `hear` meets its contract: the bytes that the call used up are drawn, also where their picture could not be written.
use Rattle.std.proofs.Common.{refl}
use Rattle.std.proofs.lemmas.Result.{err_from_is_err_and}
use Rattle.screen.specs.Drawing.{draws_front}
use Rattle.screen.proofs.EaselListener.hear.Goals as goal

pub returns-clause-heard : goal.returns-clause-heard
returns-clause-heard c =
    let d = c.draw_on-d in (d.ensures.far.1 c.requires.1 c.requires.0.2, d.ensures.held.1, (refl, draws_front d.result d.ensures.drawn))

pub returns-in_err-write_out-clause-failed : goal.returns-in_err-write_out-clause-failed
returns-in_err-write_out-clause-failed c =
    let d = c.draw_on-d in
    let p = err_from_is_err_and c.from_residual.result c.from_residual.ensures.1 in
    rw p.1 (d.result.used, d.ensures.far.1 c.requires.1 c.requires.0.2, d.ensures.held.1, (refl, draws_front d.result d.ensures.drawn))
