-- `replay` meets its contract.
use Rattle.fresh.specs.Reading.{read_to}
use Rattle.fresh.specs.declared.Played.{Played}
use Rattle.fresh.proofs.Reached.{all}
use mathlib.Core.Path.{ap, ◌∙◌}
use Rattle.fresh.proofs.replay.Goals as goal

pub returns : goal.returns
returns c =
    let a = c.args in
    (c.read_on.ensures.0 ∙ ap (λ (p : Played). read_to p a.log.now a.at a.e a.count) c.begun.ensures.0 ∙ all a.sheet a.log.now a.count a.at a.e, c.read_on.ensures.1)
