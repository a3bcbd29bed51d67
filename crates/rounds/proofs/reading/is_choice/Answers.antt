-- `rounds::reading::is_choice` meets its contract. Assumes nothing.
use Rattle.rounds.specs.RoundText.{is_choice}
use Rattle.rounds.proofs.reading.is_choice.Goals as goal

pub returns : goal.returns
unfolding is_choice
returns c = cc
