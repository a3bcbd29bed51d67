-- `rounds::reading::round_of` meets its contract. Assumes nothing.
use Rattle.rounds.specs.RoundText.{round_of}
use Rattle.rounds.proofs.reading.round_of.Goals as goal

pub returns : goal.returns
unfolding round_of
returns c = rw (c.deal_of-deal.ensures, c.choice_of-choice.ensures)
