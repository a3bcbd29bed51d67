-- `rounds::reading::deal_of` meets its contract. Assumes nothing.
use Rattle.rounds.specs.RoundText.{deal_of}
use Rattle.rounds.proofs.reading.deal_of.Goals as goal

pub returns : goal.returns
unfolding deal_of
returns c = rw (c.card_in-9.ensures, c.card_in-8.ensures, c.card_in-7.ensures, c.card_in-6.ensures, c.card_in-5.ensures, c.card_in-4.ensures, c.card_in-3.ensures, c.card_in-2.ensures, c.card_in.ensures)
