-- `word` meets its contract, by its tests.
use Rattle.seen.specs.Seats.{word_of}
use Rattle.seen.proofs.seat.word.Goals as goal

pub returns : goal.returns
unfolding word_of
returns c = rw (c.chosen-3.ensures, c.chosen-2.ensures, c.here.ensures, c.chosen-gone.ensures, c.chosen-seated.ensures, c.chosen-playing.ensures, c.chosen.ensures, c.chosen-live.ensures)
