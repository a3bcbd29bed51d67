-- `close` meets its contract: what is kept at the end of the input is answered as the definition says.
use Rattle.pairs.proofs.Runs.{end_gave}
use Rattle.pairs.proofs.close.Goals as goal

pub returns : goal.returns
returns c = let t = c.take_piece.ensures in record { gave = end_gave c.args.only c.args.p c.args.f.due _ _ c.at_end.ensures t.gave; good = t.good }
