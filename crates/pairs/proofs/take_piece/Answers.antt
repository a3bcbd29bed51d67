-- `take_piece` meets its contract: behind a bad opening nothing is answered, else the piece is.
use native.Mathlib.Omega.{arith}
use Rattle.frames.specs.Frames.{piece_of}
use Rattle.pairs.proofs.Runs.{shut_gave, within}
use borrow.Author.Rules.{rules}
use Rattle.pairs.proofs.take_piece.Goals as goal

pub returns-then-p : goal.returns-then-p
returns-then-p c = record { gave = shut_gave c.args.only c.args.p (piece_of c.args.what c.args.due c.args.lines.now) c.args.out.now c.if-p.true; good = (c.requires.0, omega arith) }

pub returns : goal.returns
returns c = let w = c.piece.ensures in record { gave = w.gave; good = (w.good, within (search rules) w.gave.wrote) }
