-- `piece` meets its contract: each kind of piece is answered as the definition says.
use Rattle.pairs.proofs.Runs.{no_piece, whole_piece, cut_piece, none_piece, missing_piece}
use borrow.Author.Rules.{rules}
use Rattle.pairs.proofs.piece.Goals as goal

pub returns-in-None : goal.returns-in-None
returns-in-None c = record { gave = no_piece c.args.only c.args.p c.args.due c.args.lines.now c.args.out.now c.in-None.is; good = c.requires.0 }

pub returns-in-Some-Whole : goal.returns-in-Some-Whole
returns-in-Some-Whole c = let w = c.whole.ensures in record { gave = whole_piece c.args.only c.args.p c.args.due c.args.lines.now c.requires.1 (search rules) w.gave; good = w.good }

pub returns-in-Some-Cut : goal.returns-in-Some-Cut
returns-in-Some-Cut c = let w = c.answer_lines.ensures in record { gave = cut_piece c.args.only c.args.p c.args.due c.args.lines.now c.requires.1 (search rules) w.gave; good = w.good }

pub returns-in-Some-OfNone : goal.returns-in-Some-OfNone
returns-in-Some-OfNone c = let w = c.of_none.ensures in record { gave = none_piece c.args.only c.args.p c.args.due c.args.lines.now c.requires.1 (search rules) w.gave; good = w.good }

pub returns-in-Some-Missing : goal.returns-in-Some-Missing
returns-in-Some-Missing c = let w = c.refuse.ensures in record { gave = missing_piece c.args.only c.args.p c.args.due c.args.lines.now c.requires.1 (search rules) w.gave; good = w.good }
