-- `whole` meets its contract: a part of the opening is read, a block is answered.
use Rattle.pairs.proofs.Runs.{whole_pool, whole_sheet, whole_block}
use Rattle.pairs.proofs.whole.Goals as goal

pub returns-in-Pool : goal.returns-in-Pool
returns-in-Pool c = let w = c.open_line.ensures in record { gave = whole_pool c.args.only c.args.p c.args.due c.args.lines.now c.in-Pool.is w.gave; good = w.good }

pub returns-in-Sheet : goal.returns-in-Sheet
returns-in-Sheet c = let w = c.open_sheet.ensures in record { gave = whole_sheet c.args.only c.args.p c.args.due c.args.lines.now c.in-Sheet.is w.gave; good = w.good }

pub returns-in_default : goal.returns-in_default
returns-in_default c = let w = c.answer_lines.ensures in record { gave = whole_block c.args.only c.args.p c.args.due c.args.lines.now c.in_default.not-Pool c.in_default.not-Sheet w.gave; good = w.good }
