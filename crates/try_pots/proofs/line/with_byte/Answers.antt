-- `with_byte` meets its contract, by a law for each return.
-- Assumes nothing.
use Rattle.try_pots.proofs.Scanned.{taken_blank, taken_other}
use Rattle.try_pots.proofs.line.with_byte.Goals as goal

pub returns-then-b-eq32 : goal.returns-then-b-eq32
returns-then-b-eq32 c = taken_blank c.args.s _ c.args.b c.if-b-eq32.true c.with_number.ensures

pub returns : goal.returns
returns c = taken_other c.args.s _ c.args.b c.if-b-eq32.false c.with_digit.ensures
