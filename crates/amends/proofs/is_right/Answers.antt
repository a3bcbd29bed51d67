-- `is_right` meets its contract.
use Rattle.amends.proofs.Judging.{right_yes, right_no}
use Rattle.amends.proofs.is_right.Goals as goal

pub returns-in-Some : goal.returns-in-Some
returns-in-Some c = right_yes c.args.lines.now c.read_key_number.ensures c.in-Some.is c.ended.ensures

pub returns-in-None : goal.returns-in-None
returns-in-None c = right_no c.args.lines.now c.read_key_number.ensures c.in-None.is
