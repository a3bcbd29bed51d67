-- `put_answer` meets its contract: start, rest and rule stand one behind the other.
use Rattle.picture.proofs.Steps.{answer_drawn}
use native.Mathlib.Omega.{arith}
use Rattle.picture.proofs.rows.put_answer.Goals as goal

pub returns : goal.returns
returns c = (answer_drawn c.args.colour c.args.last c.args.pots c.args.l.kind c.args.l.value c.counted.ensures.0 c.chosen-n.ensures c.either.ensures c.put_start-a.ensures.0 c.put_rest-b.ensures.0 c.put_rule_if.ensures.0, omega (arith, c.put_start-a.ensures.1, c.put_rest-b.ensures.1, c.put_rule_if.ensures.1))
