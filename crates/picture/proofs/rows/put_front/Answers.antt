-- `put_front` meets its contract: its three parts stand one behind the other.
use Rattle.picture.proofs.Steps.{front_drawn}
use native.Mathlib.Omega.{arith}
use Rattle.picture.proofs.rows.put_front.Goals as goal

pub returns : goal.returns
returns c = (front_drawn c.args.last c.args.kind c.args.n c.half.ensures c.either.ensures c.half-2.ensures c.either-shown.ensures c.put_if-a.ensures.0 c.put_rule_if-b.ensures.0 c.put_left.ensures.0, omega (arith, c.put_if-a.ensures.1, c.put_rule_if-b.ensures.1, c.put_left.ensures.1))
