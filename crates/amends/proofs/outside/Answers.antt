-- `outside` meets its contract.
use Rattle.amends.proofs.Judging.{outside_value}
use Rattle.amends.proofs.outside.Goals as goal

pub returns-in-Some : goal.returns-in-Some
returns-in-Some c = outside_value c.args.kind c.in-Some.is c.is_six.ensures
