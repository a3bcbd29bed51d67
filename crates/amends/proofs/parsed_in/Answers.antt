-- `parsed_in` meets its contract.
use Rattle.amends.proofs.Judging.{parsed_raw}
use Rattle.amends.proofs.parsed_in.Goals as goal

pub returns-in-Raw : goal.returns-in-Raw
returns-in-Raw c = parsed_raw c.args.b c.in-Raw.is c.entry_of.ensures
