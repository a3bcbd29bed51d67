-- `plan` meets its contract.
use Rattle.desk.proofs.Plans.{plan_raw}
use Rattle.desk.proofs.plan.Goals as goal

pub returns-in-Raw : goal.returns-in-Raw
returns-in-Raw c = plan_raw c.args.b c.in-Raw.is c.entry_of.ensures c.plan_parsed.ensures

pub returns-in-Malformed : goal.returns-in-Malformed
returns-in-Malformed c = rw c.in-Malformed.is c.no_entry.ensures

pub returns-in-Nothing : goal.returns-in-Nothing
returns-in-Nothing c = rw c.in-Nothing.is c.no_entry-in-Nothing.ensures
