-- `Table::act_chair` meets its contract.
use borrow.Enum.Refused.{opened}
use Rattle.table.proofs.Acts.{no_act, no_acted}
use Rattle.table.proofs.table.Table.act_chair.Goals as goal

pub returns-in-Fold : goal.returns-in-Fold
returns-in-Fold c = rw c.in-Fold.is c.folded.ensures

pub returns-in-Check : goal.returns-in-Check
returns-in-Check c = rw c.in-Check.is c.acting.ensures

pub returns-in-Call : goal.returns-in-Call
returns-in-Call c = rw c.in-Call.is c.paying.ensures

pub returns-in-Wager : goal.returns-in-Wager
returns-in-Wager c = rw c.in-Wager.is c.paying-in-Wager.ensures

pub returns-in_default : goal.returns-in_default
returns-in_default c = no_acted c.args.self c.args.c c.args.e (no_act c.args.e (opened c.in_default.in_default-own.keys5))
