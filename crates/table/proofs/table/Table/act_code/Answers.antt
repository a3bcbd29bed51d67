-- `Table::act_code` meets its contract.
use borrow.Enum.Refused.{opened}
use Rattle.table.proofs.Acts.{no_act}
use mathlib.Core.Path.{sym, ◌∙◌}
use mathlib.Core.Bool.{true≢false}
use Rattle.table.proofs.table.Table.act_code.Goals as goal

pub turn_code-requires : goal.turn_code-requires
turn_code-requires c = (c.requires.0, rw c.in-Fold.is at c.requires.2)

pub check_code-requires : goal.check_code-requires
check_code-requires c = (c.requires.0, rw c.in-Check.is at c.requires.2)

pub call_code-requires : goal.call_code-requires
call_code-requires c = (c.requires.0, rw c.in-Call.is at c.requires.2)

pub wager_code-requires : goal.wager_code-requires
wager_code-requires c = (c.requires.0, rw c.in-Wager.is at c.requires.2)

pub returns-in-Fold : goal.returns-in-Fold
returns-in-Fold c = rw c.in-Fold.is c.turn_code.ensures

pub returns-in-Check : goal.returns-in-Check
returns-in-Check c = rw c.in-Check.is c.check_code.ensures

pub returns-in-Call : goal.returns-in-Call
returns-in-Call c = rw c.in-Call.is c.call_code.ensures

pub returns-in-Wager : goal.returns-in-Wager
returns-in-Wager c = rw c.in-Wager.is c.wager_code.ensures

pub returns-in_default : goal.returns-in_default
returns-in_default c = absurd (true≢false (sym c.requires.1 ∙ no_act c.args.e (opened c.in_default.in_default-own.keys5)))
