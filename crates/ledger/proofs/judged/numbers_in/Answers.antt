-- `numbers_in` meets its contract.
use Rattle.ledger.proofs.Telling.{numbers_raw, numbers_malformed, numbers_nothing}
use Rattle.ledger.proofs.judged.numbers_in.Goals as goal

pub returns-in-Raw : goal.returns-in-Raw
returns-in-Raw c = numbers_raw c.args.b c.in-Raw.is

pub returns-in-Malformed : goal.returns-in-Malformed
returns-in-Malformed c = numbers_malformed c.args.b c.in-Malformed.is

pub returns-in-Nothing : goal.returns-in-Nothing
returns-in-Nothing c = numbers_nothing c.args.b c.in-Nothing.is
