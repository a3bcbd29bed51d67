-- `rule_of` meets its contract.
-- Assumes nothing.
use Rattle.try_pots.proofs.hand.rule_of.Goals as goal

pub returns : goal.returns
returns c = cc
