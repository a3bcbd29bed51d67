-- `right_code` meets its contract.
use Rattle.amends.proofs.right_code.Goals as goal

pub returns : goal.returns
returns c = cc
