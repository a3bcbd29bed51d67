-- `number_of` meets its contract.
use Rattle.text.proofs.line.number_of.Goals as goal

pub returns : goal.returns
returns c = cc
