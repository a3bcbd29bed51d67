-- `Chair::dealt_in` meets its contract.
use Rattle.chairs.proofs.Chair.dealt_in.Goals as goal

pub returns : goal.returns
returns c = cc
