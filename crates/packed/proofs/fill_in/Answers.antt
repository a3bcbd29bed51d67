-- `mark_in` meets its contract.
use Rattle.packed.proofs.fill_in.Goals as goal

pub returns : goal.returns
returns c = cc
