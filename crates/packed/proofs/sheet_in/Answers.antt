-- `sheet_in` meets its contract.
use Rattle.packed.proofs.sheet_in.Goals as goal

pub returns : goal.returns
returns c = cc
