-- `head_words` meets its contract.
use Rattle.packed.proofs.head_words.Goals as goal

pub returns : goal.returns
returns c = cc
