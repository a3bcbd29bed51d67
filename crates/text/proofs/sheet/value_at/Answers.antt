-- `value_at` meets its contract.
use Rattle.text.proofs.sheet.value_at.Goals as goal

pub returns : goal.returns
returns c =
    cc
