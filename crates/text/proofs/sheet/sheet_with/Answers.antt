-- `sheet_with` meets its contract.
use Rattle.text.specs.TableSheet.{sheet_with}
use Rattle.text.proofs.sheet.sheet_with.Goals as goal

pub returns : goal.returns
unfolding sheet_with
returns c =
    cc
