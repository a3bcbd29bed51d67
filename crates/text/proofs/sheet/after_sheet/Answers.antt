-- `after_sheet` meets its contract.
use Rattle.text.specs.TableSheet.{sheet_end}
use Rattle.text.proofs.sheet.after_sheet.Goals as goal

pub returns : goal.returns
unfolding sheet_end
returns c =
    cc
