-- `copy_sheet` meets its contract.
use Rattle.logs.proofs.Copies.{copied_within}
use Rattle.logs.specs.declared.copy.Copied.{Copied}
use Rattle.logs.specs.FairCopy.{copied_as}
use Rattle.logs.specs.LogText.{sheet_text}
use Rattle.paper.specs.Paper.{is_sheet}
use native.Mathlib.Omega.{arith}
use mathlib.Core.Path.{ap, ◌∙◌}
use Rattle.logs.proofs.copy.copy_sheet.Goals as goal

pub returns : goal.returns
returns c = let e = c.told.ensures ∙ ap copied_as c.write_sheet.ensures.answer in record { answer = e; bytes = c.write_sheet.ensures.bytes; within = omega (arith, ap (λ (x : Copied). x.written) e, copied_within (is_sheet c.args.s) (sheet_text c.args.s) c.args.buffer.now) }
