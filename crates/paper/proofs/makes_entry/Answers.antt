-- `makes_entry` meets its contract.
use mathlib.Core.Path.{ap, ◌∙◌}
use native.Mathlib.Omega.{arith}
use Rattle.paper.specs.declared.KindRow.{KindRow}
use Rattle.paper.specs.SheetAndEntries.{spared}
use Rattle.paper.proofs.Rows.{kind_known, kind_unknown}
use Rattle.paper.proofs.makes_entry.Goals as goal

pub returns-then-k-lt12 : goal.returns-then-k-lt12
returns-then-k-lt12 c =
    let x = c.args.x in
    c.spared.ensures ∙ ap (λ (r : KindRow). spared r x) c.row_at.ensures ∙ kind_known x (omega arith)

pub returns : goal.returns
returns c = kind_unknown c.args.x (omega arith)
