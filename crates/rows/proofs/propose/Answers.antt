-- `propose` meets its contract: the columns are those of all rows, and the proposer over them answers as it does over the rows.
use Rattle.std.proofs.Common.{◌≡◌, ◌∙◌, ap, length}
use Rattle.rows.specs.declared.Columns.{Columns}
use Rattle.rows.specs.Rows.{proposing_rows}
use Rattle.rows.specs.Columns.{proposed_code, proposed_list}
use Rattle.rows.proofs.Settling.{rows_proposed, rows_listed}
use Rattle.tray.specs.Proposal.{code_of}
use Rattle.rows.proofs.propose.Goals as goal

pub returns : goal.returns
returns c =
    let rows = c.args.rows.now in
    let paid = c.args.paid.now in
    let old = c.args.list.now in
    let all = c.columns_of.ensures in
    let code : code_of c.proposed.result ≡ proposing_rows rows paid (length old) =
    c.proposed.ensures.0 ∙ ap (λ (k : Columns). proposed_code k (length rows) paid (length old)) all ∙ rows_proposed rows paid (length old) in (
      code,
      c.proposed.ensures.1 ∙ ap (λ (k : Columns). proposed_list (code_of c.proposed.result) k (length rows) paid old) all ∙ rows_listed rows paid (code_of c.proposed.result) old code,
    )
