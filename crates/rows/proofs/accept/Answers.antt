-- `accept` meets its contract: the columns are those of all rows, the checker over them answers as it does over the rows, and each row is counted anew in its place.
use Rattle.std.proofs.Common.{◌≡◌, ◌<◌, ◌∙◌, ℕ, List, sym, ap, length, arith}
use Rattle.tray.proofs.Front.{front_long, each_turn, each_done}
use Rattle.tray.specs.Counting.{each_by}
use Rattle.rows.specs.declared.Columns.{Columns}
use Rattle.rows.specs.Rows.{no_row, rows_after}
use Rattle.rows.specs.Columns.{Counted, columns_to, settled_of, recount}
use Rattle.tray.specs.Proposal.{code_of}
use Rattle.rows.proofs.Settling.{rows_settled}
use Rattle.rows.proofs.accept.Goals as goal

pub loop-j-preserved : goal.loop-j-preserved
loop-j-preserved c =
    let rows = c.args.rows.now in
    let f = recount c.settled-s.result.counts in
    let long : length c.loop-j.rows ≡ length rows = ap length c.loop-j.invariant ∙ front_long c.loop-j.j f rows in
    let in_range : c.loop-j.j < length rows = omega (arith, c.loop-j-test.true, long) in
    each_turn no_row f rows c.loop-j.rows c.loop-j.j c.recounted.result in_range c.loop-j.invariant c.recounted.ensures

pub returns : goal.returns
returns c =
    let rows = c.args.rows.now in
    let paid = c.args.paid.now in
    let p = c.args.proposal.now in
    let f = recount c.settled-s.result.counts in
    let all = c.columns_of.ensures in
    let w : Counted = settled_of (columns_to (length rows) rows) (length rows) paid p in
    let counts : c.settled-s.result.counts ≡ w.counts = c.settled-s.ensures.0 ∙ ap (λ (k : Columns). (settled_of k (length rows) paid p).counts) all in
    let code : code_of c.settled-s.result.outcome ≡ w.code = c.settled-s.ensures.1 ∙ ap (λ (k : Columns). (settled_of k (length rows) paid p).code) all in
    let ends = rows_settled rows paid p in
    let long : length c.loop-j.rows ≡ length rows = ap length c.loop-j.invariant ∙ front_long c.loop-j.j f rows in
    let done = each_done f rows c.loop-j.rows c.loop-j.j (omega (arith, c.loop-j-test.false, long)) c.loop-j.invariant in (
      code ∙ ends.0,
      done ∙ ap (λ (k : List ℕ). each_by (recount k) rows) counts ∙ ends.1 ∙ ap (λ (k : ℕ). rows_after k (length paid) p rows) (sym code),
    )
