-- `ranged` meets its contract: the tests of the used numbers, in the order of the row.
use Rattle.paper.specs.SheetAndEntries.{is_seat, in_span}
use Rattle.paper.proofs.Rows.{used_tests}
use Rattle.paper.proofs.ranged.Goals as goal

pub returns : goal.returns
unfolding is_seat
returns c =
    let s = c in
    cc
    (used_tests s.args.row.seat s.args.row.a.used s.args.row.b.used (is_seat s.args.sheet s.args.x.seat)
    (in_span s.args.sheet.deck s.args.row.a s.args.x.a)
    (in_span s.args.sheet.deck s.args.row.b s.args.x.b))
