-- `read_right` meets its contract.
use Rattle.amends.proofs.Judging.{right_five, right_small}
use Rattle.amends.proofs.read_right.Goals as goal

pub returns : goal.returns
returns c = (right_five c.args.lines.now c.number_of-n.ensures c.behind-second.ensures c.line_kind-kind.ensures c.behind-third.ensures c.number_of-seat.ensures c.behind-fourth.ensures c.number_of-a.ensures c.behind-fifth.ensures c.number_of-b.ensures c.block_from.ensures, right_small c.args.lines.now c.number_of-n.ensures)
