-- `at_one_go` meets its contract: five lines, each read of what the one before left.
use Rattle.blocks.proofs.Fronts.{five_seen}
use Rattle.text.proofs.Parts.{part_is}
use Rattle.blocks.proofs.front.at_one_go.Goals as goal

pub returns : goal.returns
returns c = five_seen c.args.log.now c.in_ok-n.ensures.0
    (part_is c.in_ok-n.n.next c.args.log.now) c.in_ok-kind.ensures.0
    (part_is c.in_ok-kind.kind.next _) c.in_ok-seat.ensures.0
    (part_is c.in_ok-seat.seat.next _) c.in_ok-a.ensures.0
    (part_is c.in_ok-a.a.next _) c.in_ok-b.ensures.0
