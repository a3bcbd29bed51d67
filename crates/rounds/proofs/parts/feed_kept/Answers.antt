-- `rounds::parts::feed_kept` meets its contract. Assumes nothing.
use Rattle.rounds.proofs.Keeps.{fed_kept, fed_whole}
use native.Mathlib.Omega.{arith}
use Rattle.rounds.proofs.parts.feed_kept.Goals as goal

pub returns-then-g-lt16 : goal.returns-then-g-lt16
returns-then-g-lt16 c =
    let g = c.gather-g in
    let p = fed_kept g.result.fill _ g.ensures.kept.0 c.args.out.now c.if-g-lt16.true in
    record { left = g.ensures.kept.1; kept = p.0; wrote = p.1; held = (record { room = g.ensures.room.0; lines = c.if-g-lt16.true }, g.ensures.room.1, g.ensures.room.2, omega arith) }

pub returns : goal.returns
returns c =
    let g = c.gather-g in
    let z = c.empty.ensures in
    let p = fed_whole g.result.fill _ g.ensures.kept.0 c.empty.result _ c.if-g-lt16.false z.1 z.2 z.3 c.answer-written.ensures.0 in
    record { left = g.ensures.kept.1; kept = p.0; wrote = p.1; held = (z.0, g.ensures.room.1, g.ensures.room.2, c.answer-written.ensures.1) }
