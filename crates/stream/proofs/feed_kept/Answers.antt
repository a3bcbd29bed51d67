-- `feed_kept` meets its contract: what is gathered is kept, or done where it has the sheet's lines or a block's five.
use mathlib.Core.Bool.{true≢false}
use mathlib.Core.Path.{sym}
use native.Mathlib.Omega.{arith}
use Rattle.stream.proofs.Feeds.{used_is, fed_kept, fed_whole}
use Rattle.stream.proofs.feed_kept.Goals as goal

pub gather-g-requires : goal.gather-g-requires
gather-g-requires c =
    let h = c.requires in
    let w = c.lines_of-want.ensures in
    (h.1, omega (arith, h.2, w.0), w.2, h.3)

pub returns-then-n-want : goal.returns-then-n-want
returns-then-n-want c =
    let s = c in
    let g = c.gather-g in
    let w = c.lines_of-want.ensures in record {
      fed = fed_kept s.args.opened s.args.t s.args.m s.args.buf.now s.args.part.now s.args.out.now _ c.lines_of-want.ensures.0 g.ensures.got g.ensures.kept c.if-n-want.true;
      used = used_is s.args.opened s.args.t s.args.m s.args.buf.now s.args.part.now s.args.out.now _ c.lines_of-want.ensures.0 g.ensures.got g.ensures.kept;
      held = (
        record { sound = s.requires.0; room = g.ensures.room.0; lines = omega (arith, w.0, c.if-n-want.true); shut = λ q. absurd (true≢false (sym q)) },
        g.ensures.room.1,
        g.ensures.room.2,
        omega arith,
      );
    }

pub returns : goal.returns
returns c =
    let s = c in
    let g = c.gather-g in
    let w = c.whole-s in record { fed = fed_whole s.args.opened s.args.t s.args.m s.args.buf.now s.args.part.now s.args.out.now _ c.lines_of-want.ensures.0 g.ensures.got g.ensures.kept s.requires.2 c.if-n-want.false w.ensures.gave; used = used_is s.args.opened s.args.t s.args.m s.args.buf.now s.args.part.now s.args.out.now _ c.lines_of-want.ensures.0 g.ensures.got g.ensures.kept; held = (w.ensures.held.0, g.ensures.room.1, g.ensures.room.2, w.ensures.held.1) }
