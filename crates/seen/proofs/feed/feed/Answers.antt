-- `feed` meets its contract: what is gathered is kept, or known where it has the sheet's lines or a block's five.
use mathlib.Core.Path.{sym, subst}
use native.Mathlib.Omega.{arith}
use Rattle.seen.specs.Seen.{Held}
use Rattle.seen.proofs.Feeds.{fed_shut, buffer-is, fed_kept, fed_whole}
use Rattle.seen.proofs.feed.feed.Goals as goal

pub returns-then-s : goal.returns-then-s
returns-then-s c = let s = c in
    record { fed = fed_shut s.args.s s.args.buf.now s.args.part.now c.if-s.true; held = (s.requires.0, omega arith, λ h. h) }

pub gather-g-requires : goal.gather-g-requires
gather-g-requires c = let s = c in
    let w = c.lines_of-want.ensures in
    (s.requires.0.room, omega (arith, s.requires.0.lines, w.0), w.2, s.requires.1)

pub returns-then-k-want : goal.returns-then-k-want
returns-then-k-want c = let s = c in
    let g = c.gather-g.ensures in
    let w = c.lines_of-want.ensures in
    let k = c.keeping.ensures in record {
      fed = (
        fed_kept s.args.s s.args.buf.now s.args.part.now c.if-s.false w.0 g.got g.kept c.if-k-want.true k,
        buffer-is s.args.s s.args.buf.now s.args.part.now c.if-s.false w.0 g.got g.kept,
      );
      held = (
        subst Held (sym k) (record { sound = s.requires.0.sound; room = g.room.0; lines = omega (arith, w.0, c.if-k-want.true) }),
        g.room.1,
        g.room.2,
      );
    }

pub returns : goal.returns
returns c = let s = c in
    let g = c.gather-g.ensures in
    let w = c.lines_of-want.ensures in
    let k = c.after_lines.ensures in record {
      fed = (
        fed_whole s.args.s s.args.buf.now s.args.part.now c.if-s.false w.0 g.got g.kept c.if-k-want.false k.0,
        buffer-is s.args.s s.args.buf.now s.args.part.now c.if-s.false w.0 g.got g.kept,
      );
      held = (k.1, g.room.1, g.room.2);
    }
