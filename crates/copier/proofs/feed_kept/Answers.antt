-- `feed_kept` meets its contract: what is gathered is kept, or done where it has the sheet's lines or a block's five.
use Rattle.copier.proofs.Feeds.{held_with, used_is, fed_kept, fed_whole}
use native.Mathlib.Omega.{arith}
use borrow.Author.Rules.{rules}
use Rattle.copier.proofs.feed_kept.Goals as goal

pub gather-g-requires : goal.gather-g-requires
gather-g-requires c = let h = c.requires in
    let w = c.lines_of-want.ensures in
    (h.0.room, omega (arith, h.0.lines, w.0), w.2, h.1)

pub returns-then-n-want : goal.returns-then-n-want
returns-then-n-want c = let s = c in
    let g = c.gather-g.ensures in
    let w = c.lines_of-want.ensures in record { fed = fed_kept s.args.opened s.args.s s.args.count s.args.m s.requires.0 s.args.buf.now s.args.part.now s.args.copy.now s.args.notes.now _ w.0 g.got g.kept c.if-n-want.true; used = used_is s.args.opened s.args.s s.args.count s.args.m s.requires.0 s.args.buf.now s.args.part.now s.args.copy.now s.args.notes.now _ w.0 g.got g.kept; held = (held_with s.args.opened s.args.s s.args.count s.args.m s.requires.0 _ g.room.0 (omega (arith, w.0, c.if-n-want.true)), g.room.1, g.room.2, omega arith, omega arith) }

pub whole-t-requires : goal.whole-t-requires
whole-t-requires c = let h = c.requires in search rules

pub returns : goal.returns
returns c = let s = c in
    let g = c.gather-g.ensures in
    let l = c.lines_of-want.ensures in
    let w = c.whole-t.ensures in record { fed = fed_whole s.args.opened s.args.s s.args.count s.args.m s.requires.0 s.args.buf.now s.args.part.now s.args.copy.now s.args.notes.now _ l.0 g.got g.kept c.if-n-want.false w.gave; used = used_is s.args.opened s.args.s s.args.count s.args.m s.requires.0 s.args.buf.now s.args.part.now s.args.copy.now s.args.notes.now _ l.0 g.got g.kept; held = (w.held.0, g.room.1, g.room.2, w.held.1, w.held.2) }
