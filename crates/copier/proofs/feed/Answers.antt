-- `feed` meets its contract: behind a bad sheet, or by way of the buffer.
use Rattle.copier.proofs.Feeds.{fed_shut, used_shut, copier_is, held_as, fed_as, used_as}
use native.Mathlib.Omega.{arith}
use Rattle.copier.proofs.feed.Goals as goal

pub returns-then-c : goal.returns-then-c
returns-then-c c = let s = c in record { fed = fed_shut s.args.c s.args.buf.now s.args.part.now s.args.copy.now s.args.notes.now s.requires.0 (omega (arith, s.requires.0.room.most, s.requires.1)) c.if-c.true; used = used_shut s.args.c s.args.buf.now s.args.part.now c.if-c.true; held = (s.requires.0, omega arith, λ h. h, omega arith, omega arith) }

pub feed_kept-requires : goal.feed_kept-requires
feed_kept-requires c = let s = c in (held_as s.args.c c.if-c.false s.requires.0, s.requires.1, s.requires.2, s.requires.3)

pub returns : goal.returns
returns c = let s = c in
    let f = c.feed_kept.ensures in
    let q = copier_is s.args.c c.if-c.false in
    record { fed = fed_as q f.fed; used = used_as s.args.buf.now s.args.part.now q f.used; held = f.held }
