-- `feed` meets its contract: shut, awaiting a block, or by way of the buffer.
use mathlib.Core.Bool.{true}
use mathlib.Core.Path.{refl, sym, ◌∙◌}
use native.Mathlib.Omega.{arith}
use lib.ListN.{length}
use Rattle.stream.proofs.Feeds.{fed_as, used_as, fed_shut, used_shut, used_kept, clerk_is, awaits_is, awaits_open}
use borrow.Author.Rules.{rules}
use Rattle.stream.proofs.feed.Goals as goal

pub returns-then-c : goal.returns-then-c
returns-then-c c =
    let s = c in record { fed = fed_shut s.args.c s.args.buf.now s.args.part.now s.args.out.now s.requires.0 (omega (arith, s.requires.0.room.most, s.requires.1)) c.if-c.true; used = used_shut s.args.c s.args.buf.now s.args.part.now (length s.args.out.now) c.if-c.true; held = search rules }

pub feed_awaiting-requires : goal.feed_awaiting-requires
feed_awaiting-requires c =
    let s = c in
    (s.requires.0.sound, s.requires.0.room, awaits_open s.args.c.opened s.args.c.fill c.awaits_block.ensures c.if-awaits_block.true, s.requires.1)

pub returns-then-awaits_block : goal.returns-then-awaits_block
returns-then-awaits_block c =
    let s = c in
    let f = c.feed_awaiting in
    let o = (awaits_is s.args.c.opened s.args.c.fill (sym c.awaits_block.ensures ∙ c.if-awaits_block.true)).0 in
    let q = clerk_is s.args.c true c.if-c.false o in record { fed = fed_as q f.ensures.fed; used = used_as s.args.buf.now s.args.part.now (length s.args.out.now) q f.ensures.used; held = f.ensures.held }

pub returns : goal.returns
returns c =
    let s = c in
    let f = c.feed_kept in
    let q = clerk_is s.args.c s.args.c.opened c.if-c.false refl in record { fed = fed_as q f.ensures.fed; used = used_kept s.args.c s.args.buf.now s.args.part.now (length s.args.out.now) c.if-c.false c.awaits_block.ensures c.if-awaits_block.false f.ensures.used; held = f.ensures.held }
