-- `feed_awaiting` meets its contract: in place, or where no block is answered so by way of the buffer.
use mathlib.Core.Bool.{true≢false}
use mathlib.Core.Path.{sym, ap}
use native.Mathlib.Omega.{arith}
use lib.ListN.{length}
use Rattle.stream.proofs.Feeds.{fed_out, awaits_is, none_written, fed-placed, used-placed, used_none}
use Rattle.stream.proofs.feed_awaiting.Goals as goal

pub feed_kept-requires : goal.feed_kept-requires
feed_kept-requires c =
    let s = c in
    (s.requires.0, s.requires.1, omega (arith, (awaits_is _ s.args.m s.requires.2).1), s.requires.3)

pub returns-then-a-eq0 : goal.returns-then-a-eq0
returns-then-a-eq0 c =
    let s = c in
    let a = c.in_place-a in
    let z = c.if-a-eq0.true in
    let k = c.feed_kept in
    let n = none_written s.args.t s.args.m s.args.part.now s.args.out.now a.ensures.ran a.ensures.bytes z in record { fed = fed_out n k.ensures.fed; used = used_none s.args.t s.args.m s.args.part.now s.args.out.now a.ensures.ran s.args.buf.now z k.ensures.used; held = (k.ensures.held.0, k.ensures.held.1, k.ensures.held.2, omega (arith, k.ensures.held.3, ap length n)) }

pub returns : goal.returns
returns c =
    let s = c in
    let a = c.in_place-a in
    let e = c.empty-z.ensures in
    let n = c.if-a-eq0.false in record {
      fed = fed-placed s.args.t s.args.m s.args.part.now s.args.out.now a.ensures.ran a.ensures.bytes s.args.buf.now s.requires.1 s.requires.2 n e.0;
      used = used-placed s.args.t s.args.m s.args.part.now s.args.out.now a.ensures.ran a.ensures.bytes s.args.buf.now s.requires.1 s.requires.2 n;
      held = (
        record { sound = a.ensures.sound.0; room = e.1; lines = rw e.0 (omega arith); shut = λ q. absurd (true≢false (sym q)) },
        a.ensures.sound.1,
        λ h. omega (arith, n),
        a.ensures.sound.2,
      );
    }
