-- `rounds::parts::feed` meets its contract. Assumes nothing.
use Rattle.rounds.proofs.InPlace.{here_left, here_kept, here_wrote, here_used}
use mathlib.Core.Path.{sym, ◌∙◌}
use Rattle.rounds.proofs.parts.feed.Goals as goal

pub returns-in-Some : goal.returns-in-Some
returns-in-Some c =
    let m = c.args.m in
    let buf = c.args.buf.now in
    let part = c.args.part.now in
    let e = sym c.is_empty.ensures ∙ c.if-is_empty.true in
    let r = rw c.in-Some.is at c.read_numbers.ensures in
    let used = c.in-Some.s.used in
    let z = c.empty.ensures in
    let w = c.put_outcome-written.ensures in
    record {
      left = here_left m buf part e r.0 used r.2;
      kept = here_kept m buf part e r.0 c.empty.result z.1 z.2 z.3;
      wrote = here_wrote m buf part e r.0 r.1 c.judge.ensures.0 w.0;
      held = (z.0, r.3, λ h. here_used part used r.0 r.2, w.1);
    }
