-- `keep` meets its contract: an LF, a byte of a line that has room, and one of a line that has none.
use mathlib.Core.Logic.{⊎_elim}
use native.Mathlib.Omega.{arith}
use Rattle.lines.proofs.Keeps.{keep_end, keep_on, keep_not, bad_when}
use Rattle.lines.proofs.keep.Goals as goal

pub returns-then-b-eq10 : goal.returns-then-b-eq10
returns-then-b-eq10 c =
    let s = c in
    let k = keep_end s.args.m s.args.buf.now s.args.b (omega arith) c.if-b-eq10.true in
    (k.0, k.1, record { count = omega arith; least = omega arith; bad = λ h. omega (arith, s.requires.0.bad h); width = omega arith; lines = omega arith; most = omega arith })

pub returns-then-m-lt33 : goal.returns-then-m-lt33
returns-then-m-lt33 c =
    let s = c in
    let k = keep_on s.args.m s.args.buf.now s.args.b (omega arith) c.if-b-eq10.false c.if-m-lt33.true c.bad_with.ensures in (
      k.0,
      k.1,
      record {
        count = omega arith;
        least = omega arith;
        bad = λ h. ⊎_elim (λ z. omega (arith, s.requires.0.least)) (λ z. omega (arith, s.requires.0.bad z)) (bad_when s.args.m.width s.args.m.bad c.bad_with.ensures h);
        width = omega arith;
        lines = omega arith;
        most = omega arith;
      },
    )

pub returns : goal.returns
returns c =
    let s = c in
    let k = keep_not s.args.m s.args.buf.now s.args.b (omega arith) c.if-b-eq10.false c.if-m-lt33.false in
    (k.0, k.1, s.requires.0)
