-- `value_start` meets its contract.
-- where the line was compared with the key: the line is ended, and what the test said
use mathlib.Core.Path.{◌≡◌, sym, ap, ◌∙◌}
use mathlib.Core.Bool.{true}
use Prim.Native.Nat.{ℕ, ◌-◌}
use lib.ListN.{take}
use Rattle.text.specs.Line.{line_len, line_of, line_ended, starts_with}
use Rattle.text.proofs.Lines.{line_open, line_long, line_whole, key_none, start_open, start_other, start_here, log_key_short, log_key_other, log_key_here}
use native.Mathlib.Omega.{arith}
use Rattle.text.proofs.line.value_start.Goals.{After-starts_with}
use Rattle.text.proofs.line.value_start.Goals as goal

ended : (c : After-starts_with) → line_ended c.args.log.now ≡ true
ended c = line_whole c.args.log.now (omega arith) (omega arith)

said : (c : After-starts_with) → c.starts_with.result ≡ starts_with c.args.key.now (line_of c.args.log.now)
said c =
    let s = c.before.before.before.before.before.before in
    let e : s.args.e - 0 ≡ line_len s.args.log.now = omega arith in
    c.starts_with.ensures ∙ ap (λ (k : ℕ). starts_with s.args.key.now (take k s.args.log.now)) e

pub returns-then-log-e : goal.returns-then-log-e
returns-then-log-e c =
    let s = c in
    (s.requires.0 ∙ start_open s.args.key.now s.args.log.now (line_open s.args.log.now (omega arith)), omega arith)

pub returns-then-e-gt32 : goal.returns-then-e-gt32
returns-then-e-gt32 c =
    let s = c in
    (s.requires.0 ∙ start_open s.args.key.now s.args.log.now (line_long s.args.log.now (omega arith) (omega arith)), omega arith)

pub returns-then-e-k : goal.returns-then-e-k
returns-then-e-k c =
    let w = c in
    let s = w in (
      s.requires.0 ∙ start_other s.args.key.now s.args.log.now (ended (goal.at.returns-then-e-k c).After-starts_with) (log_key_short s.args.key.now s.args.log.now (sym (said (goal.at.returns-then-e-k c).After-starts_with) ∙ c.if-starts_with.true) (omega arith) (omega arith)),
      omega arith,
    )

pub returns-then-log-k-eq61 : goal.returns-then-log-k-eq61
returns-then-log-k-eq61 c =
    let w = c in
    let s = w in (
      start_here s.args.key.now s.args.log.now (ended (goal.at.returns-then-log-k-eq61 c).After-starts_with) (log_key_here s.args.key.now s.args.log.now (sym (said (goal.at.returns-then-log-k-eq61 c).After-starts_with) ∙ c.if-starts_with.true) (omega arith) c.if-log-k-eq61.true),
      omega arith,
    )

pub returns-then-starts_with : goal.returns-then-starts_with
returns-then-starts_with c =
    let w = c in
    let s = w in (
      s.requires.0 ∙ start_other s.args.key.now s.args.log.now (ended (goal.at.returns-then-starts_with c).After-starts_with) (log_key_other s.args.key.now s.args.log.now (sym (said (goal.at.returns-then-starts_with c).After-starts_with) ∙ c.if-starts_with.true) (omega arith) c.if-log-k-eq61.false),
      omega arith,
    )

pub returns : goal.returns
returns c =
    let w = c in
    let s = w in
    (s.requires.0 ∙ start_other s.args.key.now s.args.log.now (ended (goal.at.returns c).After-starts_with) (key_none s.args.key.now (line_of s.args.log.now) (sym (said (goal.at.returns c).After-starts_with) ∙ c.if-starts_with.false)), omega arith)
