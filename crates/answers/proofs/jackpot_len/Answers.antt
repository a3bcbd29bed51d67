-- `jackpot_len` meets its contract.
use native.Mathlib.Omega.{arith}
use Rattle.answers.proofs.Blocks.{jackpot_count}
use Rattle.laws.specs.Tests.{pick}
use Prim.Native.Nat.{ℕ}
use mathlib.Core.Bool.{Bool}
use mathlib.Core.Path.{sym, ap, ◌∙◌}
use Rattle.answers.proofs.jackpot_len.Goals as goal

pub returns-then-is_some : goal.returns-then-is_some
returns-then-is_some c = (omega (arith, jackpot_count c.args.j, ap (λ (b : Bool). pick {A = ℕ} b 18 0) (sym c.is_some.ensures ∙ c.if-is_some.true)), omega arith)

pub returns-else-is_some : goal.returns-else-is_some
returns-else-is_some c = (omega (arith, jackpot_count c.args.j, ap (λ (b : Bool). pick {A = ℕ} b 18 0) (sym c.is_some.ensures ∙ c.if-is_some.false)), omega arith)
