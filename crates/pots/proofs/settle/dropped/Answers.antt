-- `dropped` meets its contract: the fee is at most the pot, so what is left behind it is a number.
-- Assumes nothing.
use Prim.Native.Nat.{ℕ, ◌-◌, min}
use mathlib.Core.Path.{ap, ◌∙◌}
use native.Mathlib.Omega.{arith}
use lib.Dec.{eqb}
use Rattle.laws.specs.Tests.{pick}
use Rattle.pots.proofs.Settling.{fee_within}
use Rattle.pots.proofs.settle.dropped.Goals as goal

pub overflow_sub-left : goal.overflow_sub-left
overflow_sub-left c =
    let a = c.args in
    omega (arith, c.fee.ensures, fee_within a.rule a.rule.cap a.amount (omega (arith, c.requires)))

pub returns : goal.returns
returns c =
    let a = c.args in
    c.with_board.ensures ∙ ap (pick (eqb a.rule.board 0) 0) (c.min.ensures ∙ ap (λ (f : ℕ). min a.rule.drop (a.amount - f)) c.fee.ensures)
