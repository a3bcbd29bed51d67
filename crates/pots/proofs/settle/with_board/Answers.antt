-- `with_board` meets its contract.
-- Assumes nothing.
use mathlib.Core.Path.{◌≡◌, sym, ap}
use borrow.Author.Rules.{rules}
use borrow.Author.Tests.{eq-eqb, ne_eqb}
use Rattle.laws.specs.Tests.{pick}
use Rattle.pots.proofs.settle.with_board.Goals as goal

pub returns-then-board-eq0 : goal.returns-then-board-eq0
returns-then-board-eq0 c =
    let a = c.args in
    let none : a.board ≡ 0 = search rules in
    sym (ap (λ b. pick b 0 a.fee) (eq-eqb a.board 0 none))

pub returns-else-board-eq0 : goal.returns-else-board-eq0
returns-else-board-eq0 c = let a = c.args in sym (ap (λ b. pick b 0 a.fee) (ne_eqb a.board 0 c.if-board-eq0.false))
