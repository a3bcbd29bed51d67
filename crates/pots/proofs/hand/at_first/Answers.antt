-- `at_first` meets its contract.
-- Assumes nothing.
use mathlib.Core.Path.{◌≡◌, sym, ap}
use borrow.Author.Rules.{rules}
use borrow.Author.Tests.{eq-eqb, ne_eqb}
use Rattle.laws.specs.Tests.{pick}
use Rattle.pots.proofs.hand.at_first.Goals as goal

pub returns-then-i-eq0 : goal.returns-then-i-eq0
returns-then-i-eq0 c =
    let a = c.args in
    let first : a.i ≡ 0 = search rules in
    sym (ap (λ b. pick b a.drop 0) (eq-eqb a.i 0 first))

pub returns-else-i-eq0 : goal.returns-else-i-eq0
returns-else-i-eq0 c = let a = c.args in sym (ap (λ b. pick b a.drop 0) (ne_eqb a.i 0 c.if-i-eq0.false))
