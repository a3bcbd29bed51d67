-- `pay_all` meets its contract. The invariant: i pots are paid (`Paying`), and the hand's drop is what it was.
-- Assumes nothing.
use mathlib.Core.Path.{◌≡◌}
use Rattle.pots.proofs.Paying.{Paying}
use Rattle.pots.proofs.hand.pay_all.Given as goal

abbrev pub invariant-loop-i : goal.invariant-loop-i
invariant-loop-i l = Paying l.scores l.rule l.rule.cap l.puck l.initial.w.drop l.q-items l.w.left l.w.each l.i × (l.w.drop ≡ l.initial.w.drop)
