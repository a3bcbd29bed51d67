-- `renew_on` meets its contract: at each turn what was given so far is said by `Renewing`.
use Rattle.renewal.proofs.Parts.{Renewing}
use Rattle.renewal.proofs.renew_on.Given as goal

abbrev pub invariant-loop-i : goal.invariant-loop-i
invariant-loop-i l = Renewing l.initial.renewal l.part l.initial.out l.out l.renewal l.i l.at
