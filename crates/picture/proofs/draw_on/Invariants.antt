-- `draw_on` meets its contract: at each turn what was drawn so far is said by `Drawing`.
use Rattle.picture.proofs.Parts.{Drawing}
use Rattle.picture.proofs.draw_on.Given as goal

abbrev pub invariant-loop-i : goal.invariant-loop-i
invariant-loop-i l = Drawing l.colour l.initial.screen l.initial.buf l.part l.initial.out l.buf l.out l.screen l.i l.at
