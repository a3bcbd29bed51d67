-- `put_pots` meets its contract.
use lib.ListN.{take}
use Rattle.answers.specs.Answer.{joined, pot_bytes}
use Rattle.writing.specs.AnswerSheet.{Wrote}
use Rattle.answers.proofs.put_pots.Given as goal

abbrev pub invariant-loop-p : goal.invariant-loop-p
invariant-loop-p l = Wrote (joined pot_bytes (take l.p-index l.list)) l.initial.sheet l.sheet l.at
