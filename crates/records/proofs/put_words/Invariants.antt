-- `put_words` meets its contract.
use Rattle.records.proofs.Words.{Going}
use Rattle.records.proofs.put_words.Given as goal

abbrev pub invariant-loop-w : goal.invariant-loop-w
invariant-loop-w l = Going l.w-items l.initial.buffer l.buffer l.w-index l.at
