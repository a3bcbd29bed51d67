-- `put_words` meets its contract.
use Rattle.packed.proofs.Rows.{Going}
use Rattle.records.specs.Bytes.{word_bytes}
use Rattle.packed.specs.Fits.{IsWord}
use Rattle.packed.proofs.put_words.Given as goal

abbrev pub invariant-loop-w : goal.invariant-loop-w
invariant-loop-w l = Going word_bytes IsWord l.ws l.initial.buffer l.buffer l.w-index l.at
