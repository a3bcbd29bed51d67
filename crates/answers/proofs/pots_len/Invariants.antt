-- `pots_len` meets its contract.
use mathlib.Core.Path.{◌≡◌}
use lib.ListN.{length, take}
use Rattle.answers.specs.Answer.{joined, pot_bytes}
use Rattle.answers.proofs.pots_len.Given as goal

abbrev pub invariant-loop-p : goal.invariant-loop-p
invariant-loop-p l = l.at ≡ length (joined pot_bytes (take l.p-index l.list))
