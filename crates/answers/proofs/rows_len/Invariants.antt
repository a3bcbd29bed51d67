-- `rows_len` meets its contract.
use mathlib.Core.Path.{◌≡◌}
use lib.ListN.{length, take}
use Rattle.answers.specs.Answer.{joined, row_bytes}
use Rattle.answers.proofs.rows_len.Given as goal

abbrev pub invariant-loop-r : goal.invariant-loop-r
invariant-loop-r l = l.at ≡ length (joined row_bytes (take l.r-index l.rows))
