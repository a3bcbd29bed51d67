-- `digit_count` meets its contract: what was counted and what is left to count make the whole.
use Rattle.text.specs.Number.{digits, digits_in}
use lib.ListN.{length}
use Prim.Native.Nat.{◌+◌, ◌-◌}
use mathlib.Core.Path.{◌≡◌}
use Rattle.writing.proofs.decimal.digit_count.Given as goal

abbrev pub invariant-loop-k : goal.invariant-loop-k
invariant-loop-k l = l.k + length (digits_in (9 - l.k) l.m) ≡ 1 + length (digits l.n)
