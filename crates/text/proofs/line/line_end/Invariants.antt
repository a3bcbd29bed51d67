-- `line_end` meets its contract: at each place passed, the place and the rest's line make the same end.
use Rattle.text.specs.Line.{line_len}
use lib.ListN.{drop}
use Prim.Native.Nat.{◌+◌}
use mathlib.Core.Path.{◌≡◌}
use Rattle.text.proofs.line.line_end.Given as goal

abbrev pub invariant-loop-i : goal.invariant-loop-i
invariant-loop-i l = l.i + line_len (drop l.i l.log) ≡ line_len l.log
