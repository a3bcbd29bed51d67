-- `read_line` meets its contract: the kinds from k on find what all kinds find.
use Rattle.picture.specs.Lines.{line_kinds, line_from, answer_line}
use mathlib.Core.Path.{◌≡◌}
use Prim.Native.Nat.{◌-◌}
use Rattle.picture.proofs.reading.read_line.Given as goal

abbrev pub invariant-loop-k : goal.invariant-loop-k
invariant-loop-k l = line_from (line_kinds - l.k) l.k l.line ≡ answer_line l.line
