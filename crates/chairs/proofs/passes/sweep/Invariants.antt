-- `sweep` meets its contract: the first chairs are swept.
use mathlib.Core.Path.{◌≡◌}
use Rattle.chairs.specs.declared.Chair.{Chair}
use Rattle.chairs.proofs.Laws.{sweep_to}
use Rattle.chairs.proofs.passes.sweep.Given as goal

abbrev pub invariant-loop-c : goal.invariant-loop-c
invariant-loop-c g l = (f : Chair → Chair) → ((c d : Chair) → goal.F-post g l.becomes c d → d ≡ f c) → l.cs ≡ sweep_to f l.c-index l.initial.cs
