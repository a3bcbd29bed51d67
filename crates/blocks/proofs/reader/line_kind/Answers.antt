-- `line_kind` meets its contract.
use Rattle.blocks.specs.Block.{kind_of}
use Prim.Native.Nat.{ℕ}
use mathlib.Core.List.{List}
use mathlib.Core.Path.{ap, ◌∙◌}
use Rattle.blocks.proofs.reader.line_kind.Goals as goal

pub returns : goal.returns
returns c = c.kind_of.ensures ∙ ap (λ (x : List ℕ). kind_of x) c.value_of.ensures
