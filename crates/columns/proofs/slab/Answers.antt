-- `slab` meets its contract.
use mathlib.Core.Path.{◌∙◌, ap₂}
use Prim.Native.Nat.{◌-◌}
use Rattle.columns.specs.Columns.{slab_of}
use Rattle.columns.proofs.slab.Goals as goal

pub returns : goal.returns
unfolding slab_of
returns c = c.saturating_sub.ensures ∙ ap₂ ◌-◌ c.min.ensures c.min-2.ensures
