-- What was written of a lent sheet lies inside it. Assumes nothing.
use Prim.Native.Nat.{ℕ, ◌≤◌}
use mathlib.Core.Path.{◌≡◌}
use mathlib.Core.List.{List}
use lib.ListN.{length}
use Rattle.writing.specs.AnswerSheet.{Wrote}
use Rattle.pairs.proofs.Runs.{within}

pub inside : {bs out new : List ℕ} {w : ℕ} → Wrote bs out new w → length new ≡ length out → w ≤ length out
inside v e = within e v
