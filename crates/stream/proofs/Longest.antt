-- No answer of a sound table is longer than the longest, so a sheet with so much room takes the answer to any block. Assumes nothing.
use mathlib.Core.Path.{◌≡◌, ap, ◌∙◌}
use mathlib.Core.List.{List}
use Prim.Native.Nat.{ℕ, ◌≤◌}
use native.Mathlib.Omega.{arith}
use lib.ListN.{length}
use borrow.Author.Tests.{le-leb}
use Rattle.laws.specs.Tests.{both}
use Rattle.laws.proofs.Conjunction.{both_end}
use Rattle.blocks.specs.Front.{block_ended}
use Rattle.table.specs.declared.table.Table.{Table}
use Rattle.table.specs.Take.{Sound}
use Rattle.desk.specs.Desk.{block_bytes}
use Rattle.desk.proofs.Room.{bytes_most}
use Rattle.stream.specs.Feeding.{longest_answer}
use Rattle.stream.specs.InPlace.{answers_front}

pub longest : (t : Table) (log : List ℕ) → Sound t → length (block_bytes t log) ≤ longest_answer
longest t log h = bytes_most t log h

-- with so much room only a block that is not whole is left
pub whole_answered : (t : Table) (part : List ℕ) (room : ℕ) → Sound t → longest_answer ≤ room → answers_front t part room ≡ block_ended part
whole_answered t part room h k = ap (both (block_ended part)) (le-leb (length (block_bytes t part)) room (omega (arith, longest t part h))) ∙ both_end (block_ended part)
