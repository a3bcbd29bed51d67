-- The table and the notes after a block, from its reading, its judgement and what is noted of it. Assumes nothing.
use Prim.Native.Nat.{ℕ}
use mathlib.Core.Path.{◌≡◌, ap, ◌∙◌}
use mathlib.Core.List.{List}
use Rattle.blocks.specs.Block.{block_of}
use Rattle.blocks.specs.declared.Block.{Block}
use Rattle.table.specs.Take.{Sound}
use Rattle.table.specs.declared.table.Table.{Table}
use Rattle.desk.specs.Desk.{judged_of}
use Rattle.desk.specs.declared.Judged.{Judged}
use Rattle.notes.specs.declared.Notes.{Notes}
use Rattle.reporter.specs.Telling.{notes_after, notes_of}

pub told : {b : Block} {j : Judged} {ns : Notes} (m : Notes) (t : Table) (log : List ℕ) → b ≡ block_of log → j ≡ judged_of t log → Sound j.table
    → ns ≡ notes_after m t b j.code j.payout → (j.table ≡ (judged_of t log).table) × (ns ≡ notes_of m t log) × Sound j.table
unfolding notes_of
told {b} {j} {ns} m t log e q s n = (
  ap (λ (x : Judged). x.table) q,
  n ∙ ap (λ (x : Block). notes_after m t x j.code j.payout) e ∙ ap (λ (x : Judged). notes_after m t (block_of log) x.code x.payout) q,
  s,
)
