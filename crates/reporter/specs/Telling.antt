-- What the supervisor's page keeps after each block: the block is judged by the box, and what it did is noted. Assumes nothing.
use Rattle.std.specs.Prelude.{ℕ, List, eqb, Result, Ok, Err}
use Rattle.paper.specs.declared.refusal.Refusal.{Refusal}
use Rattle.laws.specs.Tests.{pick}
use Rattle.paper.specs.Paper.{taken}
use Rattle.paper.specs.declared.Entry.{Entry}
use Rattle.blocks.specs.Block.{block_of}
use Rattle.blocks.specs.Entry.{parsed_of}
use Rattle.blocks.specs.declared.Block.{Block}
use Rattle.blocks.specs.declared.Block.TheVariants.{Raw, Malformed, Nothing}
use Rattle.table.specs.declared.table.Table.{Table}
use Rattle.table.specs.declared.table.Payout.{Payout}
use Rattle.desk.specs.Desk.{judged_of}
use Rattle.notes.specs.Notes.{taken_notes, refused_notes}
use Rattle.notes.specs.declared.Notes.{Notes}

-- an entry is taken, or counted among the refusals of its code
unfoldable pub notes_read : Notes → Table → Entry → ℕ → Payout → Notes
notes_read m t e code p = pick (eqb code taken) (taken_notes m t e p) (refused_notes m code)

abbrev pub notes_parsed : Notes → Table → Result Entry Refusal → ℕ → Payout → Notes
notes_parsed m t (Ok e) code p = notes_read m t e code p
notes_parsed m t (Err why) code p = refused_notes m code

-- a block whose form is wrong has no entry
abbrev pub notes_after : Notes → Table → Block → ℕ → Payout → Notes
notes_after m t (Raw n kind seat a b) code p = notes_parsed m t (parsed_of kind seat a b) code p
notes_after m t Malformed code p = refused_notes m code
notes_after m t Nothing code p = refused_notes m code

-- after the block at the front of a log, at table t: with the code that the box gives it, and what it pays
unfoldable pub notes_of : Notes → Table → List ℕ → Notes
notes_of m t log = notes_after m t (block_of log) (judged_of t log).code (judged_of t log).payout
