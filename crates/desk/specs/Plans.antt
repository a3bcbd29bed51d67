-- A block as an entry that a table can always be given: a block that makes no entry has its code already, and for its entry one that every table refuses.
-- Assumes nothing.
use Rattle.std.specs.Prelude.{ℕ, Bool, true, false, Result, Ok, Err}
use Rattle.paper.specs.declared.Entry.{Entry}
use Rattle.paper.specs.declared.refusal.Refusal.{Refusal}
use Rattle.paper.specs.Paper.{or_else}
use Rattle.paper.specs.declared.Entry.TheVariants.{Void}
use Rattle.blocks.specs.Entry.{parsed_of}
use Rattle.blocks.specs.Codes.{code_of_block, code_of_parsed}
use Rattle.blocks.specs.declared.Block.{Block}
use Rattle.blocks.specs.declared.Block.TheVariants.{Raw, Malformed, Nothing}
use Rattle.table.specs.declared.table.Taken.{Taken}
use Rattle.desk.specs.declared.Judged.{Judged}
use Rattle.desk.specs.declared.Planned.{Planned}

-- what makes no entry has its code already
abbrev pub no_entry : Bool → ℕ → ℕ → Planned
no_entry block n code = record { block = block; n = n; code = code; entry = Void }

abbrev pub plan_parsed : ℕ → Result Entry Refusal → Planned
plan_parsed n (Err why) = no_entry true n (code_of_parsed (Err why))
plan_parsed n (Ok e) = record { block = true; n = n; code = code_of_parsed (Ok e); entry = e }

-- n is 0 after refusal 1; no bytes left means no block
abbrev pub plan_of : Block → Planned
plan_of (Raw n kind seat a b) = plan_parsed n (parsed_of kind seat a b)
plan_of Malformed = no_entry true 0 (code_of_block Malformed)
plan_of Nothing = no_entry false 0 (code_of_block Nothing)

-- what the block gets, by what the table said to the entry: the block's own code is given first (proofs/Plans, `plan_judged`: it is `judge_block`)
abbrev pub judged_by : Planned → Taken → Judged
judged_by p k = record { block = p.block; n = p.n; code = or_else p.code k.code; table = k.table; payout = k.payout }
