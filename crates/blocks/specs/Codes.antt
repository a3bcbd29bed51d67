-- Document 01, "Refusal numbers": the paper's number for each case of the answers of this crate. Assumes nothing.
use Rattle.std.specs.Prelude.{ℕ, Result, Ok, Err}
use Rattle.paper.specs.declared.Entry.{Entry}
use Rattle.paper.specs.declared.refusal.Refusal.{Refusal}
use Rattle.paper.specs.RefusalNumbers.{taken, malformed, out_of_range}
use Rattle.blocks.specs.declared.Block.{Block}
use Rattle.blocks.specs.declared.Block.TheVariants.{Raw, Malformed, Nothing}

-- five lines of good form give no refusal of their own. Where there are no bytes there is no block: whoever asks for one all the same gets 1
abbrev pub code_of_block : Block → ℕ
code_of_block (Raw n kind seat a b) = taken
code_of_block Malformed = malformed
code_of_block Nothing = malformed

abbrev pub code_of_parsed : Result Entry Refusal → ℕ
code_of_parsed (Ok e) = taken
-- such numbers are refused for no other reason
code_of_parsed (Err why) = out_of_range
