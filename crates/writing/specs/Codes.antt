-- Document 01, "Refusal numbers": the paper's number for each case of the answers of this crate. Assumes nothing.
use Rattle.std.specs.Prelude.{ℕ, Result, Ok, Err}
use Rattle.paper.specs.declared.refusal.Refusal.{Refusal}
use Rattle.paper.specs.RefusalNumbers.{taken, no_room}

abbrev pub code_of_written : Result ℕ Refusal → ℕ
code_of_written (Ok k) = taken
-- writing is refused for no other reason
code_of_written (Err why) = no_room
