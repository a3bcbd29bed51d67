-- `note_added` meets its contract.
use Rattle.renewal.proofs.Steps.{added_bytes_law}
use mathlib.Core.Path.{ap}
use lib.ListN.{length}
use borrow.Author.Rules.{rules}
use Rattle.fair_copy.proofs.note_added.Goals as goal

pub write_added-n-requires : goal.write_added-n-requires
write_added-n-requires c = rw (ap length added_bytes_law) (search rules)
