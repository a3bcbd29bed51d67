-- Change request No. 8: the size of an answer, "reported beforehand". Assumes nothing.
use Rattle.std.specs.Prelude.{ℕ, List, length}
use Rattle.table.specs.declared.table.Table.{Table}
use Rattle.desk.specs.Desk.{block_bytes}

-- how many bytes the answer to the block at the front of a log has: the room that it takes, 0 where there is no block
unfoldable pub room_of : Table → List ℕ → ℕ
room_of t log = length (block_bytes t log)
