-- Whole blocks at the front of a part of the log, answered where they lie.
-- Document 01: "Reading uses up five lines at a time, whatever the code". A block whose answer has no room (12) is left, for a sheet that has.
use Rattle.std.specs.Prelude.{ℕ, zero, suc, ◌-◌, List, [], ◌++◌, Bool, length, eqb, leb}
use Rattle.laws.specs.Tests.{pick, both}
use Rattle.blocks.specs.Block.{rest_of}
use Rattle.blocks.specs.Front.{block_ended}
use Rattle.lines.specs.declared.Fill.{Fill}
use Rattle.table.specs.declared.table.Table.{Table}
use Rattle.desk.specs.Desk.{judged_of, block_bytes}
use Rattle.stream.specs.declared.place.RanInPlace.{RanInPlace}

-- the table after the blocks that were answered, their answers, and what is left of the part
pub record InPlace : Type 0 where
  pub table : Table
  pub bytes : List ℕ
  pub left : List ℕ

-- no block
abbrev pub stopped : Table → List ℕ → InPlace
stopped t part = record { table = t; bytes = []; left = part }

-- so many bytes of answers before
abbrev pub behind : List ℕ → InPlace → InPlace
behind bs p = record { table = p.table; bytes = bs ++ p.bytes; left = p.left }

-- a block whose fifth LF has come lies at the front, and there is room for its answer
abbrev pub answers_front : Table → List ℕ → ℕ → Bool
answers_front t part room = both (block_ended part) (leb (length (block_bytes t part)) room)

-- block after block. The first number bounds how many; no part has more blocks than bytes
abbrev pub in_place_from : ℕ → Table → List ℕ → ℕ → InPlace
in_place_from zero t part room = stopped t part
in_place_from (suc k) t part room =
    pick (answers_front t part room)
    (behind (block_bytes t part) (in_place_from k (judged_of t part).table (rest_of part) (room - length (block_bytes t part))))
    (stopped t part)

unfoldable pub in_place_of : Table → List ℕ → ℕ → InPlace
in_place_of t part room = in_place_from (length part) t part room

-- the same by its counts: how many bytes of the part were used up, and how many were written
abbrev pub ran_of : InPlace → List ℕ → RanInPlace
ran_of p part = record { table = p.table; used = length part - length p.left; written = length p.bytes }

-- the sheet was read and nothing of the next block is kept
abbrev pub awaits_block : Bool → Fill → Bool
awaits_block opened m = both (eqb m.lines 0) (both (eqb m.width 0) opened)
