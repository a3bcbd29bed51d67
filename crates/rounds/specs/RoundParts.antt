-- Request No. 14, the program `crown`: input however it is chopped, in constant memory; a block is answered as soon as its sixteenth LF arrives, "bytes behind the
-- last whole block get code=1 at the end". Assumes nothing.
use Rattle.std.specs.Prelude.{List, [], ◌∷◌, ◌++◌, ℕ, ◌+◌, ◌*◌, ◌≤◌, ◌<◌, eqb, ltb, leb, length, take}
use Rattle.laws.specs.Tests.{pick}
pub use Rattle.cuts.specs.Kept.{Kept, nothing}
unfoldable pub use Rattle.cuts.specs.Kept.{keep_of}
use Rattle.rounds.specs.RoundAnswer.{answer_bytes}
use Rattle.rounds.specs.declared.parts.Fill.{Fill}

pub record Gathered : Type 0 where
  pub kept : Kept
  pub left : List ℕ

-- up to the LF of a block's last line, or all
abbrev pub gather_of : Kept → List ℕ → Gathered
gather_of k [] = record { kept = k; left = [] }
gather_of k (b ∷ bs) = pick (leb 16 (keep_of k b).lines) (record { kept = keep_of k b; left = bs }) (gather_of (keep_of k b) bs)

abbrev pub state_of : Fill → List ℕ → Kept
state_of m buf = record { bytes = take m.count buf; lines = m.lines; width = m.width }

-- what is kept fits into 544 bytes: sixteen lines, each of 33 bytes and its LF
pub record Room (m : Fill) : Type 0 where
  pub count : m.count ≤ m.lines * 34 + m.width
  pub width : m.width ≤ 33
  pub lines : m.lines ≤ 16
  pub most : m.count ≤ 544

-- between two parts a block is unfinished
pub record Held (m : Fill) : Type 0 where
  pub room : Room m
  pub lines : m.lines < 16

-- what was gathered: an unfinished block is kept, and nothing of a whole one
abbrev pub kept_after : Kept → Kept
kept_after k = pick (ltb k.lines 16) k nothing

-- and a whole one is answered
abbrev pub bytes_after : Kept → List ℕ
bytes_after k = pick (ltb k.lines 16) [] (answer_bytes k.bytes)

-- at the end what is kept, if anything, is answered
unfoldable pub close_bytes : Kept → List ℕ
close_bytes k = pick (eqb (length k.bytes) 0) [] (answer_bytes k.bytes)

-- the answers to bytes that come one by one behind what is kept, and at the end to the rest
abbrev pub heard_from : Kept → List ℕ → List ℕ
heard_from k [] = close_bytes k
heard_from k (b ∷ bs) =
    pick (leb 16 (keep_of k b).lines) (answer_bytes (keep_of k b).bytes ++ heard_from nothing bs) (heard_from (keep_of k b) bs)
