-- Request No. 12: "each packed from its buffer's start with nothing else taking room there". Words in bytes, and bytes at a place of a lent buffer.
-- Assumes nothing.
use Rattle.std.specs.Prelude.{ℕ, ◌+◌, ◌*◌, ◌/◌, ◌%◌, List, [], ◌∷◌, ◌++◌, length, get_or, take, drop, leb}
use Rattle.laws.specs.Tests.{pick}
use Rattle.writing.specs.AnswerSheet.{over}

-- a number in four bytes, the low one first
abbrev pub word_bytes : ℕ → List ℕ
word_bytes w = w % 256 ∷ w / 256 % 256 ∷ w / 256 / 256 % 256 ∷ w / 256 / 256 / 256 % 256 ∷ []

abbrev pub words_bytes : List ℕ → List ℕ
words_bytes [] = []
words_bytes (w ∷ ws) = word_bytes w ++ words_bytes ws

-- and back: the number at a place
abbrev pub word_at : List ℕ → ℕ → ℕ
word_at l at = get_or l at 0 + 256 * (get_or l (at + 1) 0 + 256 * (get_or l (at + 2) 0 + 256 * get_or l (at + 3) 0))

-- the buffer with the bytes bs at a place, and all before and behind them as it was; where they have no room nothing changes
unfoldable pub put_at : ℕ → List ℕ → List ℕ → List ℕ
put_at at bs l = pick (leb (at + length bs) (length l)) (take at l ++ over bs (drop at l)) l
