-- No section of the paper: how the program `try_pots` reads a line, numbers with blanks between them. Assumes nothing.
use Rattle.std.specs.Prelude.{Bool, true, false, List, ℕ, ◌+◌, ◌-◌, ◌*◌, ltb, leb, eqb, set}
use Rattle.laws.specs.Tests.{both, either, pick}
use Rattle.try_pots.specs.declared.line.Scan.{Scan}

-- a line of which nothing has been read
abbrev pub no_scan : Scan
no_scan = record { count = 0; value = 0; some = false; bad = false }

-- the line has a byte other than a blank
abbrev pub begun_of : Scan → Bool
begun_of s = either s.bad (either s.some (ltb 0 s.count))

-- no line of numbers
abbrev pub spoilt_of : Scan → Scan
spoilt_of s = record { count = s.count; value = 0; some = false; bad = true }

-- a line whose number that has begun is this
abbrev pub valued : Scan → ℕ → Scan
valued s n = record { count = s.count; value = n; some = true; bad = s.bad }

-- one digit more: none where the byte is no digit, or the number would be above 999,999,999
abbrev pub grows : Scan → ℕ → Bool
grows s b = both (leb s.value 99999999) (both (leb 48 b) (leb b 57))

unfoldable pub digit_to : Scan → ℕ → Scan
digit_to s b = pick (grows s b) (valued s (s.value * 10 + (b - 48))) (spoilt_of s)

-- a line of so many numbers, of which none has begun
abbrev pub counted : Scan → ℕ → Scan
counted s n = record { count = n; value = 0; some = false; bad = s.bad }

-- the line after the number that has begun, if any; there is room for so many
unfoldable pub ended_to : Scan → ℕ → Scan
ended_to s room = pick s.some (pick (ltb s.count room) (counted s (s.count + 1)) (spoilt_of s)) s

-- and the numbers: past the end none is kept
unfoldable pub numbers_to : Scan → List ℕ → List ℕ
numbers_to s nums = pick s.some (set nums s.count s.value) nums

-- the line after a byte: a blank ends a number, any other belongs to one
unfoldable pub taken_to : Scan → ℕ → ℕ → Scan
taken_to s room b = pick (eqb b 32) (ended_to s room) (digit_to s b)

unfoldable pub numbers_with : Scan → List ℕ → ℕ → List ℕ
numbers_with s nums b = pick (eqb b 32) (numbers_to s nums) nums
