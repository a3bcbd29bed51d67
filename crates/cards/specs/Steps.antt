-- No section of the paper: what the code reads off five cards, the digits of one number to the base 256, without taking the digits apart: their ranks,
-- their suits, and how far each rank is above the next (proofs/Stepped.antt: what that tells of a hand). Assumes nothing.
use Rattle.std.specs.Prelude.{ℕ, ◌+◌, ◌-◌, ◌*◌, ◌/◌, ◌%◌}

-- the ranks of five cards, as digits
unfoldable pub ranks_in : ℕ → ℕ
ranks_in n = n / 4 % 64 + n / 1024 % 64 * 256 + n / 262144 % 64 * 65536 + (n / 67108864 % 64 * 16777216 + n / 17179869184 % 64 * 4294967296) + 8623620610

-- the suits of the last four of five cards, as digits
unfoldable pub suits_in : ℕ → ℕ
suits_in n = n % 4 + n / 256 % 4 * 256 + n / 65536 % 4 * 65536 + n / 16777216 % 4 * 16777216

-- how far each of five ranks is above the next, as four digits, each with 128 more than that
unfoldable pub steps_in : ℕ → ℕ
steps_in r = r / 256 + 2155905152 - r % 4294967296

-- 1 for each of four digits that is 128 or more, as digits
unfoldable pub marks_in : ℕ → ℕ
marks_in x = x / 128 % 2 + x / 32768 % 2 * 256 + x / 8388608 % 2 * 65536 + x / 2147483648 % 2 * 16777216

-- the four marks as a number of four bits, the first mark the lowest
unfoldable pub gathered : ℕ → ℕ
gathered m = m * 134480385 / 16777216 % 16

-- which neighbours are the same, of ranks that fall: where the step is 128, so is 256 less the step, and below 128 elsewhere
unfoldable pub pattern_in : ℕ → ℕ
pattern_in x = gathered (marks_in (4311810304 - x))

-- the ranks of the ace and the four lowest, as digits
unfoldable pub lowest_row : ℕ → ℕ
lowest_row foot = foot * 16843009 + 60180005120
