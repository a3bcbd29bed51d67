-- Request No. 7: "Pool opening plus all drops equals jackpot payments, the parts that went to the house, and the pool." The opening of a whole input, and the hands that its
-- blocks settle at the one table and the other, the newest first. Assumes nothing.
use Rattle.std.specs.Prelude.{ℕ, Bool, List, [], ◌∷◌, ◌++◌}
use Rattle.laws.specs.Tests.{pick}
use Rattle.text.specs.Line.{line_number}
use Rattle.text.specs.TableSheet.{value_in}
use Rattle.table.specs.declared.table.Table.{Table}
use Rattle.royal.specs.Royal.{royal_now}
use Rattle.pool.specs.Jackpot.{opened_with}
use Rattle.pool.specs.Evening.{Which, table1, table2, Played}
use Rattle.pool.specs.declared.Pool.{Pool}
use Rattle.desk.specs.declared.Judged.{Judged}
use Rattle.shared.specs.Shared.{judged_at}
use Rattle.frames.specs.declared.Due.{Due}
use Rattle.frames.specs.Frames.{in_opening, Piece, Whole, Cut, OfNone, Missing, pieces_of}
use Rattle.couple.specs.declared.Pair.{Pair}
use Rattle.couple.specs.Couple.{is_second, table_at, start_of, pool_key}
use Rattle.pairs.specs.Pairs.{cut_lines, piece_in}

-- what the line `pool` says, the first piece of an input
abbrev pub pool_said : Piece → ℕ
pool_said (Whole due lines) = value_in (line_number pool_key lines)
pool_said (Cut due) = 0
pool_said OfNone = 0
pool_said Missing = 0

abbrev pub opening_in : List Piece → ℕ
opening_in [] = 0
opening_in (x ∷ xs) = pool_said x

abbrev pub opening_of : List ℕ → ℕ
opening_of input = opening_in (pieces_of input)

-- the pool as it opens
abbrev pub pool_of : List ℕ → Pool
pool_of input = (opened_with (opening_of input)).pool

-- the hand that a block settles at its table, where it settles one
abbrev pub which_of : Bool → Which
which_of second = pick second table2 table1

abbrev pub settled_by : Bool → Table → Judged → List Played
settled_by second t j = pick j.payout.settled (record { at = which_of second; hand = record { drop = j.payout.drop; royal = royal_now t } } ∷ []) []

abbrev pub played_by : Pair → Due → List ℕ → List Played
played_by p due lines = let t : Table = table_at p.tables (is_second due) in settled_by (is_second due) t (judged_at t lines)

abbrev pub played_to : Pair → Piece → List Played
played_to p (Whole due lines) = pick (in_opening due) [] (played_by p due lines)
played_to p (Cut due) = played_by p due cut_lines
played_to p OfNone = []
played_to p Missing = []

abbrev pub hands_in : Pair → List Piece → List Played
hands_in p [] = []
hands_in p (x ∷ xs) = hands_in (piece_in 0 p x).pair xs ++ pick p.shut [] (played_to p x)

-- all hands of a whole input
abbrev pub hands_of : List ℕ → List Played
hands_of input = hands_in start_of (pieces_of input)
