-- Request No. 14, the program `crown`: "The answer is `code` alone, or after 0 what comes back to the player for each wager, stake and win together, 0 where it
-- is lost or was not made: ante, flop, turn, river, jackpot, extra, dealer; then staked and back, their sums, and won and lost, both always, by how much back is
-- above or below staked (else 0)." Assumes nothing.
use Rattle.std.specs.Prelude.{List, [], ◌∷◌, ◌++◌, ℕ, zero, suc, eqb, length, Ok, Err}
use Rattle.laws.specs.Tests.{pick}
use Rattle.paper.specs.RefusalNumbers.{malformed}
use Rattle.text.specs.Line.{after_lines, number_line}
use Rattle.banked.specs.Rounds.{Outcome, code_of_outcome}
use Rattle.banked.specs.declared.judged.Seven.{Seven}
use Rattle.banked.specs.declared.judged.Settled.{Settled}
use Rattle.rounds.specs.RoundText.{good_form, numbers_of, judged_of}

abbrev pub key_code : List ℕ
key_code = 99 ∷ 111 ∷ 100 ∷ 101 ∷ []

abbrev pub key_ante : List ℕ
key_ante = 97 ∷ 110 ∷ 116 ∷ 101 ∷ []

abbrev pub key_flop : List ℕ
key_flop = 102 ∷ 108 ∷ 111 ∷ 112 ∷ []

abbrev pub key_turn : List ℕ
key_turn = 116 ∷ 117 ∷ 114 ∷ 110 ∷ []

abbrev pub key_river : List ℕ
key_river = 114 ∷ 105 ∷ 118 ∷ 101 ∷ 114 ∷ []

abbrev pub key_jackpot : List ℕ
key_jackpot = 106 ∷ 97 ∷ 99 ∷ 107 ∷ 112 ∷ 111 ∷ 116 ∷ []

abbrev pub key_extra : List ℕ
key_extra = 101 ∷ 120 ∷ 116 ∷ 114 ∷ 97 ∷ []

abbrev pub key_dealer : List ℕ
key_dealer = 100 ∷ 101 ∷ 97 ∷ 108 ∷ 101 ∷ 114 ∷ []

abbrev pub key_staked : List ℕ
key_staked = 115 ∷ 116 ∷ 97 ∷ 107 ∷ 101 ∷ 100 ∷ []

abbrev pub key_back : List ℕ
key_back = 98 ∷ 97 ∷ 99 ∷ 107 ∷ []

abbrev pub key_won : List ℕ
key_won = 119 ∷ 111 ∷ 110 ∷ []

abbrev pub key_lost : List ℕ
key_lost = 108 ∷ 111 ∷ 115 ∷ 116 ∷ []

-- two lines
unfoldable pub two_bytes : List ℕ → ℕ → List ℕ → ℕ → List ℕ
two_bytes first x second y = number_line first x ++ number_line second y

unfoldable pub seven_bytes : Seven → List ℕ
seven_bytes s =
    two_bytes key_ante s.ante key_flop s.flop
    ++ two_bytes key_turn s.turn key_river s.river
    ++ two_bytes key_jackpot s.jackpot key_extra s.extra
    ++ number_line key_dealer s.dealer

unfoldable pub sums_bytes : Settled → List ℕ
sums_bytes s = two_bytes key_staked s.staked key_back s.back ++ two_bytes key_won s.won key_lost s.lost

unfoldable pub settled_bytes : Settled → List ℕ
settled_bytes s = seven_bytes s.backs ++ sums_bytes s

-- what stands behind the code
abbrev pub behind_code : Outcome → List ℕ
behind_code (Ok s) = settled_bytes s
behind_code (Err e) = []

unfoldable pub outcome_bytes : Outcome → List ℕ
outcome_bytes o = number_line key_code (code_of_outcome o) ++ behind_code o

-- the answer to a block: "A block of bad form or not whole: code=1"
unfoldable pub answer_bytes : List ℕ → List ℕ
answer_bytes block = pick (good_form block) (outcome_bytes (judged_of (numbers_of block))) (number_line key_code malformed)

-- the whole output: "Sixteen LFs are used up whatever the code; bytes behind the last whole block get code=1 at the end; no input, no output." The first number
-- bounds how many blocks; no input has more of them than bytes
unfoldable pub output_from : ℕ → List ℕ → List ℕ
output_from zero log = []
output_from (suc k) log = pick (eqb (length log) 0) [] (answer_bytes log ++ output_from k (after_lines 16 log))

unfoldable pub output_of : List ℕ → List ℕ
output_of log = output_from (length log) log
