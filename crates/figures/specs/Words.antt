-- The words and lines of the picture, as a person reads them.
use Rattle.std.specs.Prelude.{ℕ, ◌-◌, List, [], ◌∷◌, length}
use Prim.Native.Char.{code}
use Prim.Native.String.{String, [] as []ₛ, ◌∷◌ as ◌∷ₛ◌}

-- the bytes of a text
abbrev pub bytes : String → List ℕ
bytes []ₛ = []
bytes (c ∷ₛ s) = code c ∷ bytes s

-- a rule across the picture: it has forty-four columns
abbrev pub rule : List ℕ
rule = bytes "+------------------------------------------+\n"

-- the left edge and the label of each kind of line: document 01's ten in the order of the answer block, request No. 7's, and the empty label
abbrev pub labels : List (List ℕ)
labels =
    bytes "| entry     "
    ∷ bytes "| code      "
    ∷ bytes "| turn      "
    ∷ bytes "| mark      "
    ∷ bytes "| pot       "
    ∷ bytes "| back      "
    ∷ bytes "| fee       "
    ∷ bytes "| sitting   "
    ∷ bytes "| paid      "
    ∷ bytes "| unclaimed "
    ∷ bytes "| jackpot   "
    ∷ bytes "|           "
    ∷ []

-- how many kinds of line there are: the empty label stands behind theirs
abbrev pub kinds : ℕ
kinds = length labels - 1

-- the refusals in words, by document 01's table "Refusal numbers", and behind them those of the requests No. 12 and No. 13
abbrev pub words : List (List ℕ)
words =
    bytes "0: taken                                "
    ∷ bytes "1: the block's form is wrong            "
    ∷ bytes "2: unknown kind or number out of range  "
    ∷ bytes "3: n is not the next                    "
    ∷ bytes "4: wrong moment                         "
    ∷ bytes "5: the seat isn't as asked              "
    ∷ bytes "6: not that seat's turn                 "
    ∷ bytes "7: amount or act not allowed by Betting "
    ∷ bytes "8: a card already in this hand          "
    ∷ bytes "9: sit: more than 100,000,000 chips     "
    ∷ bytes "10: a live seat has no cards entered    "
    ∷ bytes "11: the sheet is bad                    "
    ∷ bytes "12: the answer sheet is too short       "
    ∷ bytes "13: put right, an entry would be refused"
    ∷ bytes "14: a shared pool: nothing is put right "
    ∷ bytes "15: the stored log is full              "
    ∷ bytes "16: the proposal does not pay exactly   "
    ∷ bytes "17: the proposer leaves something unpaid"
    ∷ []

-- how many numbers there are
abbrev pub refusals : ℕ
refusals = length words

-- the gap between a row's two halves, its right edge, and the left edge alone
abbrev pub gap : List ℕ
gap = bytes "        "

abbrev pub edge : List ℕ
edge = bytes " |\n"

abbrev pub bar : List ℕ
bar = bytes "| "

-- colours: the lamp is amber, a refusal is red
abbrev pub amber : List ℕ
amber = bytes "\u{1b}[1;33m"

abbrev pub red : List ℕ
red = bytes "\u{1b}[1;31m"

abbrev pub off : List ℕ
off = bytes "\u{1b}[0m"

abbrev pub taken : List ℕ
taken = bytes "      taken"

abbrev pub refused : List ℕ
refused = bytes "    REFUSED"

abbrev pub nobody : List ℕ
nobody = bytes "     nobody"
