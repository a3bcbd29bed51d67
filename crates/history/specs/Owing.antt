-- Change request No. 8, "how many turns": how many seats owe, by the notebook; which entries are turn entries, and after which a seat may owe that did not.
-- No table is looked at. Lists of entries have the newest first. Assumes nothing.
use Rattle.std.specs.Prelude.{ℕ, ◌+◌, ◌<◌, Bool, true, false, ◌≡◌, List, [], ◌∷◌, ◌++◌}
use Rattle.laws.specs.Tests.{one}
use Rattle.paper.specs.declared.Sheet.{Sheet}
use Rattle.paper.specs.declared.Entry.{Entry}
use Rattle.paper.specs.declared.Entry.TheVariants.{Sit, Leave, Hand, Hole, Fold, Check, Call, Wager, Board, Dead, Settle, Void}
use Rattle.chairs.specs.Chairs.{seats_from}
use Rattle.history.specs.Notebook.{notebook}
use Rattle.history.specs.Turns.{count_seats, owes_by}

-- how many of the table's seats owe, after some entries
unfoldable pub owing_seats : Sheet → List Entry → ℕ
owing_seats sheet es = count_seats (owes_by (notebook sheet es)) (seats_from 0 sheet.seats)

-- a turn entry: one that the seat in turn makes. The others, `dead` too, may come between and don't count
abbrev pub is_turn : Entry → Bool
is_turn (Sit x a) = false
is_turn (Leave x) = false
is_turn (Hand x) = false
is_turn (Hole x a b) = false
is_turn (Fold x) = true
is_turn (Check x) = true
is_turn (Call x) = true
is_turn (Wager x a) = true
is_turn (Board k) = false
is_turn (Dead x) = false
is_turn Settle = false
is_turn Void = false

unfoldable pub turns_in : List Entry → ℕ
turns_in [] = 0
turns_in (e ∷ es) = turns_in es + one (is_turn e)

abbrev pub is_wager : Entry → Bool
is_wager (Sit x a) = false
is_wager (Leave x) = false
is_wager (Hand x) = false
is_wager (Hole x a b) = false
is_wager (Fold x) = false
is_wager (Check x) = false
is_wager (Call x) = false
is_wager (Wager x a) = true
is_wager (Board k) = false
is_wager (Dead x) = false
is_wager Settle = false
is_wager Void = false

-- an entry that may open a round: `hand` opens the first, `board` the others
abbrev pub is_opening : Entry → Bool
is_opening (Sit x a) = false
is_opening (Leave x) = false
is_opening (Hand x) = true
is_opening (Hole x a b) = false
is_opening (Fold x) = false
is_opening (Check x) = false
is_opening (Call x) = false
is_opening (Wager x a) = false
is_opening (Board k) = true
is_opening (Dead x) = false
is_opening Settle = false
is_opening Void = false

-- an entry after which no seat owes that did not owe before: no wager, and no opening
pub record Quiet (e : Entry) : Type 0 where
  pub wager : is_wager e ≡ false
  pub opening : is_opening e ≡ false

-- someone owes before each of the later entries
abbrev pub StillOwing : Sheet → List Entry → List Entry → Type 0
StillOwing sheet [] es = Unit {0}
StillOwing sheet (e ∷ later) es = (0 < owing_seats sheet (later ++ es)) × StillOwing sheet later es
