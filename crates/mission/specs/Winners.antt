-- Document 01, "Chip heights and pots", who is paid at a settle, by the notebook: the winners of a pot, and what is unclaimed. A pot's contenders are a mask of
-- seats: bit i is seat i + 1. Assumes nothing.
use Rattle.std.specs.Prelude.{ℕ, suc, ◌<◌, false, ◌≡◌, List, map, length}
use Rattle.laws.specs.Bits.{bit_at, ones}
use Rattle.laws.specs.Lists.{sum_of}
use Rattle.laws.specs.Tests.{pick}
use Rattle.paper.specs.declared.Sheet.{Sheet}
use Rattle.cards.specs.Order.{ranking_of, beats_by, best_among}
use Rattle.cards.specs.Omaha.{allowed}
use Rattle.cards.specs.declared.Hand.{Hand}
use Rattle.pots.specs.Hand.{winners_of}
use Rattle.pots.specs.Heights.{returned_of}
use Rattle.pots.specs.declared.Pot.{Pot}
use Rattle.history.specs.Notebook.{Notebook, ten_seats, part_at, puts_by, lives_by, score_by, here}

-- "A hand is the best of the 21 choices of five among two hole and five board cards", and with four "exactly two of the hole cards with exactly three of the board":
-- of the sitting dealt in at seat x
abbrev pub best_at : Sheet → Notebook → ℕ → Hand
best_at sheet n x = best_among (ranking_of sheet.deck) (allowed sheet.game (part_at n x).hole n.board.cards)

abbrev pub scores_by : Sheet → Notebook → List ℕ
scores_by sheet n = map (λ x. score_by sheet.deck sheet.game n.board.cards (part_at n x)) ten_seats

-- seat i + 1 contends for a pot, and wins a share of it
abbrev pub Contends : Pot → ℕ → Type 0
Contends p i = bit_at p.who i ≡ 1

abbrev pub Wins : Sheet → Notebook → Pot → ℕ → Type 0
Wins sheet n p i = bit_at (winners_of (scores_by sheet n) p.who) i ≡ 1

-- it contends, and no contender's best hand beats its own
abbrev pub Unbeaten : Sheet → Notebook → Pot → ℕ → Type 0
Unbeaten sheet n p i = Contends p i × ((j : ℕ) → j < 10 → Contends p j → beats_by (ranking_of sheet.deck) (best_at sheet n (suc j)) (best_at sheet n (suc i)) ≡ false)

-- "shared equally by the contenders with the best hand"; "A sole contender needs no cards": it wins whatever the hands count
pub record BestWin (sheet : Sheet) (n : Notebook) (p : Pot) : Type 0 where
  pub wins : (i : ℕ) → i < 10 → Wins sheet n p i → Unbeaten sheet n p i
  pub unbeaten : (i : ℕ) → i < 10 → Unbeaten sheet n p i → Wins sheet n p i
  pub sole : ones 10 p.who ≡ 1 → (scores : List ℕ) → length scores ≡ 10 → winners_of scores p.who ≡ p.who

-- the returned chips of the sittings that are no longer there
abbrev pub left_behind : Notebook → ℕ
left_behind n = sum_of (map (λ x. pick (here n (n.hand.dealt x)) 0 (returned_of (puts_by n) (lives_by n) (part_at n x).put)) ten_seats)
