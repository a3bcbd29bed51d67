-- Request No. 6: "cards seven to ace only (20 to 51; others get code 2)", read against the sheet, at every table and whatever `n` is: so before 3 and all
-- later codes; and which cards a deck has. Assumes nothing.
use Prim.Native.Nat.{ℕ, zero-le, ◌≤◌, ◌<◌}
use mathlib.Core.Bool.{true, false}
use mathlib.Core.Path.{◌≡◌, ap, ◌∙◌}
use mathlib.Core.Logic.{◌⊎◌, ⊎_elim}
use borrow.Author.Tests.{lt-leb, le-leb}
use lib.Dec.{leb}
use Rattle.laws.proofs.Conjunction.{both_none}
use Rattle.paper.specs.Paper.{is_seat, least_card, is_card, in_range}
use Rattle.paper.specs.SheetAndEntries.{is_count}
use Rattle.paper.specs.declared.Entry.TheVariants.{Hole, Board}
use Rattle.table.specs.Take.{code_of}
use Rattle.table.specs.declared.table.Table.{Table}

-- the deck of 32 has no card below the seven of suit 0, and all from it on; that of 52 has all
pub below_seven : (k : ℕ) → k < 20 → is_card 32 k ≡ false
below_seven k h = rw (lt-leb 20 k h)

pub seven_up : (k : ℕ) → 20 ≤ k → k ≤ 51 → is_card 32 k ≡ true
seven_up k l u = rw (le-leb 20 k l, le-leb k 51 u)

pub all_cards : (k : ℕ) → k ≤ 51 → is_card 52 k ≡ true
all_cards k u = rw (le-leb 0 k zero-le, le-leb k 51 u)

pub no_card : (deck k : ℕ) → 51 < k → is_card deck k ≡ false
no_card deck k h = rw (lt-leb k 51 h) (both_none (leb (least_card deck) k))

-- a card that the table's deck has not gets 2
pub board_2 : (t : Table) (n k : ℕ) → is_card t.sheet.deck k ≡ false → code_of t n (Board k) ≡ 2
unfolding code_of in_range
board_2 t n k h = rw (h, both_none (is_count n))

pub hole_2 : (t : Table) (n s a b : ℕ) → (is_card t.sheet.deck a ≡ false) ⊎ (is_card t.sheet.deck b ≡ false) → code_of t n (Hole s a b) ≡ 2
unfolding code_of in_range
hole_2 t n s a b h =
    ⊎_elim
    (λ (e : is_card t.sheet.deck a ≡ false). rw (e, both_none (is_seat t.sheet s), both_none (is_count n)))
    (λ (e : is_card t.sheet.deck b ≡ false). rw (e, both_none (is_card t.sheet.deck a), both_none (is_seat t.sheet s), both_none (is_count n)))
    h

-- in the request's numbers
pub six_is_2 : (t : Table) (n k : ℕ) → t.sheet.deck ≡ 32 → k < 20 → code_of t n (Board k) ≡ 2
six_is_2 t n k d h = board_2 t n k (ap (λ (deck : ℕ). is_card deck k) d ∙ below_seven k h)
