-- No section of the paper: how the code keeps its counts. A set of ranks is a mask, bit r for the rank r; the cards are one mask of four times sixteen bits,
-- sixteen for each suit; and how many cards there are of each suit are four digits of one number, to the base 65536. Assumes nothing.
use Rattle.std.specs.Prelude.{false, ◌≡◌, List, [], ◌∷◌, map, ℕ, ◌+◌, ◌*◌, ◌^◌, ◌<◌, min, eqb, length}
use Rattle.laws.specs.Bits.{bit_at}
use Rattle.laws.specs.Often.{count}
use Rattle.cards.specs.Cards.{rank, suit}
use Rattle.cards.specs.Reading.{any_above, any_twice}
use Rattle.counts.specs.HandOrder.{passing, Counts, counts_of}
use Rattle.counts.specs.declared.seen.Seen.{Seen}
use Rattle.counts.specs.declared.masks.Masks.{Masks}

-- the ranks of a mask, from high to low
unfoldable pub ranks_in : ℕ → List ℕ
ranks_in m = passing 15 (λ r. eqb (bit_at m r) 1)

-- what masks keep
unfoldable pub shown : Masks → Counts
shown m =
    record { flush = ranks_in m.flush; once = ranks_in m.once; twice = ranks_in m.twice; thrice = ranks_in m.thrice; fourfold = ranks_in m.fourfold }

-- a mask of ranks up to the ace
abbrev pub Short : ℕ → Type 0
Short m = m < 32768

pub record AllShort (m : Masks) : Type 0 where
  pub flush_short : Short m.flush
  pub once_short : Short m.once
  pub twice_short : Short m.twice
  pub thrice_short : Short m.thrice
  pub fourfold_short : Short m.fourfold

-- where a card stands in the mask of all cards
abbrev pub place_of : ℕ → ℕ
place_of c = suit c * 16 + rank c

-- how many cards there are of each suit, as one number
unfoldable pub suit_sum : List ℕ → ℕ
suit_sum [] = 0
suit_sum (c ∷ l) = 2 ^ (suit c * 16) + suit_sum l

-- what is kept of some cards
pub record Sees (cards : List ℕ) (n : Seen) : Type 0 where
  pub held : (i : ℕ) → bit_at n.held i ≡ min (count i (map place_of cards)) 1
  pub suits : n.suits ≡ suit_sum cards

-- seven different cards
pub record Seven (cards : List ℕ) : Type 0 where
  pub long : length cards ≡ 7
  pub low : any_above cards ≡ false
  pub apart : any_twice cards ≡ false

-- the masks keep what is counted of some cards
pub record Shows (cards : List ℕ) (m : Masks) : Type 0 where
  pub are : shown m ≡ counts_of cards
  pub short : AllShort m
