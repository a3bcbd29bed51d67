-- Different cards of the 52: each rank is held once at most in a suit, so four times at most; and the suits are counted apart. For any number of cards.
-- Assumes nothing.
use mathlib.Core.Path.{◌≡◌, refl, sym, ap, ap₂, ◌∙◌}
use mathlib.Core.Bool.{Bool, true, false, ◌||◌, true≢false}
use mathlib.Core.Logic.{◌⊎◌, inl, inr, ⊎_elim}
use mathlib.Core.List.{List, [], ◌∷◌, map}
use Prim.Native.Nat.{ℕ, zero, suc, ◌+◌, ◌-◌, ◌*◌, ◌<◌, ◌≤◌}
use native.Mathlib.Omega.{arith}
use native.Mathlib.Decide.{dec_lt}
use lib.Dec.{eqb, ltb, leb}
use lib.ListN.{length, get_or}
use borrow.Author.Tests.{eqb-true, eq-eqb, ne_eqb, ltb-false, leb-true, leb-false}
use Rattle.laws.specs.Tests.{one, both, pick}
use Rattle.laws.specs.Often.{tally, count}
use Rattle.laws.specs.Some.{some}
use Rattle.laws.proofs.Tests.{test, both_true}
use Rattle.laws.proofs.Compare.{same_test}
use Rattle.laws.proofs.Often.{one_small, tally_map}
use Rattle.cards.specs.Cards.{rank, suit, all_are, all_alike, one_suit}
use Rattle.cards.specs.Reading.{any_above, is_among, any_twice}
use Rattle.cards.proofs.Mixed.{all_count}
use Rattle.counts.specs.HandOrder.{of_suit, flush_ranks}
use Rattle.counts.proofs.Counting.{suit_count}
use Rattle.counts.proofs.Rows.{Ranks, ranks_at}

pub or_false : (a b : Bool) → (a || b) ≡ false → (a ≡ false) × (b ≡ false)
or_false true b e = absurd (true≢false e)
or_false false b e = (refl, e)

-- ---- what the two refusals rule out
pub ranks_up_to : (l : List ℕ) → any_above l ≡ false → Ranks (map rank l)
unfolding some
ranks_up_to [] e = tt
ranks_up_to (c ∷ l) e =
    let p = or_false (ltb 51 c) (any_above l) e in
    ((omega arith, omega (arith, ltb-false 51 c p.0)), ranks_up_to l p.1)

-- each is a card; past the end stands 0
pub low_at : (l : List ℕ) (k : ℕ) → any_above l ≡ false → get_or l k 0 ≤ 51
unfolding some
low_at [] k e = omega arith
low_at (c ∷ l) zero e = ltb-false 51 c (or_false (ltb 51 c) (any_above l) e).0
low_at (c ∷ l) (suc k) e = low_at l k (or_false (ltb 51 c) (any_above l) e).1

none_of : (x : ℕ) (l : List ℕ) → is_among x l ≡ false → count x l ≡ 0
unfolding some
none_of x [] e = refl
none_of x (c ∷ l) e =
    let p = or_false (eqb x c) (is_among x l) e in
    let o : one (eqb x c) ≡ 0 = ap one p.0 in
    omega (arith, o, none_of x l p.1)

pub once_each : (l : List ℕ) → any_twice l ≡ false → (x : ℕ) → count x l ≤ 1
unfolding some
once_each [] e x = omega arith
once_each (c ∷ l) e x =
    let p = or_false (is_among c l) (any_twice l) e in
    ⊎_elim
    (λ (q : eqb x c ≡ true).
    let z : count x l ≡ 0 = ap (λ (v : ℕ). count v l) (eqb-true x c q) ∙ none_of c l p.0 in
    omega (arith, z, one_small (eqb x c)))
    (λ (q : eqb x c ≡ false). let o : one (eqb x c) ≡ 0 = ap one q in omega (arith, o, once_each l p.1 x))
    (test (eqb x c))

-- ---- each suit apart
pub tally_alike : {A : Type 0} (f g : A → Bool) → ((x : A) → f x ≡ g x) → (l : List A) → tally f l ≡ tally g l
tally_alike f g h [] = refl
tally_alike f g h (x ∷ l) = ap₂ (λ (b : Bool) (n : ℕ). one b + n) (h x) (tally_alike f g h l)

tally_none : {A : Type 0} (f : A → Bool) → ((x : A) → f x ≡ false) → (l : List A) → tally f l ≡ 0
tally_none f h [] = refl
tally_none f h (x ∷ l) = let o : one (f x) ≡ 0 = ap one (h x) in omega (arith, o, tally_none f h l)

-- a rank and a suit are a card
card_is : (s r c : ℕ) → s < 4 → 2 ≤ r → both (eqb s (suit c)) (eqb r (rank c)) ≡ eqb (4 * (r - 2) + s) c
card_is s r c h k =
    same_test (both (eqb s (suit c)) (eqb r (rank c))) (eqb (4 * (r - 2) + s) c)
    (λ e. let p = both_true (eqb s (suit c)) (eqb r (rank c)) e in eq-eqb (4 * (r - 2) + s) c (omega (arith, eqb-true s (suit c) p.0, eqb-true r (rank c) p.1)))
    (λ e.
    let q : 4 * (r - 2) + s ≡ c = eqb-true (4 * (r - 2) + s) c e in
    let a : s ≡ suit c = omega (arith, q) in
    let b : r ≡ rank c = omega (arith, q) in
    ap₂ both (eq-eqb s (suit c) a) (eq-eqb r (rank c) b))

no_rank : (s r c : ℕ) → r < 2 → both (eqb s (suit c)) (eqb r (rank c)) ≡ false
no_rank s r c h = ap (both (eqb s (suit c))) (ne_eqb r (rank c) (λ e. omega (arith, e))) ∙ last (eqb s (suit c))
  where
    last : (b : Bool) → both b false ≡ false
    last true = refl
    last false = refl

-- of different cards a rank is once at most in a suit
pub suit_once : (s r : ℕ) (l : List ℕ) → s < 4 → ((x : ℕ) → count x l ≤ 1) → count r (of_suit s l) ≤ 1
suit_once s r l h u = elim (dec_lt r 2) [
  | yes a ↦ omega (arith, suit_count s r l, tally_none (λ c. both (eqb s (suit c)) (eqb r (rank c))) (λ c. no_rank s r c a) l)
  | no a ↦
      omega (
        arith,
        suit_count s r l,
        tally_alike (λ c. both (eqb s (suit c)) (eqb r (rank c))) (eqb (4 * (r - 2) + s)) (λ c. card_is s r c h (omega arith)) l,
        u (4 * (r - 2) + s),
      )
]

-- one of four
one_of_four : (s : ℕ) (b : Bool) → s < 4 → one (both (eqb 0 s) b) + one (both (eqb 1 s) b) + one (both (eqb 2 s) b) + one (both (eqb 3 s) b) ≡ one b
one_of_four zero true h = refl
one_of_four zero false h = refl
one_of_four (suc zero) true h = refl
one_of_four (suc zero) false h = refl
one_of_four (suc (suc zero)) true h = refl
one_of_four (suc (suc zero)) false h = refl
one_of_four (suc (suc (suc zero))) true h = refl
one_of_four (suc (suc (suc zero))) false h = refl
one_of_four (suc (suc (suc (suc s)))) b h = absurd (omega arith)

-- a test of the cards of each suit, and of all
four_tallies : (f : ℕ → Bool) (l : List ℕ)
    → tally (λ c. both (eqb 0 (suit c)) (f c)) l + tally (λ c. both (eqb 1 (suit c)) (f c)) l + tally (λ c. both (eqb 2 (suit c)) (f c)) l + tally (λ c. both (eqb 3 (suit c)) (f c)) l ≡ tally f l
four_tallies f [] = refl
four_tallies f (c ∷ l) = omega (arith, four_tallies f l, one_of_four (suit c) (f c) (omega arith))

pub rank_suits : (r : ℕ) (l : List ℕ) → count r (of_suit 0 l) + count r (of_suit 1 l) + count r (of_suit 2 l) + count r (of_suit 3 l) ≡ count r (map rank l)
rank_suits r l =
    omega (arith, suit_count 0 r l, suit_count 1 r l, suit_count 2 r l, suit_count 3 r l, four_tallies (λ c. eqb r (rank c)) l, tally_map (eqb r) rank l)

-- a suit has some of the cards of a rank
less_one : (a b : Bool) → one (both a b) ≤ one b
less_one true b = omega arith
less_one false b = omega arith

tally_less : (f g : ℕ → Bool) (l : List ℕ) → tally (λ c. both (f c) (g c)) l ≤ tally g l
tally_less f g [] = omega arith
tally_less f g (c ∷ l) = omega (arith, tally_less f g l, less_one (f c) (g c))

pub suit_part : (s r : ℕ) (l : List ℕ) → count r (of_suit s l) ≤ count r (map rank l)
suit_part s r l = omega (arith, suit_count s r l, tally_map (eqb r) rank l, tally_less (λ c. eqb s (suit c)) (λ c. eqb r (rank c)) l)

-- none is above the ace
pub none_higher : (s r : ℕ) (l : List ℕ) → any_above l ≡ false → 15 ≤ r → count r (of_suit s l) ≡ 0
none_higher s r l e h = elim (dec_lt 0 (count r (of_suit s l))) [
  | yes g ↦ absurd (omega (arith, h, (ranks_at (map rank l) r (ranks_up_to l e) (omega (arith, g, suit_part s r l))).1))
  | no g ↦ omega arith
]

pub four_most : (r : ℕ) (l : List ℕ) → ((x : ℕ) → count x l ≤ 1) → count r (map rank l) ≤ 4
four_most r l u =
    omega (arith, rank_suits r l, suit_once 0 r l (omega arith) u, suit_once 1 r l (omega arith) u, suit_once 2 r l (omega arith) u, suit_once 3 r l (omega arith) u)

-- ---- a flush
-- five cards of one suit
pub suit_of_five : (c : List ℕ) → length c ≡ 5 → one_suit c ≡ true → (s : ℕ) × (s < 4) × (all_are s (map suit c) ≡ true) × (tally (λ d. eqb s (suit d)) c ≡ 5)
unfolding one_suit all_alike
suit_of_five [] n e = absurd (omega arith)
suit_of_five (x ∷ c) n e =
    let all : all_are (suit x) (map suit (x ∷ c)) ≡ true = ap (λ (b : Bool). both b (all_are (suit x) (map suit c))) (eq-eqb (suit x) (suit x) refl) ∙ e in
    (suit x, omega arith, all, sym (tally_map (eqb (suit x)) suit (x ∷ c)) ∙ all_count (suit x) (map suit (x ∷ c)) all ∙ map-long (x ∷ c) ∙ n)
  where
    map-long : (m : List ℕ) → length (map suit m) ≡ length m
    map-long [] = refl
    map-long (y ∷ m) = let ih = map-long m in omega (arith, ih)

-- there is a suit of which there are five cards, and its ranks are those of the flush; or there is none
abbrev pub FlushOf : List ℕ → ℕ → Type 0
FlushOf l s = (s < 4) × (5 ≤ length (of_suit s l)) × (flush_ranks l ≡ of_suit s l)

abbrev pub NoFlush : List ℕ → Type 0
NoFlush l = (flush_ranks l ≡ []) × ((s : ℕ) → s < 4 → length (of_suit s l) < 5)

few_four : (l : List ℕ) → length (of_suit 0 l) < 5 → length (of_suit 1 l) < 5 → length (of_suit 2 l) < 5 → length (of_suit 3 l) < 5 → (s : ℕ) → s < 4 → length (of_suit s l) < 5
few_four l a b c d zero h = a
few_four l a b c d (suc zero) h = b
few_four l a b c d (suc (suc zero)) h = c
few_four l a b c d (suc (suc (suc zero))) h = d
few_four l a b c d (suc (suc (suc (suc s)))) h = absurd (omega arith)

-- the ranks of a flush, told of each suit whether there are five cards of it
abbrev found : List ℕ → Bool → Bool → Bool → Bool → List ℕ
found l a b c d = pick a (of_suit 0 l) (pick b (of_suit 1 l) (pick c (of_suit 2 l) (pick d (of_suit 3 l) [])))

flush_found : (l : List ℕ) (a b c d : Bool) → leb 5 (length (of_suit 0 l)) ≡ a → leb 5 (length (of_suit 1 l)) ≡ b → leb 5 (length (of_suit 2 l)) ≡ c → leb 5 (length (of_suit 3 l)) ≡ d
    → flush_ranks l ≡ found l a b c d
unfolding flush_ranks
flush_found l a b c d p q r s =
    ap₂ (λ (x y : Bool). found l x y (leb 5 (length (of_suit 2 l))) (leb 5 (length (of_suit 3 l)))) p q ∙ ap₂ (found l a b) r s

pub flush_or : (l : List ℕ) → ((s : ℕ) × FlushOf l s) ⊎ NoFlush l
flush_or l = go (leb 5 (length (of_suit 0 l))) refl (leb 5 (length (of_suit 1 l))) refl (leb 5 (length (of_suit 2 l))) refl (leb 5 (length (of_suit 3 l))) refl
  where
    go : (a : Bool) → leb 5 (length (of_suit 0 l)) ≡ a → (b : Bool) → leb 5 (length (of_suit 1 l)) ≡ b → (c : Bool) → leb 5 (length (of_suit 2 l)) ≡ c → (d : Bool) → leb 5 (length (of_suit 3 l)) ≡ d
        → ((s : ℕ) × FlushOf l s) ⊎ NoFlush l
    go true p b q c r d s = inl (0, (omega arith, leb-true 5 _ p, flush_found l true b c d p q r s))
    go false p true q c r d s = inl (1, (omega arith, leb-true 5 _ q, flush_found l false true c d p q r s))
    go false p false q true r d s = inl (2, (omega arith, leb-true 5 _ r, flush_found l false false true d p q r s))
    go false p false q false r true s = inl (3, (omega arith, leb-true 5 _ s, flush_found l false false false true p q r s))
    go false p false q false r false s =
        inr (flush_found l false false false false p q r s, few_four l (leb-false 5 _ p) (leb-false 5 _ q) (leb-false 5 _ r) (leb-false 5 _ s))
