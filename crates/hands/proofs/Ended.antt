-- What a line is after its last number, and the answer to it, put together from what was called. Assumes nothing.
use mathlib.Core.Path.{◌≡◌, sym, ap, ap₂, ◌∙◌, subst}
use mathlib.Core.Bool.{Bool, true, false, not}
use mathlib.Core.List.{List, [], ◌∷◌}
use Prim.Native.Nat.{ℕ, suc, ◌+◌, ◌-◌, ◌<◌, ◌≤◌}
use native.Mathlib.Omega.{arith}
use lib.Dec.{eqb, ltb}
use lib.ListN.{length, get_or, take, drop, set}
use lib.Seq.{set_out}
use borrow.Author.Tests.{ne_eqb, eqb-true, lt-ltb, le-ltb}
use Rattle.std.specs.Prelude.{Ok, Err, Some, None}
use Rattle.laws.specs.Tests.{both, pick}
use Rattle.laws.proofs.Tests.{both_true}
use Rattle.laws.specs.Often.{tally}
use Rattle.laws.proofs.Often.{tally_most}
use Rattle.cards.specs.Order.{ranking_of, best_of}
use Rattle.cards.specs.Reading.{Reading, number_of, any_above, any_outside, any_twice, reading_of}
use Rattle.cards.specs.declared.Hand.{Hand}
use Rattle.cards.specs.declared.asked.NoHand.{NoHand}
use Rattle.cards.specs.declared.asked.NoHand.TheVariants.{NotSeven, NoCard, Repeat}
use Rattle.cards.proofs.Falls.{seven_list}
use Rattle.ladder.specs.Ladder.{ladder, is_on, beats52, place_of}
use Rattle.ladder.proofs.Laid.{ladder_length}
use Rattle.counts.specs.HandOrder.{counted_reading}
use Rattle.counts.proofs.Agree.{readers_agree}
use Rattle.hands.specs.Answers.{WroteAt, number_bytes, hand_bytes, place_bytes, known_bytes, reading_bytes}
use Rattle.hands.specs.Lines.{line_of, behind, with_word, ended_to, cards_to, five_of, read_by, answer_of}
use Rattle.hands.specs.declared.Line.{Line}
use Rattle.hands.proofs.Written.{next}

module _ (l : Line) (cs : List ℕ) where
  -- no number had begun
  pub ended_none : l.word ≡ None → (l ≡ ended_to l (length cs)) × (cs ≡ cards_to l cs)
  unfolding ended_to cards_to
  ended_none e = (sym (ap (behind l (length cs)) e), sym (ap (with_word cs l.have) e))

  module _ (w : ℕ) (e : l.word ≡ Some w) where
    -- one had, and there is room for it
    pub ended_kept : l.have < length cs → (line_of (l.have + 1) ≡ ended_to l (length cs)) × (set cs l.have w ≡ cards_to l cs)
    unfolding ended_to cards_to
    ended_kept h = (
      ap (λ (b : Bool). line_of (pick b (l.have + 1) l.have)) (sym (lt-ltb l.have (length cs) h)) ∙ sym (ap (behind l (length cs)) e),
      sym (ap (with_word cs l.have) e),
    )

    -- one had, and there is none
    pub ended_full : length cs ≤ l.have → (line_of l.have ≡ ended_to l (length cs)) × (cs ≡ cards_to l cs)
    unfolding ended_to cards_to
    ended_full h = (
      ap (λ (b : Bool). line_of (pick b (l.have + 1) l.have)) (sym (le-ltb l.have (length cs) h)) ∙ sym (ap (behind l (length cs)) e),
      sym (set_out cs l.have w h) ∙ sym (ap (with_word cs l.have) e),
    )

-- ---- the answer
module _ {at s : ℕ} {o m : List ℕ} (place : Bool) (h : Hand) where
  pub known_place : place ≡ true → WroteAt (place_bytes h) at o m s → WroteAt (known_bytes place h) at o m s
  unfolding known_bytes
  known_place e w = subst (λ (b : Bool). WroteAt (pick b (place_bytes h) (hand_bytes h)) at o m s) (sym e) w

  pub known_hand : place ≡ false → WroteAt (hand_bytes h) at o m s → WroteAt (known_bytes place h) at o m s
  unfolding known_bytes
  known_hand e w = subst (λ (b : Bool). WroteAt (pick b (place_bytes h) (hand_bytes h)) at o m s) (sym e) w

module _ {at s : ℕ} {o m : List ℕ} (place : Bool) where
  pub known_bytes_law : (r : Reading) (h : Hand) → r ≡ Ok h → WroteAt (known_bytes place h) at o m s → WroteAt (reading_bytes place r) at o m s
  unfolding reading_bytes
  known_bytes_law r h e w = subst (λ (x : Reading). WroteAt (reading_bytes place x) at o m s) (sym e) w

  pub refused_bytes : (r : Reading) (e : NoHand) → r ≡ Err e → WroteAt (number_bytes (number_of e)) at o m s → WroteAt (reading_bytes place r) at o m s
  unfolding reading_bytes
  refused_bytes r e q w = subst (λ (x : Reading). WroteAt (reading_bytes place x) at o m s) (sym q) w

pub answer_is : {at r s : ℕ} {o m p : List ℕ} (five : Bool) (deck : ℕ) (place : Bool) (l e : Line) (cs ds : List ℕ) (a : Reading) → e ≡ ended_to l (length cs)
    → ds ≡ cards_to l cs → a ≡ read_by five deck (take (e.have - 0) (drop 0 ds)) → WroteAt (reading_bytes place a) at o m r → WroteAt (10 ∷ []) r m p s
    → WroteAt (answer_of five deck place l cs) at o p s
unfolding answer_of
answer_is {at} {r} {s} {o} {m} {p} five deck place l e cs ds a f g q w v =
    let z : e.have - 0 ≡ e.have = omega arith in
    next
    (subst (λ (x : Reading). WroteAt (reading_bytes place x) at o m r)
    (q ∙ ap (λ (n : ℕ). read_by five deck (take n ds)) z ∙ ap₂ (λ (x : Line) (y : List ℕ). read_by five deck (take x.have y)) f g) w)
    v

-- ---- five cards, or seven
module _ (l : List ℕ) where
  abbrev fives : Bool
  fives = both (eqb (length l) 5) (not (any_above l))

  -- what the code asks, in two steps
  pub fives_are : (a q : Bool) {t : Bool} → a ≡ any_above l → q ≡ both (eqb (length l) 5) (not a) → q ≡ t → fives ≡ t
  fives_are a q e f g = sym (f ∙ ap (λ (b : Bool). both (eqb (length l) 5) (not b)) e) ∙ g

  pub five_none : fives ≡ false → Err NoCard ≡ five_of l
  unfolding five_of
  five_none e = sym (ap (λ (b : Bool). pick b (pick (any_twice l) (Err Repeat) (Ok (best_of (ranking_of 52) l))) (Err NoCard)) e)

  known_five : fives ≡ true → pick (any_twice l) (Err Repeat) (Ok (best_of (ranking_of 52) l)) ≡ five_of l
  unfolding five_of
  known_five e = sym (ap (λ (b : Bool). pick b (pick (any_twice l) (Err Repeat) (Ok (best_of (ranking_of 52) l))) (Err NoCard)) e)

  pub five_twice : fives ≡ true → any_twice l ≡ true → Err Repeat ≡ five_of l
  five_twice e f = sym (ap (λ (b : Bool). pick b (Err Repeat) (Ok (best_of (ranking_of 52) l))) f) ∙ known_five e

  pub five_known : {h : Hand} → fives ≡ true → any_twice l ≡ false → h ≡ best_of (ranking_of 52) l → Ok h ≡ five_of l
  five_known e f g = ap Ok g ∙ sym (ap (λ (b : Bool). pick b (Err Repeat) (Ok (best_of (ranking_of 52) l))) f) ∙ known_five e

  pub read_five : {r : Reading} (five : Bool) (deck : ℕ) → five ≡ true → r ≡ five_of l → r ≡ read_by five deck l
  unfolding read_by
  read_five five deck e q = q ∙ sym (ap (λ (b : Bool). pick b (five_of l) (reading_of deck l)) e)

  pub read_seven : {r : Reading} (five : Bool) (deck : ℕ) → five ≡ false → r ≡ reading_of deck l → r ≡ read_by five deck l
  unfolding read_by
  read_seven five deck e q = q ∙ sym (ap (λ (b : Bool). pick b (five_of l) (reading_of deck l)) e)

-- ---- the place has four digits at most
pub place_small : (h : Hand) → place_of h < 10000
unfolding place_of
place_small h = go (is_on h)
  where
    go : (b : Bool) → pick b (suc (tally (beats52 h) ladder)) 0 < 10000
    go true = omega (arith, tally_most (beats52 h) ladder, ladder_length)
    go false = omega arith

-- ---- both readers give the same answer
pub counted_as : (l : List ℕ) (r : Reading) → length l ≡ 7
    → r ≡ counted_reading (get_or l 0 0 ∷ get_or l 1 0 ∷ get_or l 2 0 ∷ get_or l 3 0 ∷ get_or l 4 0 ∷ get_or l 5 0 ∷ get_or l 6 0 ∷ []) → r ≡ reading_of 52 l
counted_as l r n e = e ∙ ap counted_reading (sym (seven_list 0 l n)) ∙ readers_agree l n

pub not_seven : (l : List ℕ) → (length l ≡ 7 → ⊥) → Err NotSeven ≡ reading_of 52 l
unfolding reading_of
not_seven l h = sym (ap (λ (b : Bool). pick (not b) (Err NotSeven) (pick (any_outside 52 l) (Err NoCard) (pick (any_twice l) (Err Repeat) (Ok (best_of (ranking_of 52) l))))) (ne_eqb (length l) 7 h))

-- the second reader is asked about the 52 cards only
pub counted_deck : (counted : Bool) (deck : ℕ) (l : List ℕ) (r : Reading) → both counted (eqb deck 52) ≡ true → r ≡ reading_of 52 l → r ≡ reading_of deck l
counted_deck counted deck l r e q = q ∙ ap (λ (d : ℕ). reading_of d l) (sym (eqb-true deck 52 (both_true counted (eqb deck 52) e).1))
