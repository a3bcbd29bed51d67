-- Demand 2: of two hands the better wins. Of every pot of every taken settle the winners are exactly its contenders whose best hand no contender's best hand
-- beats, whatever the number of seats; and hands tie exactly when neither is better (cards, `tie_iff`). A sole contender needs no cards. Assumes nothing.
use Prim.Native.Nat.{ℕ, zero, suc, ◌+◌, ◌/◌, ◌≤◌, ◌<◌, ◌^◌}
use mathlib.Core.Bool.{Bool, true, false, not, true≢false}
use mathlib.Core.Path.{◌≡◌, refl, sym, ap, ap₂, ◌∙◌, subst}
use mathlib.Core.List.{List, [], ◌∷◌, map}
use mathlib.Core.Logic.{⊎_elim}
use native.Mathlib.Omega.{arith}
use lib.Dec.{ltb, leb, eqb}
use lib.ListN.{length, get_or}
use borrow.Author.Tests.{ltb-false, le-ltb, le-leb, ne_eqb, eqb-true, not-false}
use Rattle.laws.specs.Bits.{bit_at, ones}
use Rattle.laws.specs.Lists.{All}
use Rattle.laws.specs.Tests.{both, either, pick, one}
use Rattle.laws.proofs.Bits.{bit_zero}
use Rattle.laws.proofs.Tests.{both_true}
use Rattle.paper.specs.Paper.{when, or_else, in_range, is_sheet}
use Rattle.paper.specs.declared.Sheet.{Sheet}
use Rattle.paper.specs.declared.Entry.{Entry}
use Rattle.paper.specs.declared.Entry.TheVariants.{Settle}
use Rattle.paper.proofs.Codes.{or_zero, when_zero}
use Rattle.cards.specs.Order.{ranking32, ranking_of, beats_by, best_among}
use Rattle.cards.specs.Omaha.{allowed}
use Rattle.cards.specs.declared.Hand.{Hand}
use Rattle.cards.proofs.Above.{higher, beats_irrefl}
use Rattle.pots.specs.Heights.{has, chips_at, live_of, mask_at, contenders, contested, contest}
use Rattle.pots.specs.Runs.{pots_of}
use Rattle.pots.specs.declared.Pot.{Pot}
use Rattle.pots.proofs.Alone.{contenders_few}
use Rattle.pots.proofs.Contest.{has_none, le_or_lt}
use Rattle.pots.proofs.Hands.{Manned, manned, pots_manned}
use Rattle.pots.proofs.Masks.{live_at_law, mask_bit, ones_mask}
use Rattle.pots.proofs.PotRuns.{pots_all}
use Rattle.pots.proofs.Seats.{contest_within}
use Rattle.pots.proofs.Winners.{winners_sole, winners_are}
use Rattle.chairs.specs.Chairs.{hole_of, seats_from}
use Rattle.chairs.proofs.Above.{has_truth}
use Rattle.table.specs.State.{seat_of}
use Rattle.table.specs.Settle.{is_shown, score_of, hand_score}
use Rattle.table.specs.declared.table.Table.{Table}
use Rattle.history.specs.AsNoted.{AsNoted}
use Rattle.history.specs.Codes.{live_by, nobody_by, kind_by, code_by}
use Rattle.history.specs.History.{run, AllTaken}
use Rattle.history.specs.Notebook.{Part, Notebook, ten_seats, part_at, puts_by, lives_by, pots_by, shown_by, score_by, notebook}
use Rattle.history.specs.Turns.{count_seats, live_at, turn_of}
use Rattle.history.proofs.AsNoted.{as_noted}
use Rattle.history.proofs.Codes.{taken_by}
use Rattle.history.proofs.Kept.{lying_is, cards_is}
use Rattle.history.proofs.Shown.{cards_after}
use Rattle.history.proofs.Showdown.{scores-compare}
use Rattle.mission.specs.Winners.{best_at, scores_by, Contends, Wins, BestWin}

-- ---- what is told seat by seat
pub seat_at : (f : ℕ → ℕ) (k m i : ℕ) → i < m → get_or (map f (seats_from k m)) i 0 ≡ f (suc (i + k))
seat_at f k zero i l = absurd (omega arith)
seat_at f k (suc m) zero l = let z : suc k ≡ suc (0 + k) = omega arith in ap f z
seat_at f k (suc m) (suc i) l = let z : suc (i + suc k) ≡ suc (suc i + k) = omega arith in seat_at f (suc k) m i (omega arith) ∙ ap f z

pub at_seat : (f : ℕ → ℕ) (i : ℕ) → i < 10 → get_or (map f ten_seats) i 0 ≡ f (suc i)
at_seat f i l = let z : suc (i + 0) ≡ suc i = omega arith in seat_at f 0 10 i l ∙ ap f z

count_chips : (p : ℕ → Bool) (xs : List ℕ) → chips_at (map (λ x. one (p x)) xs) 1 ≡ count_seats p xs
unfolding chips_at
count_chips p [] = refl
count_chips p (x ∷ xs) = ap₂ ◌+◌ (has_truth (p x)) (count_chips p xs)

none_counted : (p : ℕ → Bool) (k m i : ℕ) → count_seats p (seats_from k m) ≡ 0 → i < m → p (suc (i + k)) ≡ false
none_counted p k zero i e l = absurd (omega arith)
none_counted p k (suc m) zero e l = go (p (suc k)) refl e
  where
    go : (b : Bool) → p (suc k) ≡ b → one b + count_seats p (seats_from (suc k) m) ≡ 0 → p (suc (0 + k)) ≡ false
    go true q z = absurd (omega arith)
    go false q z = let w : suc (0 + k) ≡ suc k = omega arith in ap p w ∙ q
none_counted p k (suc m) (suc i) e l =
    let w : suc (suc i + k) ≡ suc (i + suc k) = omega arith in
    ap p w ∙ none_counted p (suc k) m i (omega arith) (omega arith)

one_true : (b : Bool) → one b ≡ 1 → b ≡ true
one_true true e = refl
one_true false e = absurd (omega arith)

-- ---- one bit
some_bit : (n m i : ℕ) → i < n → bit_at m i ≡ 1 → 1 ≤ ones n m
unfolding ones
some_bit zero m i l e = absurd (omega arith)
some_bit (suc n) m zero l e = omega arith
some_bit (suc n) m (suc i) l e = omega (arith, some_bit n (m / 2) i (omega arith) e)

only_bit : (n m i j : ℕ) → i < n → j < n → bit_at m i ≡ 1 → bit_at m j ≡ 1 → ones n m ≤ 1 → i ≡ j
unfolding ones
only_bit zero m i j l k e f o = absurd (omega arith)
only_bit (suc n) m zero zero l k e f o = refl
only_bit (suc n) m zero (suc j) l k e f o = absurd (omega (arith, some_bit n (m / 2) j (omega arith) f))
only_bit (suc n) m (suc i) zero l k e f o = absurd (omega (arith, some_bit n (m / 2) i (omega arith) e))
only_bit (suc n) m (suc i) (suc j) l k e f o = ap suc (only_bit n (m / 2) i j (omega arith) (omega arith) e f (omega arith))

-- ---- a contender is live, and a seat
pub contender_live : (ts : List ℕ) (live h i : ℕ) → 1 ≤ h → bit_at live i ≡ 0 → bit_at (contest ts live h) i ≡ 0
unfolding contest contenders
contender_live ts live h i p e = go (contested ts live h)
  where
    none : eqb (bit_at live i) 1 ≡ false
    none = ap (λ (v : ℕ). eqb v 1) e

    go : (b : Bool) → bit_at (pick b (mask_at (live_of ts live) h) 0) i ≡ 0
    go true = mask_bit (live_of ts live) h i p ∙ ap (λ (v : ℕ). has v h) (live_at_law ts live i ∙ ap (λ (b : Bool). pick b (get_or ts i 0) 0) none) ∙ has_none 0 h p
    go false = bit_zero i

-- ---- at a taken settle
kind_zero : (sheet : Sheet) (es : List Entry) (k : ℕ) (e : Entry) → code_by sheet es k e ≡ 0 → kind_by sheet (notebook sheet es) (turn_of sheet es) e ≡ 0
unfolding code_by
kind_zero sheet es k e h =
    let next = when (not (eqb (length es + 1) k)) 3 in
    let kind = kind_by sheet (notebook sheet es) (turn_of sheet es) e in
    (or_zero next kind (or_zero (when (not (in_range sheet k e)) 2) (or_else next kind) h).1).1

-- with 32 cards a flush has the higher place, whatever the ranks
short_flush : (h g : Hand) → h.class ≡ 3 → g.class ≡ 2 → beats_by (ranking_of 32) h g ≡ true
unfolding ranking_of
short_flush h g e f =
    let p : get_or ranking32.places h.class 0 ≡ 7 = ap (λ (k : ℕ). get_or ranking32.places k 0) e in
    let q : get_or ranking32.places g.class 0 ≡ 6 = ap (λ (k : ℕ). get_or ranking32.places k 0) f in
    higher _ _ _ _ (omega (arith, p, q))

module _ (sheet : Sheet) (ok : is_sheet sheet ≡ true) (es : List Entry) (taken : AllTaken sheet (Settle ∷ es)) where
  abbrev n : Notebook
  n = notebook sheet es

  abbrev t : Table
  t = run sheet es

  says : AsNoted n t
  says = as_noted sheet ok es taken.1

  abbrev bare : ℕ → Bool
  bare x = both (live_at n x) (not (eqb (part_at n x).count sheet.game))

  -- with two live or more no live seat is without all its cards
  all_shown : 2 ≤ live_by n → count_seats bare ten_seats ≡ 0
  all_shown l =
      let now = when (not (both n.play.opened (either (eqb (live_by n) 1) (both (nobody_by sheet n) (eqb n.board.count 5))))) 4 in
      let many = leb 2 (live_by n) in
      let full = eqb (count_seats bare ten_seats) 0 in
      let kind = kind_zero sheet es (length es + 1) Settle (taken_by sheet ok (Settle ∷ es) taken).0 in
      let c : both many (not full) ≡ false = when_zero (both many (not full)) 9 (or_zero now (when (both many (not full)) 10) kind).1 in
      let d : not full ≡ false = ap (λ (b : Bool). both b (not full)) (sym (le-leb 2 (live_by n) l)) ∙ c in
      eqb-true (count_seats bare ten_seats) 0 (not-false full d)

  -- and five board cards lie
  all_lie : 2 ≤ live_by n → t.board.count ≡ 5
  all_lie l =
      let five = eqb n.board.count 5 in
      let now = either (eqb (live_by n) 1) (both (nobody_by sheet n) five) in
      let bared = when (both (leb 2 (live_by n)) (not (eqb (count_seats bare ten_seats) 0))) 10 in
      let kind = kind_zero sheet es (length es + 1) Settle (taken_by sheet ok (Settle ∷ es) taken).0 in
      let c : not (both n.play.opened now) ≡ false = when_zero (not (both n.play.opened now)) 3 (or_zero (when (not (both n.play.opened now)) 4) bared kind).0 in
      let d : now ≡ true = (both_true n.play.opened now (not-false (both n.play.opened now) c)).1 in
      let e : both (nobody_by sheet n) five ≡ true = ap (λ (b : Bool). either b (both (nobody_by sheet n) five)) (sym (ne_eqb (live_by n) 1 (λ z. omega arith))) ∙ d in
      lying_is n t says ∙ eqb-true n.board.count 5 (both_true (nobody_by sheet n) five e).1

  live_bit : (i : ℕ) → i < 10 → bit_at (lives_by n) i ≡ one (live_at n (suc i))
  live_bit i l =
      mask_bit (map (λ x. one (part_at n x).live) ten_seats) 1 i (omega arith) ∙ ap (λ (v : ℕ). has v 1) (at_seat (λ x. one (part_at n x).live) i l) ∙ has_truth (live_at n (suc i))

  lives_are : ones 10 (lives_by n) ≡ live_by n
  lives_are = ones_mask (map (λ x. one (part_at n x).live) ten_seats) 1 ∙ count_chips (live_at n) ten_seats

  -- the hand of seat x can be compared
  abbrev Shown : ℕ → Type 0
  Shown x = shown_by sheet.game (part_at n x) ≡ true

  seen : (i : ℕ) → i < 10 → 2 ≤ live_by n → bit_at (lives_by n) i ≡ 1 → Shown (suc i)
  seen i l m e =
      let live : live_at n (suc i) ≡ true = one_true (live_at n (suc i)) (sym (live_bit i l) ∙ e) in
      let w : suc (i + 0) ≡ suc i = omega arith in
      let none : bare (suc i) ≡ false = ap bare (sym w) ∙ none_counted bare 0 10 i (all_shown m) l in
      both-are (live_at n (suc i)) (eqb (part_at n (suc i)).count sheet.game) live none
    where
      both-are : (a b : Bool) → a ≡ true → both a (not b) ≡ false → both a b ≡ true
      both-are true true p q = refl
      both-are true false p q = absurd (true≢false q)
      both-are false b p q = absurd (true≢false (sym p))

  -- one best hand beats another exactly where it counts more
  compare : 2 ≤ live_by n → (x y : ℕ) → Shown x → Shown y
      → beats_by (ranking_of sheet.deck) (best_at sheet n x) (best_at sheet n y)
      ≡ ltb (score_by sheet.deck sheet.game n.board.cards (part_at n y)) (score_by sheet.deck sheet.game n.board.cards (part_at n x))
  unfolding score_of hand_score score_by
  compare m x y p q =
      sym (ap₂ (λ (d : ℕ) (hs : Hand × Hand). beats_by (ranking_of d) hs.0 hs.1) deck (λ i. (same-hand x i, same-hand y i))) ∙ scores-compare sheet ok es taken.1 (all_lie m) x y (shown-at x ∙ p) (shown-at y ∙ q) ∙ ap₂ ltb (score-at y) (score-at x)
    where
      game : (run sheet es).sheet.game ≡ sheet.game
      game = ap (λ (z : Sheet). z.game) (cards_after sheet ok es taken.1).rules

      deck : (run sheet es).sheet.deck ≡ sheet.deck
      deck = ap (λ (z : Sheet). z.deck) (cards_after sheet ok es taken.1).rules

      best : Sheet → List ℕ → List ℕ → Hand
      best s hole board = best_among (ranking_of s.deck) (allowed s.game hole board)

      same-hand : (x : ℕ) → best (run sheet es).sheet (hole_of (seat_of (run sheet es) x)) (run sheet es).board.cards ≡ best_at sheet (notebook sheet es) x
      same-hand x =
          ap (λ (s : Sheet). best s (hole_of (seat_of (run sheet es) x)) (run sheet es).board.cards) (cards_after sheet ok es taken.1).rules
          ∙ ap₂ (λ (c : Part) (b : List ℕ). best sheet c.hole b) (says.chairs x).part (cards_is (notebook sheet es) (run sheet es) says)

      shown-at : (x : ℕ) → is_shown (run sheet es).sheet.game (seat_of (run sheet es) x) ≡ shown_by sheet.game (part_at (notebook sheet es) x)
      shown-at x = ap (λ (g : ℕ). is_shown g (seat_of (run sheet es) x)) game ∙ ap (shown_by sheet.game) (says.chairs x).part

      score-at : (x : ℕ)
          → score_of (run sheet es).sheet.deck (run sheet es).sheet.game (run sheet es).board (seat_of (run sheet es) x) ≡ score_by sheet.deck sheet.game (notebook sheet es).board.cards (part_at (notebook sheet es) x)
      score-at x =
          ap (λ (s : Sheet). score_of s.deck s.game (run sheet es).board (seat_of (run sheet es) x)) (cards_after sheet ok es taken.1).rules
          ∙ ap₂ (λ (c : Part) (b : List ℕ). score_by sheet.deck sheet.game b c) (says.chairs x).part (cards_is (notebook sheet es) (run sheet es) says)

  abbrev score : ℕ → ℕ
  score i = get_or (scores_by sheet n) i 0

  abbrev told : ℕ → ℕ
  told i = score_by sheet.deck sheet.game n.board.cards (part_at n (suc i))

  score_is : (i : ℕ) → i < 10 → score i ≡ told i
  score_is i l = at_seat (λ x. score_by sheet.deck sheet.game n.board.cards (part_at n x)) i l

  -- ---- one pot
  module _ (p : Pot) (low : p.who < 2 ^ 10) (some : 0 < ones 10 p.who) (few : ones 10 p.who ≤ live_by n) (live : (i : ℕ) → bit_at (lives_by n) i ≡ 0 → bit_at p.who i ≡ 0) where
    is_live : (i : ℕ) → i < 10 → Contends p i → bit_at (lives_by n) i ≡ 1
    is_live i l c = go (live_at n (suc i)) refl
      where
        go : (b : Bool) → live_at n (suc i) ≡ b → bit_at (lives_by n) i ≡ 1
        go true e = live_bit i l ∙ ap one e
        go false e = absurd (omega (arith, c, live i (live_bit i l ∙ ap one e)))

    -- a contender among several is shown
    shown : 2 ≤ ones 10 p.who → (i : ℕ) → i < 10 → Contends p i → Shown (suc i)
    shown m i l c = seen i l (omega arith) (is_live i l c)

    several : 2 ≤ ones 10 p.who → BestWin sheet n p
    several m =
        record {
          wins = λ i l e.
              let q = (winners_are (scores_by sheet n) p.who i low some l).0 e in
              (q.0, λ j k c. compare (omega (arith, m, few)) (suc j) (suc i) (shown m j k c) (shown m i l q.0) ∙ le-ltb (told i) (told j) (omega (arith, q.1 j k c, score_is i l, score_is j k)));
          unbeaten = λ i l q.
              (winners_are (scores_by sheet n) p.who i low some l).1
              (q.0, λ j k c. omega (arith, score_is i l, score_is j k, ltb-false (told i) (told j) (sym (compare (omega (arith, m, few)) (suc j) (suc i) (shown m j k c) (shown m i l q.0)) ∙ q.1 j k c)));
          sole = λ e. absurd (omega arith);
        }

    alone : ones 10 p.who ≡ 1 → BestWin sheet n p
    alone m =
        record {
          wins = λ i l e.
              let q = (winners_are (scores_by sheet n) p.who i low some l).0 e in
              (q.0, λ j k c. subst (λ (z : ℕ). beats_by (ranking_of sheet.deck) (best_at sheet n (suc j)) (best_at sheet n (suc z)) ≡ false) (only_bit 10 p.who j i k l c q.0 (omega arith)) (beats_irrefl (ranking_of sheet.deck) (best_at sheet n (suc j))));
          unbeaten = λ i l q. ap (λ (w : ℕ). bit_at w i) (winners_sole (scores_by sheet n) p.who m) ∙ q.0;
          sole = λ e scores len. winners_sole scores p.who (ap (λ (k : ℕ). ones k p.who) len ∙ e);
        }

    one-pot : BestWin sheet n p
    one-pot = ⊎_elim (λ (m : 2 ≤ ones 10 p.who). several m) (λ (m : ones 10 p.who < 2). alone (omega arith)) (le_or_lt 2 (ones 10 p.who))

  -- every pot
  abbrev Fits : ℕ → Type 0
  Fits m = (m < 2 ^ 10) × ((i : ℕ) → bit_at (lives_by n) i ≡ 0 → bit_at m i ≡ 0)

  each_pot : (ps : List Pot) → Manned 10 ps → All (λ (p : Pot). ones 10 p.who ≤ ones 10 (lives_by n)) ps → All (λ (p : Pot). Fits p.who) ps → All (BestWin sheet n) ps
  each_pot [] m f a = tt
  each_pot (p ∷ ps) (manned some m) f a = (one-pot p a.0.0 some (omega (arith, f.0, lives_are)) a.0.1, each_pot ps m f.1 a.1)

  pub better_wins : All (BestWin sheet n) (pots_by n)
  unfolding pots_by
  better_wins =
      each_pot (pots_of (puts_by n) (lives_by n)) (pots_manned (puts_by n) (lives_by n)) (contenders_few (puts_by n) (lives_by n))
      (pots_all Fits (puts_by n) (lives_by n) (λ h p. (contest_within (puts_by n) (lives_by n) h, λ i e. contender_live (puts_by n) (lives_by n) h i p e)))

-- No. 6 at the table, "flush above full house": with 32 cards a contender for a pot whose best hand is a full house wins nothing of it where another has a flush
pub flush_wins : (sheet : Sheet) (n : Notebook) (p : Pot) → sheet.deck ≡ 32 → BestWin sheet n p → (i j : ℕ) → i < 10 → j < 10 → Contends p i
    → (best_at sheet n (suc i)).class ≡ 3 → (best_at sheet n (suc j)).class ≡ 2 → Wins sheet n p j → ⊥
flush_wins sheet n p d b i j li lj c flush full w = true≢false (sym (over (best_at sheet n (suc i)) (best_at sheet n (suc j)) flush full) ∙ (b.wins j lj w).1 i li c)
  where
    over : (h g : Hand) → h.class ≡ 3 → g.class ≡ 2 → beats_by (ranking_of sheet.deck) h g ≡ true
    over h g e f = subst (λ (k : ℕ). beats_by (ranking_of k) h g ≡ true) (sym d) (short_flush h g e f)
