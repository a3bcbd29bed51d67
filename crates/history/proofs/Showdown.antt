-- Demand 2 at a showdown: where five board cards lie, the score of one seat whose hand is shown is higher than another's exactly where its best hand beats the
-- other's. With 52 cards a score is a place (No. 11), and places compare as the hands do where no card comes twice, which code 8 sees to. Assumes nothing.
use Prim.Native.Nat.{ℕ, zero, suc, ◌+◌, ◌≤◌}
use mathlib.Core.Bool.{true}
use mathlib.Core.Path.{◌≡◌, ap, subst}
use mathlib.Core.List.{List, [], ◌∷◌}
use mathlib.Core.Logic.{⊎_elim}
use native.Mathlib.Omega.{arith}
use lib.Dec.{ltb}
use lib.ListN.{length, take}
use lib.Seq.{take_all, length-take-le}
use borrow.Author.Tests.{eqb-true}
use Rattle.laws.specs.Often.{count}
use Rattle.laws.proofs.Tests.{both_true}
use Rattle.paper.specs.Paper.{is_sheet}
use Rattle.paper.specs.declared.Sheet.{Sheet}
use Rattle.paper.specs.declared.Entry.{Entry}
use Rattle.paper.proofs.Sheets.{game_is, good_ranged}
use Rattle.cards.specs.Order.{ranking_of, beats_by, best_among}
use Rattle.cards.specs.Omaha.{allowed}
use Rattle.cards.specs.declared.Hand.{Hand}
use Rattle.places.proofs.Showdown.{Dealt, kept_compare}
use Rattle.chairs.specs.Chairs.{chair_at, hole_of, is_full}
use Rattle.chairs.specs.declared.Chair.{Chair}
use Rattle.table.specs.State.{seat_of}
use Rattle.table.specs.Settle.{is_shown, hand_score, score_of}
use Rattle.table.specs.declared.table.Table.{Table}
use Rattle.royal.specs.Apart.{held_times}
use Rattle.history.specs.History.{run, AllTaken}
use Rattle.history.proofs.Apart.{lies_after}
use Rattle.history.proofs.Shown.{cards_after, held_after, below_take}

-- a seat has a card no more often than all seats have
seat_times : (k : ℕ) (cs : List Chair) (x : ℕ) → count k (hole_of (chair_at cs x)) ≤ held_times k cs
unfolding held_times
seat_times k cs zero = omega arith
seat_times k [] (suc x) = omega arith
seat_times k (c ∷ cs) (suc zero) = omega arith
seat_times k (c ∷ cs) (suc (suc x)) = omega (arith, seat_times k cs (suc x))

module _ (sheet : Sheet) (good : is_sheet sheet ≡ true) (es : List Entry) (taken : AllTaken sheet es) where
  abbrev t : Table
  t = run sheet es

  -- no card comes twice among the hole cards of a seat and those that lie on the board
  pub no_card_twice : (x k : ℕ) → count k (hole_of (seat_of t x)) + count k (take t.board.count t.board.cards) ≤ 1
  no_card_twice x k = omega (arith, seat_times k t.chairs x, (lies_after sheet good es taken).once k)

  -- the best hand that the game allows a seat
  abbrev best_hand : ℕ → Hand
  best_hand x = best_among (ranking_of t.sheet.deck) (allowed t.sheet.game (hole_of (seat_of t x)) t.board.cards)

  abbrev Shown : ℕ → Type 0
  Shown x = is_shown t.sheet.game (seat_of t x) ≡ true

  module _ (five : t.board.count ≡ 5) where
    -- the cards of a seat that is shown, and the board
    shown-dealt : (x : ℕ) → Shown x → Dealt (hole_of (seat_of t x)) t.board.cards
    shown-dealt x s =
        let c = cards_after sheet good es taken in
        let h = held_after sheet good es taken x in
        let size = (lies_after sheet good es taken).size in
        let full : (seat_of t x).hole.count ≡ t.sheet.game = eqb-true (seat_of t x).hole.count t.sheet.game (both_true (seat_of t x).dealt.live (is_full t.sheet.game (seat_of t x)) s).1 in
        let game : t.sheet.game ≡ sheet.game = ap (λ (z : Sheet). z.game) c.rules in
        let some : (2 ≤ sheet.game) × (sheet.game ≤ 4) = ⊎_elim (λ (g : sheet.game ≡ 2). (omega arith, omega arith)) (λ (g : sheet.game ≡ 4). (omega arith, omega arith)) (game_is sheet.game (good_ranged sheet good).game) in
        let many : length (hole_of (seat_of t x)) ≡ (seat_of t x).hole.count = length-take-le (seat_of t x).hole.count (seat_of t x).hole.cards (omega (arith, h.size, full, game, some.1)) in
        let lies : take t.board.count t.board.cards ≡ t.board.cards = take_all t.board.count t.board.cards (omega (arith, five, size)) in
        record {
          two = omega (arith, many, full, game, some.0);
          three = omega (arith, size);
          held = below_take sheet good (seat_of t x).hole.count (seat_of t x).hole.cards h.below;
          lies = c.board;
          once = λ k. subst (λ (l : List ℕ). count k (hole_of (seat_of t x)) + count k l ≤ 1) lies (no_card_twice x k);
        }

    pub scores-compare : (x y : ℕ) → Shown x → Shown y
        → beats_by (ranking_of t.sheet.deck) (best_hand x) (best_hand y)
        ≡ ltb (score_of t.sheet.deck t.sheet.game t.board (seat_of t y)) (score_of t.sheet.deck t.sheet.game t.board (seat_of t x))
    unfolding score_of hand_score
    scores-compare x y sx sy =
        rw (sx, sy) (kept_compare t.sheet.deck t.sheet.game (hole_of (seat_of t x)) (hole_of (seat_of t y)) t.board.cards (shown-dealt x sx) (shown-dealt y sy))
