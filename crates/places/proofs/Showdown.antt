-- Document 02, request No. 11, at a showdown: of cards that are all different the best hand that a game allows is worth five different cards, and so, with either
-- deck, one best hand beats another exactly where what is kept of it is the higher number (`kept_compare`). For any number of hole and board cards. Assumes nothing.
use Prim.Native.Nat.{ℕ, ◌+◌, ◌≤◌}
use mathlib.Core.Bool.{Bool, true, false, ◌||◌}
use mathlib.Core.Path.{◌≡◌, refl, sym, ap, ap₂, ◌∙◌, subst}
use mathlib.Core.List.Memᴰ
use mathlib.Core.List.{List, [], ◌∷◌, ◌++◌, Memᴰ}
use mathlib.Core.Logic.{⊎_elim}
use native.Mathlib.Omega.{arith}
use lib.Dec.{eqb, ltb}
use lib.ListN.{length, length-append}
use borrow.Author.Tests.{le-ltb}
use Rattle.laws.specs.Tests.{pick, one}
use Rattle.laws.specs.Some.{some}
use Rattle.laws.specs.Often.{count}
use Rattle.laws.proofs.Tests.{test}
use Rattle.laws.proofs.Often.{count_self, count_append}
use Rattle.cards.specs.Hands.{value_of}
use Rattle.cards.specs.Order.{ranking52, ranking32, ranking_of, beats_by, best_among, choices, strength_by}
use Rattle.cards.specs.Omaha.{allowed, from_both}
use Rattle.cards.specs.Falls.{Below}
use Rattle.cards.specs.Reading.{any_above, is_among, any_twice}
use Rattle.cards.specs.declared.Hand.{Hand}
use Rattle.cards.specs.declared.Ranking.{Ranking}
use Rattle.cards.proofs.Kept.{placed52}
use Rattle.cards.proofs.Strong.{SmallAll, narrow_of, among_by_strength}
use Rattle.cards.proofs.Allowed.{both_are, allowed_best, small_allowed}
use Rattle.ladder.specs.Ladder.{place_of, kept_of, Valid}
use Rattle.laws.proofs.Choosing.{choice_of}
use Rattle.ladder.proofs.Showdown.{kept_old, kept_place}
use Rattle.places.proofs.Compared.{place_compare}

-- ---- the ranking of the deck

rank_wide : (deck : ℕ) → eqb deck 32 ≡ false → ranking_of deck ≡ ranking52
unfolding ranking_of
rank_wide deck e = ap (λ (b : Bool). pick b ranking32 ranking52) e

-- ---- what the game allows: five cards, each at most as often as it is there
abbrev Chosen : List ℕ → List ℕ → List ℕ → Type 0
Chosen hole board m = (length m ≡ 5) × ((x : ℕ) → count x m ≤ count x hole + count x board)

allowed_of : (game : ℕ) (hole board m : List ℕ) → Memᴰ m (allowed game hole board) → Chosen hole board m
unfolding allowed
allowed_of game hole board m = go (eqb game 4)
  where
    go : (b : Bool) → Memᴰ m (pick b (from_both 2 3 hole board) (choices 5 (hole ++ board))) → Chosen hole board m
    go true i =
        let r = both_are 2 3 hole board m i in
        let p = choice_of 2 hole r.hole r.held in
        let q = choice_of 3 board r.board r.lies in
        subst (Chosen hole board) (sym r.is)
        (length-append r.hole r.board ∙ ap₂ ◌+◌ p.size q.size, λ x. omega (arith, count_append x r.hole r.board, p.few x, q.few x))
    go false i = let r = choice_of 5 (hole ++ board) m i in (r.size, λ x. omega (arith, r.few x, count_append x hole board))

-- ---- five different cards
absent : (c : ℕ) (l : List ℕ) → count c l ≡ 0 → is_among c l ≡ false
unfolding some
absent c [] e = refl
absent c (x ∷ l) e =
    ⊎_elim
    (λ (y : eqb c x ≡ true). let o : one (eqb c x) ≡ 1 = ap one y in absurd (omega arith))
    (λ (y : eqb c x ≡ false). ap₂ ◌||◌ y (absent c l (omega arith)))
    (test (eqb c x))

once_none : (l : List ℕ) → ((x : ℕ) → count x l ≤ 1) → any_twice l ≡ false
unfolding some
once_none [] s = refl
once_none (c ∷ l) s = ap₂ ◌||◌ (absent c l (omega (arith, s c, count_self c l))) (once_none l (λ x. omega (arith, s x)))

none_above : (l : List ℕ) → Below 52 l → any_above l ≡ false
unfolding some
none_above [] s = refl
none_above (c ∷ l) s = ap₂ ◌||◌ (le-ltb 51 c (omega (arith, s.0))) (none_above l s.1)

small_at : (ms : List (List ℕ)) (m : List ℕ) → SmallAll ms → Memᴰ m ms → Below 52 m
small_at [] m s i = absurd (Memᴰ.not-nil i)
small_at (n ∷ ms) m s i = ⊎_elim (λ (e : m ≡ n). subst (Below 52) (sym e) s.0) (λ (j : Memᴰ m ms). small_at ms m s.1 j) (Memᴰ.cases_cons i)

-- hole and board cards as a showdown has them: enough of them, cards of the deck, and no card twice
pub record Dealt (hole board : List ℕ) : Type 0 where
  pub two : 2 ≤ length hole
  pub three : 3 ≤ length board
  pub held : Below 52 hole
  pub lies : Below 52 board
  pub once : (x : ℕ) → count x hole + count x board ≤ 1

pub best_valid : (game : ℕ) (hole board : List ℕ) → Dealt hole board → Valid (best_among ranking52 (allowed game hole board))
best_valid game hole board d =
    let r = Memᴰ.of_map (value_of ranking52) (allowed game hole board) (allowed_best ranking52 placed52 game hole board d.two d.three).among in
    let c = allowed_of game hole board r.0 r.1 in
    let low = none_above r.0 (small_at (allowed game hole board) r.0 (small_allowed game hole board d.held d.lies) r.1) in
    (r.0, (c.0, low, once_none r.0 (λ x. omega (arith, c.1 x, d.once x))), sym r.2)

-- of two best hands, by the ranking of the deck, one beats the other exactly where what is kept of it is higher
module _ (deck game : ℕ) (hole other board : List ℕ) (d : Dealt hole board) (e : Dealt other board) where
  abbrev best : Ranking → List ℕ → Hand
  best t h = best_among t (allowed game h board)

  by_place : beats_by ranking52 (best ranking52 hole) (best ranking52 other) ≡ ltb (place_of (best ranking52 other)) (place_of (best ranking52 hole))
  by_place = (place_compare (best ranking52 hole) (best ranking52 other) (best_valid game hole board d) (best_valid game other board e)).0

  abbrev t : Ranking
  t = ranking_of deck

  by_strength : beats_by t (best t hole) (best t other) ≡ ltb (strength_by t (best t other)) (strength_by t (best t hole))
  by_strength =
      among_by_strength t (narrow_of deck) (allowed game hole board) (allowed game other board) (small_allowed game hole board d.held d.lies)
      (small_allowed game other board e.held e.lies)

  pub kept_compare : beats_by (ranking_of deck) (best (ranking_of deck) hole) (best (ranking_of deck) other)
      ≡ ltb (kept_of deck (best (ranking_of deck) other)) (kept_of deck (best (ranking_of deck) hole))
  kept_compare =
      ⊎_elim
      (λ (q : eqb deck 32 ≡ true).
      by_strength ∙ ap₂ ltb (sym (kept_old deck (best (ranking_of deck) other) q)) (sym (kept_old deck (best (ranking_of deck) hole) q)))
      (λ (q : eqb deck 32 ≡ false).
      subst (λ (t : Ranking). beats_by t (best t hole) (best t other) ≡ ltb (place_of (best t other)) (place_of (best t hole))) (sym (rank_wide deck q)) by_place
      ∙ ap₂ ltb (sym (kept_place deck (best (ranking_of deck) other) q)) (sym (kept_place deck (best (ranking_of deck) hole) q)))
      (test (eqb deck 32))
