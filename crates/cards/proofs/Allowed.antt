-- Request No. 5: the choices that a game allows. Exactly those of two hole and three board cards are allowed with four hole cards, 60 of them; there is one for
-- as few cards as these; the hand that the box names is among them, and none of them beats it; and such hands compare as their numbers do. Assumes nothing.
use mathlib.Core.Path.{◌≡◌, refl, sym, ap}
use mathlib.Core.Bool.{Bool, true, false}
use mathlib.Core.Logic.{⊎_elim}
use mathlib.Core.List.Memᴰ
use mathlib.Core.List.{List, [], ◌∷◌, ◌++◌, map, Memᴰ}
use Prim.Native.Nat.{ℕ, ◌≤◌}
use native.Mathlib.Omega.{arith}
use lib.Dec.{eqb}
use lib.ListN.{length, length-append}
use Rattle.laws.specs.Tests.{pick}
use Rattle.cards.specs.Falls.{Below}
use Rattle.cards.specs.Hands.{value_of}
use Rattle.cards.specs.Order.{choices, best_among, Best, Placed}
use Rattle.cards.specs.Omaha.{each_before, from_both, allowed}
use Rattle.cards.specs.declared.Ranking.{Ranking}
use Rattle.cards.proofs.Kept.{some_choice, chosen_best}
use Rattle.cards.proofs.Strong.{SmallAll, small_append, small_choices}

-- ---- what is allowed

-- m is p with q behind it, one of each
pub record OfBoth (ps qs : List (List ℕ)) (m : List ℕ) : Type 0 where
  pub hole : List ℕ
  pub board : List ℕ
  pub is : m ≡ hole ++ board
  pub held : Memᴰ hole ps
  pub lies : Memᴰ board qs

before_are : (ps qs : List (List ℕ)) (m : List ℕ) → Memᴰ m (each_before ps qs) → OfBoth ps qs m
before_are [] qs m i = absurd (Memᴰ.not-nil i)
before_are (p ∷ ps) qs m i =
    ⊎_elim
    (λ (j : Memᴰ m (map (λ q. p ++ q) qs)).
    let r = Memᴰ.of_map (λ q. p ++ q) qs j in
    record { hole = p; board = r.0; is = sym r.2; held = Memᴰ.head refl; lies = r.1 })
    (λ (j : Memᴰ m (each_before ps qs)).
    let r = before_are ps qs m j in
    record { hole = r.hole; board = r.board; is = r.is; held = Memᴰ.tail r.held; lies = r.lies })
    (Memᴰ.append_cases (map (λ q. p ++ q) qs) i)

are_before : (ps qs : List (List ℕ)) (p q : List ℕ) → Memᴰ p ps → Memᴰ q qs → Memᴰ (p ++ q) (each_before ps qs)
are_before [] qs p q i j = absurd (Memᴰ.not-nil i)
are_before (r ∷ ps) qs p q i j =
    ⊎_elim
    (λ (e : p ≡ r). Memᴰ.append_left (each_before ps qs) (Memᴰ.cast (ap (λ (x : List ℕ). x ++ q) e) (Memᴰ.map (λ (y : List ℕ). r ++ y) j)))
    (λ (k : Memᴰ p ps). Memᴰ.append_right (map (λ y. r ++ y) qs) (are_before ps qs p q k j))
    (Memᴰ.cases_cons i)

-- exactly k of the hole cards with exactly j of the board: for any cards, and any numbers of them
pub both_are : (k j : ℕ) (hole board m : List ℕ) → Memᴰ m (from_both k j hole board) → OfBoth (choices k hole) (choices j board) m
unfolding from_both
both_are k j hole board m i = before_are (choices k hole) (choices j board) m i

pub are_both : (k j : ℕ) (hole board p q : List ℕ) → Memᴰ p (choices k hole) → Memᴰ q (choices j board) → Memᴰ (p ++ q) (from_both k j hole board)
unfolding from_both
are_both k j hole board p q i l = are_before (choices k hole) (choices j board) p q i l

-- "the best of 60 choices"
pub sixty : (a b c d e f g h i : ℕ) → length (allowed 4 (a ∷ b ∷ c ∷ d ∷ []) (e ∷ f ∷ g ∷ h ∷ i ∷ [])) ≡ 60
unfolding allowed from_both choices
sixty a b c d e f g h i = refl

-- and with two hole cards "the best of the 21 choices of five"
pub twenty_one : (a b e f g h i : ℕ) → length (allowed 2 (a ∷ b ∷ []) (e ∷ f ∷ g ∷ h ∷ i ∷ [])) ≡ 21
unfolding allowed choices
twenty_one a b e f g h i = refl

-- with two hole and three board cards or more something is allowed
pub allowed_some : (game : ℕ) (hole board : List ℕ) → 2 ≤ length hole → 3 ≤ length board → (m : List ℕ) × (ms : List (List ℕ)) × (allowed game hole board ≡ m ∷ ms)
unfolding allowed from_both
allowed_some game hole board h b = go (eqb game 4)
  where
    go : (four : Bool) → (m : List ℕ) × (ms : List (List ℕ)) × (pick four (from_both 2 3 hole board) (choices 5 (hole ++ board)) ≡ m ∷ ms)
    go true =
        let p = some_choice 2 hole h in
        let q = some_choice 3 board b in
        (p.0 ++ q.0, map (λ y. p.0 ++ y) q.1 ++ each_before p.1 (q.0 ∷ q.1), rw (p.2, q.2))
    go false = some_choice 5 (hole ++ board) (omega (arith, length-append hole board))

-- so the hand that the box names is among the allowed choices, and none of them beats it: for either game, and any number of hole cards
pub allowed_best : (t : Ranking) → Placed t → (game : ℕ) (hole board : List ℕ) → 2 ≤ length hole → 3 ≤ length board
    → Best t (map (value_of t) (allowed game hole board)) (best_among t (allowed game hole board))
allowed_best t p game hole board h b =
    let s = allowed_some game hole board h b in
    rw s.2 (chosen_best t p s.0 s.1)

-- ---- the numbers of an allowed choice are cards, where those of hole and board are

small_both : (p q : List ℕ) → Below 52 p → Below 52 q → Below 52 (p ++ q)
small_both [] q s u = u
small_both (x ∷ p) q s u = (s.0, small_both p q s.1 u)

small_behind : (p : List ℕ) (qs : List (List ℕ)) → Below 52 p → SmallAll qs → SmallAll (map (λ q. p ++ q) qs)
small_behind p [] s u = tt
small_behind p (q ∷ qs) s u = (small_both p q s u.0, small_behind p qs s u.1)

small_before : (ps qs : List (List ℕ)) → SmallAll ps → SmallAll qs → SmallAll (each_before ps qs)
small_before [] qs s u = tt
small_before (p ∷ ps) qs s u = small_append (map (λ q. p ++ q) qs) (each_before ps qs) (small_behind p qs s.0 u) (small_before ps qs s.1 u)

pub small_allowed : (game : ℕ) (hole board : List ℕ) → Below 52 hole → Below 52 board → SmallAll (allowed game hole board)
unfolding allowed from_both
small_allowed game hole board h b = go (eqb game 4)
  where
    go : (four : Bool) → SmallAll (pick four (from_both 2 3 hole board) (choices 5 (hole ++ board)))
    go true = small_before (choices 2 hole) (choices 3 board) (small_choices 2 hole h) (small_choices 3 board b)
    go false = small_choices 5 (hole ++ board) (small_both hole board h b)
