-- What the code names: the first ranks of a mask one after another, and the hand of the first class of which there is one. Assumes nothing.
use mathlib.Core.Path.{◌≡◌, refl, sym, ap, ◌∙◌, subst}
use mathlib.Core.Bool.{Bool, true, false}
use mathlib.Core.List.{List, [], ◌∷◌}
use Prim.Native.Nat.{ℕ, suc, ◌<◌, ◌≤◌}
use native.Mathlib.Omega.{arith}
use lib.Dec.{ltb}
use lib.ListN.{get_or, drop}
use borrow.Author.Tests.{lt-ltb, le-ltb}
use Rattle.laws.specs.Tests.{both, pick}
use Rattle.cards.specs.Hands.{hand}
use Rattle.cards.specs.declared.Hand.{Hand}
use Rattle.counts.specs.HandOrder.{highest, leaving, is_rank, Counts, row_foot, rowed, four_rank, three_rank, pair_beside, pair_rank, second_pair, kickers, low_named, named}
use Rattle.laws.proofs.Choosing.{Drops, drops_up}
use Rattle.counts.proofs.Passing.{leaving_first}

-- ---- the first, and the others
-- a is the first of l, and m are the others
abbrev pub Takes : List ℕ → ℕ → List ℕ → Type 0
Takes l a m = (a ≡ highest l) × (m ≡ leaving a l)

drops_rest : (x : ℕ) (l : List ℕ) → Drops x l → Drops x (drop 1 l)
drops_rest x [] d = tt
drops_rest x (y ∷ l) d = drops_up y x l (omega (arith, d.0)) d.1

rest_at : (l : List ℕ) (i : ℕ) → get_or (drop 1 l) i 0 ≡ get_or l (suc i) 0
rest_at [] i = refl
rest_at (x ∷ l) i = refl

takes_rest : (x : ℕ) (l m : List ℕ) (a : ℕ) → Drops x l → Takes l a m → (m ≡ drop 1 l) × Drops x m
takes_rest x l m a d t =
    let e : m ≡ drop 1 l = t.1 ∙ ap (λ (k : ℕ). leaving k l) t.0 ∙ leaving_first x l d in
    (e, subst (Drops x) (sym e) (drops_rest x l d))

module _ (x : ℕ) (l : List ℕ) (d : Drops x l) (m : List ℕ) (a b : ℕ) (t : Takes l a m) where
  pub second_is : b ≡ highest m → b ≡ get_or l 1 0
  second_is e = e ∙ ap highest (takes_rest x l m a d t).0 ∙ rest_at l 0

  pub third_is : (n : List ℕ) (c : ℕ) → Takes m b n → c ≡ highest n → c ≡ get_or l 2 0
  third_is n c u e =
      let r = takes_rest x l m a d t in
      e ∙ ap highest (takes_rest x m n b r.1 u).0 ∙ rest_at m 0 ∙ ap (λ (k : List ℕ). get_or k 1 0) r.0 ∙ rest_at l 1

-- the first five
pub five_are : (k x : ℕ) (l m n o p : List ℕ) (a b c e f : ℕ) → Drops x l → Takes l a m → Takes m b n → Takes n c o → Takes o e p → f ≡ highest p
    → ◌≡◌ {A = Hand} (record { class = k; r1 = a; r2 = b; r3 = c; r4 = e; r5 = f }) (hand k l)
five_are k x l m n o p a b c e f d t u v w g =
    let r = takes_rest x l m a d t in
    let s = takes_rest x m n b r.1 u in
    let b2 = second_is x l d m a b t u.0 in
    let c2 = third_is x l d m a b t n c u v.0 in
    let e2 : e ≡ get_or l 3 0 = third_is x m r.1 n b c u o e v w.0 ∙ ap (λ (q : List ℕ). get_or q 2 0) r.0 ∙ rest_at l 2 in
    let f2 : f ≡ get_or l 4 0 =
    third_is x n s.1 o c e v p f w g ∙ ap (λ (q : List ℕ). get_or q 2 0) s.0 ∙ rest_at m 2 ∙ ap (λ (q : List ℕ). get_or q 3 0) r.0 ∙ rest_at l 3 in
    λ i. record { class = k; r1 = t.0 i; r2 = b2 i; r3 = c2 i; r4 = e2 i; r5 = f2 i }

-- ---- the first class of which there is a hand
pick_this : (b : Bool) (h g r : Hand) → b ≡ true → r ≡ h → r ≡ pick b h g
pick_this b h g r e f = f ∙ sym (ap (λ (c : Bool). pick c h g) e)

pick_next : (b : Bool) (h g r : Hand) → b ≡ false → r ≡ g → r ≡ pick b h g
pick_next b h g r e f = f ∙ sym (ap (λ (c : Bool). pick c h g) e)

-- there is such a rank, or there is none
some_rank : (k j : ℕ) → k ≡ j → 0 < k → is_rank j ≡ true
some_rank k j e h = lt-ltb 0 j (omega (arith, e, h))

no_rank : (k j : ℕ) → k ≡ j → k ≤ 0 → is_rank j ≡ false
no_rank k j e h = le-ltb 0 j (omega (arith, e, h))

module _ (n : Counts) (r : Hand) (t p q : ℕ) (et : t ≡ three_rank n) (ep : p ≡ pair_rank n) (eq : q ≡ highest (leaving p n.twice)) where
  second_of : q ≡ second_pair n
  second_of = eq ∙ ap (λ (k : ℕ). highest (leaving k n.twice)) ep

  pub low_three : 0 < t → r ≡ hand 5 (t ∷ t ∷ t ∷ leaving t n.once) → r ≡ low_named n
  unfolding low_named
  low_three h e = pick_this (is_rank (three_rank n)) _ _ r (some_rank t (three_rank n) et h) (e ∙ ap (λ (k : ℕ). hand 5 (k ∷ k ∷ k ∷ leaving k n.once)) et)

  module _ (no : t ≤ 0) where
    pub low-two-pair : 0 < q → r ≡ hand 6 (p ∷ p ∷ q ∷ q ∷ leaving q (leaving p n.once)) → r ≡ low_named n
    unfolding low_named
    low-two-pair h e =
        pick_next (is_rank (three_rank n)) _ _ r (no_rank t (three_rank n) et no)
        (pick_this (is_rank (second_pair n)) _ _ r (some_rank q (second_pair n) second_of h)
        (e ∙ ap (λ (k : ℕ). hand 6 (k ∷ k ∷ q ∷ q ∷ leaving q (leaving k n.once))) ep
        ∙ ap (λ (k : ℕ). hand 6 (pair_rank n ∷ pair_rank n ∷ k ∷ k ∷ leaving k (kickers n (pair_rank n)))) second_of))

    pub low-pair : q ≤ 0 → 0 < p → r ≡ hand 7 (p ∷ p ∷ leaving p n.once) → r ≡ low_named n
    unfolding low_named
    low-pair nq h e =
        pick_next (is_rank (three_rank n)) _ _ r (no_rank t (three_rank n) et no)
        (pick_next (is_rank (second_pair n)) _ _ r (no_rank q (second_pair n) second_of nq)
        (pick_this (is_rank (pair_rank n)) _ _ r (some_rank p (pair_rank n) ep h) (e ∙ ap (λ (k : ℕ). hand 7 (k ∷ k ∷ leaving k n.once)) ep)))

    pub low-odd : q ≤ 0 → p ≤ 0 → r ≡ hand 8 n.once → r ≡ low_named n
    unfolding low_named
    low-odd nq np e =
        pick_next (is_rank (three_rank n)) _ _ r (no_rank t (three_rank n) et no)
        (pick_next (is_rank (second_pair n)) _ _ r (no_rank q (second_pair n) second_of nq)
        (pick_next (is_rank (pair_rank n)) _ _ r (no_rank p (pair_rank n) ep np) e))

module _ (n : Counts) (r : Hand) (k : ℕ) (ek : k ≡ row_foot n.flush) where
  pub name_straight_flush : 0 < k → r ≡ hand 0 (rowed k) → r ≡ named n
  unfolding named
  name_straight_flush h e =
      pick_this (is_rank (row_foot n.flush)) _ _ r (some_rank k (row_foot n.flush) ek h) (e ∙ ap (λ (j : ℕ). hand 0 (rowed j)) ek)

  module _ (nk : k ≤ 0) (f : ℕ) (ef : f ≡ four_rank n) where
    pub name-four : 0 < f → r ≡ hand 1 (f ∷ f ∷ f ∷ f ∷ leaving f n.once) → r ≡ named n
    unfolding named
    name-four h e =
        pick_next (is_rank (row_foot n.flush)) _ _ r (no_rank k (row_foot n.flush) ek nk)
        (pick_this (is_rank (four_rank n)) _ _ r (some_rank f (four_rank n) ef h) (e ∙ ap (λ (j : ℕ). hand 1 (j ∷ j ∷ j ∷ j ∷ leaving j n.once)) ef))

    module _ (nf : f ≤ 0) (t p : ℕ) (et : t ≡ three_rank n) (ep : p ≡ highest (leaving t n.twice)) (b : Bool) (eb : b ≡ both (ltb 0 t) (ltb 0 p)) where
      beside : p ≡ pair_beside n
      beside = ep ∙ ap (λ (j : ℕ). highest (leaving j n.twice)) et

      full : b ≡ both (is_rank (three_rank n)) (is_rank (pair_beside n))
      full = eb ∙ ap (λ (j : ℕ). both (ltb 0 j) (ltb 0 p)) et ∙ ap (λ (j : ℕ). both (is_rank (three_rank n)) (ltb 0 j)) beside

      pub name-full : b ≡ true → r ≡ hand 2 (t ∷ t ∷ t ∷ p ∷ p ∷ []) → r ≡ named n
      unfolding named
      name-full h e =
          pick_next (is_rank (row_foot n.flush)) _ _ r (no_rank k (row_foot n.flush) ek nk)
          (pick_next (is_rank (four_rank n)) _ _ r (no_rank f (four_rank n) ef nf)
          (pick_this (both (is_rank (three_rank n)) (is_rank (pair_beside n))) _ _ r (sym full ∙ h)
          (e ∙ ap (λ (j : ℕ). hand 2 (j ∷ j ∷ j ∷ p ∷ p ∷ [])) et ∙ ap (λ (j : ℕ). hand 2 (three_rank n ∷ three_rank n ∷ three_rank n ∷ j ∷ j ∷ [])) beside)))

      module _ (nb : b ≡ false) (g : ℕ) (eg : g ≡ highest n.flush) where
        pub name-flush : 0 < g → r ≡ hand 3 n.flush → r ≡ named n
        unfolding named
        name-flush h e =
            pick_next (is_rank (row_foot n.flush)) _ _ r (no_rank k (row_foot n.flush) ek nk)
            (pick_next (is_rank (four_rank n)) _ _ r (no_rank f (four_rank n) ef nf)
            (pick_next (both (is_rank (three_rank n)) (is_rank (pair_beside n))) _ _ r (sym full ∙ nb)
            (pick_this (is_rank (highest n.flush)) _ _ r (some_rank g (highest n.flush) eg h) e)))

        module _ (ng : g ≤ 0) (j : ℕ) (ej : j ≡ row_foot n.once) where
          pub name-straight : 0 < j → r ≡ hand 4 (rowed j) → r ≡ named n
          unfolding named
          name-straight h e =
              pick_next (is_rank (row_foot n.flush)) _ _ r (no_rank k (row_foot n.flush) ek nk)
              (pick_next (is_rank (four_rank n)) _ _ r (no_rank f (four_rank n) ef nf)
              (pick_next (both (is_rank (three_rank n)) (is_rank (pair_beside n))) _ _ r (sym full ∙ nb)
              (pick_next (is_rank (highest n.flush)) _ _ r (no_rank g (highest n.flush) eg ng)
              (pick_this (is_rank (row_foot n.once)) _ _ r (some_rank j (row_foot n.once) ej h) (e ∙ ap (λ (i : ℕ). hand 4 (rowed i)) ej)))))

          pub name-low : j ≤ 0 → r ≡ low_named n → r ≡ named n
          unfolding named
          name-low h e =
              pick_next (is_rank (row_foot n.flush)) _ _ r (no_rank k (row_foot n.flush) ek nk)
              (pick_next (is_rank (four_rank n)) _ _ r (no_rank f (four_rank n) ef nf)
              (pick_next (both (is_rank (three_rank n)) (is_rank (pair_beside n))) _ _ r (sym full ∙ nb)
              (pick_next (is_rank (highest n.flush)) _ _ r (no_rank g (highest n.flush) eg ng)
              (pick_next (is_rank (row_foot n.once)) _ _ r (no_rank j (row_foot n.once) ej h) e))))
