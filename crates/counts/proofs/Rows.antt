-- Five ranks in a row: a straight of some ranks is a row that is not above the one found, and the row found is a straight. For any number of ranks up to the ace.
-- Assumes nothing.
use mathlib.Core.Path.{◌≡◌, refl, sym, ap, ap₂, ◌∙◌, subst}
use mathlib.Core.Bool.{Bool, true, false, cond, true≢false}
use mathlib.Core.Logic.{⊎_elim}
use mathlib.Core.List.{List, [], ◌∷◌}
use Prim.Native.Nat.{ℕ, ◌+◌, ◌<◌, ◌≤◌}
use native.Mathlib.Omega.{arith}
use native.Mathlib.Decide.{dec_lt}
use lib.Dec.{eqb, ltb}
use lib.ListN.{length}
use borrow.Author.Tests.{eqb-true, eq-eqb, ne_eqb, lt-ltb, ltb-true}
use Rattle.laws.specs.Tests.{both, either}
use Rattle.laws.specs.Lists.{All}
use Rattle.laws.specs.Often.{count}
use Rattle.laws.proofs.Tests.{test, both_true}
use Rattle.laws.proofs.Often.{count_self, same_length}
use Rattle.cards.specs.Cards.{same_list, is_wheel, lowered, in_row, ordered}
use Rattle.cards.specs.Hands.{most_held}
use Rattle.laws.proofs.Members.{same_list_law}
use Rattle.cards.proofs.Sorted.{ordered_right}
use Rattle.cards.proofs.Mixing.{Within}
use Rattle.counts.specs.HandOrder.{passing, highest, is_there, is_row, row_foot, rowed}
use Rattle.laws.proofs.Choosing.{Drops}
use Rattle.counts.proofs.Passing.{passing_same, highest_most, highest_passes}
use Rattle.counts.proofs.Counting.{all_at}
use Rattle.counts.proofs.Fives.{most_one}

-- ranks from the two to the ace
abbrev pub Ranks : List ℕ → Type 0
Ranks rs = All (λ r. (2 ≤ r) × (r < 15)) rs

pub ranks_at : (rs : List ℕ) (r : ℕ) → Ranks rs → 0 < count r rs → (2 ≤ r) × (r < 15)
ranks_at rs r a h = all_at (λ x. (2 ≤ x) × (x < 15)) rs r a h

-- ---- what is there
there_is : (rs : List ℕ) (r : ℕ) → 0 < count r rs → is_there rs r ≡ true
unfolding is_there
there_is rs r h = ap (λ (b : Bool). either b (both (eqb r 1) (ltb 0 (count 14 rs)))) (lt-ltb 0 (count r rs) h)

there_low : (rs : List ℕ) → 0 < count 14 rs → is_there rs 1 ≡ true
unfolding is_there
there_low rs h = ap (λ (b : Bool). either (ltb 0 (count 1 rs)) b) (lt-ltb 0 (count 14 rs) h) ∙ last (ltb 0 (count 1 rs))
  where
    last : (b : Bool) → either b true ≡ true
    last true = refl
    last false = refl

is_there_law : (rs : List ℕ) (r : ℕ) → 2 ≤ r → is_there rs r ≡ true → 0 < count r rs
unfolding is_there
is_there_law rs r h e =
    ⊎_elim
    (λ (t : ltb 0 (count r rs) ≡ true). ltb-true 0 (count r rs) t)
    (λ (t : ltb 0 (count r rs) ≡ false).
    absurd (true≢false (sym e ∙ ap₂ (λ (b d : Bool). either b (both d (ltb 0 (count 14 rs)))) t (ne_eqb r 1 (λ q. omega arith)))))
    (test (ltb 0 (count r rs)))

low_there : (rs : List ℕ) → Ranks rs → is_there rs 1 ≡ true → 0 < count 14 rs
unfolding is_there
low_there rs a e =
    ⊎_elim
    (λ (t : ltb 0 (count 1 rs) ≡ true). absurd (omega (arith, (ranks_at rs 1 a (ltb-true 0 (count 1 rs) t)).0)))
    (λ (t : ltb 0 (count 1 rs) ≡ false). ltb-true 0 (count 14 rs) (sym (ap (λ (b : Bool). either b (ltb 0 (count 14 rs))) t) ∙ e))
    (test (ltb 0 (count 1 rs)))

row_is : (rs : List ℕ) (k : ℕ) → is_there rs k ≡ true → is_there rs (k + 1) ≡ true → is_there rs (k + 2) ≡ true → is_there rs (k + 3) ≡ true → is_there rs (k + 4) ≡ true → is_row rs k ≡ true
unfolding is_row
row_is rs k a b c d e = rw (a, b, c, d, e)

abbrev Five : List ℕ → ℕ → Type 0
Five rs k = (is_there rs k ≡ true) × (is_there rs (k + 1) ≡ true) × (is_there rs (k + 2) ≡ true) × (is_there rs (k + 3) ≡ true) × (is_there rs (k + 4) ≡ true)

is_row_law : (rs : List ℕ) (k : ℕ) → is_row rs k ≡ true → Five rs k
unfolding is_row
is_row_law rs k h =
    let p = both_true (is_there rs k) (both (is_there rs (k + 1)) (both (is_there rs (k + 2)) (both (is_there rs (k + 3)) (is_there rs (k + 4))))) h in
    let q = both_true (is_there rs (k + 1)) (both (is_there rs (k + 2)) (both (is_there rs (k + 3)) (is_there rs (k + 4)))) p.1 in
    let r = both_true (is_there rs (k + 2)) (both (is_there rs (k + 3)) (is_there rs (k + 4))) q.1 in
    let s = both_true (is_there rs (k + 3)) (is_there rs (k + 4)) r.1 in
    (p.0, q.0, r.0, s.0, s.1)

-- what is there alike has the same row
pub foot_same : (rs qs : List ℕ) → ((r : ℕ) → ltb 0 (count r rs) ≡ ltb 0 (count r qs)) → row_foot rs ≡ row_foot qs
unfolding row_foot is_row is_there
foot_same rs qs h =
    let t : (r : ℕ) → is_there rs r ≡ is_there qs r = λ r. ap₂ (λ (b d : Bool). either b (both (eqb r 1) d)) (h r) (h 14) in
    ap highest (passing_same 15 (is_row rs) (is_row qs) (λ k lt. rw (t k, t (k + 1), t (k + 2), t (k + 3), t (k + 4))))

-- ---- a straight is a row
pub rowed_row : (t : ℕ) → in_row (rowed t) ≡ true
unfolding in_row
rowed_row t = rw (eq-eqb (t + 4) (t + 3 + 1) (omega arith), eq-eqb (t + 3) (t + 2 + 1) (omega arith), eq-eqb (t + 2) (t + 1 + 1) (omega arith), eq-eqb (t + 1) (t + 1) refl)

rowed_drops : (t : ℕ) → Drops (t + 5) (rowed t)
rowed_drops t = (omega arith, (omega arith, (omega arith, (omega arith, (omega arith, tt)))))

-- five in a row are those down to the last
five_row : (os : List ℕ) → length os ≡ 5 → in_row os ≡ true → (t : ℕ) × (os ≡ rowed t)
unfolding in_row
five_row [] n h = absurd (omega arith)
five_row (a ∷ []) n h = absurd (omega arith)
five_row (a ∷ b ∷ []) n h = absurd (omega arith)
five_row (a ∷ b ∷ c ∷ []) n h = absurd (omega arith)
five_row (a ∷ b ∷ c ∷ d ∷ []) n h = absurd (omega arith)
five_row (a ∷ b ∷ c ∷ d ∷ e ∷ []) n h =
    let p = both_true (eqb a (b + 1)) (both (eqb b (c + 1)) (both (eqb c (d + 1)) (both (eqb d (e + 1)) true))) h in
    let q = both_true (eqb b (c + 1)) (both (eqb c (d + 1)) (both (eqb d (e + 1)) true)) p.1 in
    let r = both_true (eqb c (d + 1)) (both (eqb d (e + 1)) true) q.1 in
    let s = both_true (eqb d (e + 1)) true r.1 in
    let i : d ≡ e + 1 = eqb-true d (e + 1) s.0 in
    let j : c ≡ e + 2 = omega (arith, eqb-true c (d + 1) r.0) in
    let k : b ≡ e + 3 = omega (arith, eqb-true b (c + 1) q.0) in
    let l : a ≡ e + 4 = omega (arith, eqb-true a (b + 1) p.0) in
    (e, ap₂ ◌∷◌ l (ap₂ ◌∷◌ k (ap₂ ◌∷◌ j (ap₂ ◌∷◌ i refl))))
five_row (a ∷ b ∷ c ∷ d ∷ e ∷ f ∷ l) n h = absurd (omega arith)

abbrev wheel : List ℕ
wheel = 14 ∷ 5 ∷ 4 ∷ 3 ∷ 2 ∷ []

module _ (rs : List ℕ) (a : Ranks rs) where
  foot_most : (t : ℕ) → t < 15 → is_row rs t ≡ true → t ≤ row_foot rs
  unfolding row_foot
  foot_most t h e = highest_most 15 (is_row rs) t h e

  foot_row : 0 < row_foot rs → Five rs (row_foot rs)
  unfolding row_foot
  foot_row h = is_row_law rs (highest (passing 15 (is_row rs))) (highest_passes 15 (is_row rs) h)

  -- five ranks of these in a row, and their foot
  abbrev pub Straight : List ℕ → Type 0
  Straight c = (t : ℕ) × (0 < t) × (t ≤ row_foot rs) × (lowered 2 (ordered c) ≡ rowed t) × (most_held c ≡ 1)

  by_wheel : (c : List ℕ) → Within (ordered c) rs → ordered c ≡ wheel → lowered 2 (ordered c) ≡ rowed 1 → Straight c
  by_wheel c w o e =
      let v : Within wheel rs = subst (λ (os : List ℕ). Within os rs) o w in
      let h14 : 1 ≤ count 14 rs = v 14 in
      let h5 : 1 ≤ count 5 rs = v 5 in
      let h4 : 1 ≤ count 4 rs = v 4 in
      let h3 : 1 ≤ count 3 rs = v 3 in
      let h2 : 1 ≤ count 2 rs = v 2 in (
        1,
        omega arith,
        foot_most 1 (omega arith) (row_is rs 1 (there_low rs h14) (there_is rs 2 h2) (there_is rs 3 h3) (there_is rs 4 h4) (there_is rs 5 h5)),
        e,
        most_one c 15 14 (5 ∷ 4 ∷ 3 ∷ 2 ∷ []) o (omega arith, (omega arith, (omega arith, (omega arith, (omega arith, tt))))),
      )

  by_row : (c : List ℕ) (t : ℕ) → Within (ordered c) rs → ordered c ≡ rowed t → lowered 2 (ordered c) ≡ rowed t → Straight c
  by_row c t w o e =
      let v : Within (rowed t) rs = subst (λ (os : List ℕ). Within os rs) o w in
      let h4 : 0 < count (t + 4) rs = omega (arith, v (t + 4), count_self (t + 4) ((t + 3) ∷ (t + 2) ∷ (t + 1) ∷ t ∷ [])) in
      let h3 : 0 < count (t + 3) rs = omega (arith, v (t + 3), count_self (t + 3) ((t + 2) ∷ (t + 1) ∷ t ∷ [])) in
      let h2 : 0 < count (t + 2) rs = omega (arith, v (t + 2), count_self (t + 2) ((t + 1) ∷ t ∷ [])) in
      let h1 : 0 < count (t + 1) rs = omega (arith, v (t + 1), count_self (t + 1) (t ∷ [])) in
      let h0 : 0 < count t rs = omega (arith, v t, count_self t []) in
      let r = ranks_at rs t a h0 in (
        t,
        omega (arith, r.0),
        foot_most t r.1 (row_is rs t (there_is rs t h0) (there_is rs (t + 1) h1) (there_is rs (t + 2) h2) (there_is rs (t + 3) h3) (there_is rs (t + 4) h4)),
        e,
        most_one c (t + 5) (t + 4) ((t + 3) ∷ (t + 2) ∷ (t + 1) ∷ t ∷ []) o (rowed_drops t),
      )

  -- a straight of five of the ranks is not above the row found
  pub straight_of : (c : List ℕ) → length c ≡ 5 → Within c rs → in_row (lowered 2 (ordered c)) ≡ true → Straight c
  unfolding lowered is_wheel
  straight_of c n w e =
      let within : Within (ordered c) rs = λ k. omega (arith, (ordered_right c).same k, w k) in
      ⊎_elim
      (λ (h : same_list (ordered c) wheel ≡ true).
      by_wheel c within (same_list_law (ordered c) wheel h) (ap (λ (b : Bool). cond b (5 ∷ 4 ∷ 3 ∷ 2 ∷ 1 ∷ []) (ordered c)) h))
      (λ (h : same_list (ordered c) wheel ≡ false).
      let un : lowered 2 (ordered c) ≡ ordered c = ap (λ (b : Bool). cond b (5 ∷ 4 ∷ 3 ∷ 2 ∷ 1 ∷ []) (ordered c)) h in
      let r = five_row (ordered c) (same_length (ordered c) c (ordered_right c).same ∙ n) (sym (ap in_row un) ∙ e) in
      by_row c r.0 within r.1 (un ∙ r.1))
      (test (same_list (ordered c) wheel))

  -- a row without the ace low is not the wheel
  unwheeled : (t : ℕ) → lowered 2 (rowed t) ≡ rowed t
  unfolding lowered is_wheel
  unwheeled t =
      ⊎_elim
      (λ (e : eqb (t + 4) 14 ≡ true). rw (e, ne_eqb (t + 3) 5 (λ g. omega (arith, eqb-true (t + 4) 14 e))))
      (λ (e : eqb (t + 4) 14 ≡ false). rw e)
      (test (eqb (t + 4) 14))

  wheeled : lowered 2 wheel ≡ rowed 1
  unfolding lowered is_wheel
  wheeled = refl

  -- five ranks that make the straight found
  pub row_ranks : 0 < row_foot rs → (y : ℕ) × (ys : List ℕ) × Drops 20 (y ∷ ys) × (length (y ∷ ys) ≡ 5) × All (λ k. 0 < count k rs) (y ∷ ys) × (lowered 2 (y ∷ ys) ≡ rowed (row_foot rs))
  row_ranks p =
      let t = row_foot rs in
      let h = foot_row p in
      elim (dec_lt 1 t) [
        | yes q ↦
            let g : (k : ℕ) → 1 < k → is_there rs k ≡ true → 0 < count k rs = λ k i j. is_there_law rs k i j in
            let c0 = g t q h.0 in
            let c1 = g (t + 1) (omega arith) h.1 in
            let c2 = g (t + 2) (omega arith) h.2 in
            let c3 = g (t + 3) (omega arith) h.3 in
            let c4 = g (t + 4) (omega arith) h.4 in (
              t + 4,
              (t + 3) ∷ (t + 2) ∷ (t + 1) ∷ t ∷ [],
              (omega (arith, (ranks_at rs (t + 4) a c4).1), (omega arith, (omega arith, (omega arith, (omega arith, tt))))),
              refl,
              (c4, (c3, (c2, (c1, (c0, tt))))),
              unwheeled t,
            )
        | no q ↦
            let u : t ≡ 1 = omega arith in
            let f : Five rs 1 = subst (Five rs) u h in (
              14,
              5 ∷ 4 ∷ 3 ∷ 2 ∷ [],
              (omega arith, (omega arith, (omega arith, (omega arith, (omega arith, tt))))),
              refl,
              (low_there rs a f.0, (is_there_law rs 5 (omega arith) f.4, (is_there_law rs 4 (omega arith) f.3, (is_there_law rs 3 (omega arith) f.2, (is_there_law rs 2 (omega arith) f.1, tt))))),
              wheeled ∙ ap rowed (sym u),
            )
      ]
