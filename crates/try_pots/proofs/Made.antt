-- A list that is written place by place; how many seats a line can say; and that a hand which passes every test keeps the bounds. Assumes nothing.
use mathlib.Core.Path.{◌≡◌, refl, sym, ap, ◌∙◌}
use mathlib.Core.Bool.{Bool, true, false}
use mathlib.Core.List.{List, ◌∷◌, ◌++◌, append-nil}
use Prim.Native.Nat.{ℕ, suc, ◌+◌, ◌-◌, ◌*◌, ◌≤◌, ◌<◌}
use native.Mathlib.Numerals.{add-one}
use native.Mathlib.Omega.{arith}
use lib.Dec.{eqb, ltb, leb}
use lib.ListN.{length, take, set}
use lib.Seq.{take_all}
use borrow.Author.Tests.{eqb-true, ltb-true, leb-true}
use Rattle.laws.specs.Lists.{sum_of}
use Rattle.laws.specs.Tests.{both, pick}
use Rattle.laws.proofs.Tests.{both_true}
use Rattle.laws.proofs.Places.{store_front}
use Rattle.pots.specs.Heights.{mask_at}
use Rattle.pots.proofs.Masks.{mask_empty}
use Rattle.try_pots.specs.MadeHands.{listed, seats_by, is_fair, Fair}
use Rattle.try_pots.specs.declared.hand.Hand.{Hand}

-- one place more of a list of n
pub listed_turn : (f : ℕ → ℕ) (n i y : ℕ) (a all : List ℕ) → i < n → i < length a → y ≡ f i → take i a ++ listed f i (n - i) ≡ all
    → take (i + 1) (set a i y) ++ listed f (i + 1) (n - (i + 1)) ≡ all
listed_turn f n i y a all l m e q =
    let s : n - i ≡ suc (n - (i + 1)) = omega arith in
    store_front a i y (listed f (i + 1) (n - (i + 1))) m
    ∙ ap (λ k. take i a ++ (k ∷ listed f (i + 1) (n - (i + 1)))) e
    ∙ ap (λ j. take i a ++ (f i ∷ listed f j (n - (i + 1)))) (add-one i)
    ∙ ap (λ k. take i a ++ listed f i k) (sym s)
    ∙ q

-- and after the last
pub listed_done : (f : ℕ → ℕ) (n i : ℕ) (a all : List ℕ) → n ≤ i → length a ≤ i → take i a ++ listed f i (n - i) ≡ all → a ≡ all
listed_done f n i a all l m q =
    let z : n - i ≡ 0 = omega arith in
    sym (take_all i a m) ∙ sym (append-nil (take i a)) ∙ ap (λ k. take i a ++ listed f i k) (sym z) ∙ q

pub seats_most : (n count : ℕ) → seats_by n count ≤ 10
seats_most n count = go (both (both (leb 2 n) (leb n 10)) (eqb count (7 + 4 * n))) refl
  where
    go : (b : Bool) → both (both (leb 2 n) (leb n 10)) (eqb count (7 + 4 * n)) ≡ b → pick b n 0 ≤ 10
    go true e = leb-true n 10 (both_true (leb 2 n) (leb n 10) (both_true (both (leb 2 n) (leb n 10)) (eqb count (7 + 4 * n)) e).0).1
    go false e = omega arith

pub fair_keeps : (h : Hand) → is_fair h ≡ true → Fair h
unfolding is_fair
fair_keeps h e =
    let few = both (ltb 0 h.seats) (leb h.seats 10) in
    let small = both (leb (sum_of h.totals) 100000000) (eqb (mask_at h.scores 100000001) 0) in
    let ruled = both (leb h.rule.rate 100) (ltb 0 h.rule.step) in
    let a = both_true few (both small (both ruled (leb h.puck 10))) e in
    let b = both_true small (both ruled (leb h.puck 10)) a.1 in
    let c = both_true ruled (leb h.puck 10) b.1 in
    let s = both_true (leb (sum_of h.totals) 100000000) (eqb (mask_at h.scores 100000001) 0) b.0 in
    let r = both_true (leb h.rule.rate 100) (ltb 0 h.rule.step) c.0 in
    record {
      seats = leb-true h.seats 10 (both_true (ltb 0 h.seats) (leb h.seats 10) a.0).1;
      totals = leb-true (sum_of h.totals) 100000000 s.0;
      rate = leb-true h.rule.rate 100 r.0;
      step = ltb-true 0 h.rule.step r.1;
      puck = leb-true h.puck 10 c.1;
      scores = λ i. omega (arith, mask_empty h.scores 100000001 i (omega arith) (eqb-true (mask_at h.scores 100000001) 0 s.1));
    }
