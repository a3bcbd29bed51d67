-- Laws of the royal flush: the ten choices of three of a board (`with_five`), the pairs of two and of four hole cards (`two_hole`, `four_hole`), and that cards of more than
-- one suit are none (`suits_differ`). Assumes nothing.
use mathlib.Core.Path.{◌≡◌, refl, sym, ap, ap₂, ◌∙◌}
use mathlib.Core.List.{List, [], ◌∷◌, ◌++◌, map}
use mathlib.Core.Bool.{Bool, true, false}
use Prim.Native.Nat.{ℕ, suc, ◌≤◌}
use native.Mathlib.Omega.{arith}
use lib.ListN.{length, get_or, take, drop, drop_of_length-le}
use lib.Dec.{eqb, ltb}
use borrow.Author.Tests.{eq-eqb, ne_eqb}
use Rattle.laws.specs.Tests.{both, either}
use Rattle.cards.specs.Cards.{one_suit, in_row, rank}
use Rattle.cards.specs.Hands.{ranking52, first, tests, class_of, ranks_of, class_of_cards, most_held, next_held, value_of}
use Rattle.cards.specs.Order.{choices}
use Rattle.cards.specs.Omaha.{each_before, from_both}
use Rattle.chairs.specs.Chairs.{count_of}
use Rattle.chairs.specs.declared.Chair.{Chair}
use Rattle.table.specs.declared.table.Table.{Table}
use Rattle.royal.specs.Royal.{is_royal, any_royal, royal_in, royal_seats, royal_now}

either_last : (b : Bool) → either b false ≡ b
either_last true = refl
either_last false = refl

either_assoc : (a b c : Bool) → either (either a b) c ≡ either a (either b c)
either_assoc true b c = refl
either_assoc false b c = refl

-- ---- the ten choices of three
pub with_five : (x y a b c d e : ℕ) → any_royal (map (λ q. (x ∷ y ∷ []) ++ q) (choices 3 (a ∷ b ∷ c ∷ d ∷ e ∷ [])))
    ≡ either (is_royal (x ∷ y ∷ a ∷ b ∷ c ∷ []))
    (either (is_royal (x ∷ y ∷ a ∷ b ∷ d ∷ []))
    (either (is_royal (x ∷ y ∷ a ∷ b ∷ e ∷ []))
    (either (is_royal (x ∷ y ∷ a ∷ c ∷ d ∷ []))
    (either (is_royal (x ∷ y ∷ a ∷ c ∷ e ∷ []))
    (either (is_royal (x ∷ y ∷ a ∷ d ∷ e ∷ []))
    (either (is_royal (x ∷ y ∷ b ∷ c ∷ d ∷ []))
    (either (is_royal (x ∷ y ∷ b ∷ c ∷ e ∷ []))
    (either (is_royal (x ∷ y ∷ b ∷ d ∷ e ∷ []))
    (is_royal (x ∷ y ∷ c ∷ d ∷ e ∷ []))))))))))
unfolding choices
with_five x y a b c d e = ap (λ (r : Bool). either (is_royal (x ∷ y ∷ a ∷ b ∷ c ∷ [])) (either (is_royal (x ∷ y ∷ a ∷ b ∷ d ∷ [])) (either (is_royal (x ∷ y ∷ a ∷ b ∷ e ∷ [])) (either (is_royal (x ∷ y ∷ a ∷ c ∷ d ∷ [])) (either (is_royal (x ∷ y ∷ a ∷ c ∷ e ∷ [])) (either (is_royal (x ∷ y ∷ a ∷ d ∷ e ∷ [])) (either (is_royal (x ∷ y ∷ b ∷ c ∷ d ∷ [])) (either (is_royal (x ∷ y ∷ b ∷ c ∷ e ∷ [])) (either (is_royal (x ∷ y ∷ b ∷ d ∷ e ∷ [])) r))))))))) (either_last (is_royal (x ∷ y ∷ c ∷ d ∷ e ∷ [])))

pub spelled : (k : List ℕ) → length k ≡ 5 → get_or k 0 0 ∷ get_or k 1 0 ∷ get_or k 2 0 ∷ get_or k 3 0 ∷ get_or k 4 0 ∷ [] ≡ k
spelled [] e = absurd (omega arith)
spelled (a ∷ []) e = absurd (omega arith)
spelled (a ∷ b ∷ []) e = absurd (omega arith)
spelled (a ∷ b ∷ c ∷ []) e = absurd (omega arith)
spelled (a ∷ b ∷ c ∷ d ∷ []) e = absurd (omega arith)
spelled (a ∷ b ∷ c ∷ d ∷ e ∷ []) l = refl
spelled (a ∷ b ∷ c ∷ d ∷ e ∷ f ∷ k) l = absurd (omega arith)

-- ---- the pairs of the hole
any_append : (ms ns : List (List ℕ)) → any_royal (ms ++ ns) ≡ either (any_royal ms) (any_royal ns)
any_append [] ns = refl
any_append (m ∷ ms) ns = ap (either (is_royal m)) (any_append ms ns) ∙ sym (either_assoc (is_royal m) (any_royal ms) (any_royal ns))

-- a pair with each three of the board
abbrev pub paired : ℕ → ℕ → List ℕ → Bool
paired x y k = any_royal (map (λ q. (x ∷ y ∷ []) ++ q) (choices 3 k))

-- one pair, and what the others give
pair_more : (x y : ℕ) (ps : List (List ℕ)) (k : List ℕ)
    → any_royal (each_before ((x ∷ y ∷ []) ∷ ps) (choices 3 k)) ≡ either (paired x y k) (any_royal (each_before ps (choices 3 k)))
pair_more x y ps k = any_append (map (λ q. (x ∷ y ∷ []) ++ q) (choices 3 k)) (each_before ps (choices 3 k))

one_pair : (x y : ℕ) (k : List ℕ) → any_royal (each_before ((x ∷ y ∷ []) ∷ []) (choices 3 k)) ≡ paired x y k
one_pair x y k = pair_more x y [] k ∙ either_last (paired x y k)

-- the six pairs of four
pairs_of : (a b c d : ℕ) → choices 2 (a ∷ b ∷ c ∷ d ∷ []) ≡ (a ∷ b ∷ []) ∷ (a ∷ c ∷ []) ∷ (a ∷ d ∷ []) ∷ (b ∷ c ∷ []) ∷ (b ∷ d ∷ []) ∷ (c ∷ d ∷ []) ∷ []
unfolding choices
pairs_of a b c d = refl

pair_of : (a b : ℕ) → choices 2 (a ∷ b ∷ []) ≡ (a ∷ b ∷ []) ∷ []
unfolding choices
pair_of a b = refl

six : (a b c d : ℕ) (k : List ℕ) → any_royal (each_before (choices 2 (a ∷ b ∷ c ∷ d ∷ [])) (choices 3 k))
    ≡ any_royal (each_before ((a ∷ b ∷ []) ∷ (a ∷ c ∷ []) ∷ (a ∷ d ∷ []) ∷ (b ∷ c ∷ []) ∷ (b ∷ d ∷ []) ∷ (c ∷ d ∷ []) ∷ []) (choices 3 k))
six a b c d k = ap (λ (ps : List (List ℕ)). any_royal (each_before ps (choices 3 k))) (pairs_of a b c d)

hole_two : (a b : ℕ) (k : List ℕ) → royal_in (a ∷ b ∷ []) k ≡ paired a b k
unfolding royal_in from_both
hole_two a b k = ap (λ (ps : List (List ℕ)). any_royal (each_before ps (choices 3 k))) (pair_of a b) ∙ one_pair a b k

hole_four : (a b c d : ℕ) (k : List ℕ) → royal_in (a ∷ b ∷ c ∷ d ∷ []) k
    ≡ either (paired a b k) (either (paired a c k) (either (paired a d k) (either (paired b c k) (either (paired b d k) (paired c d k)))))
unfolding royal_in from_both
hole_four a b c d k =
    six a b c d k
    ∙ pair_more a b ((a ∷ c ∷ []) ∷ (a ∷ d ∷ []) ∷ (b ∷ c ∷ []) ∷ (b ∷ d ∷ []) ∷ (c ∷ d ∷ []) ∷ []) k
    ∙ ap (either (paired a b k))
    (pair_more a c ((a ∷ d ∷ []) ∷ (b ∷ c ∷ []) ∷ (b ∷ d ∷ []) ∷ (c ∷ d ∷ []) ∷ []) k
    ∙ ap (either (paired a c k))
    (pair_more a d ((b ∷ c ∷ []) ∷ (b ∷ d ∷ []) ∷ (c ∷ d ∷ []) ∷ []) k
    ∙ ap (either (paired a d k))
    (pair_more b c ((b ∷ d ∷ []) ∷ (c ∷ d ∷ []) ∷ []) k
    ∙ ap (either (paired b c k)) (pair_more b d ((c ∷ d ∷ []) ∷ []) k ∙ ap (either (paired b d k)) (one_pair c d k)))))

pub two_hole : (n : ℕ) (d k : List ℕ) → n ≡ 2 → length d ≡ 4 → royal_in (take n d) k ≡ paired (get_or d 0 0) (get_or d 1 0) k
two_hole n d k e l = ap (λ (m : ℕ). royal_in (take m d) k) e ∙ two d k l
  where
    two : (d k : List ℕ) → length d ≡ 4 → royal_in (take 2 d) k ≡ paired (get_or d 0 0) (get_or d 1 0) k
    two [] k l = absurd (omega arith)
    two (a ∷ []) k l = absurd (omega arith)
    two (a ∷ b ∷ d) k l = hole_two a b k

pub four_hole : (n : ℕ) (d k : List ℕ) → n ≡ 4 → length d ≡ 4 → royal_in (take n d) k
    ≡ either (paired (get_or d 0 0) (get_or d 1 0) k)
    (either (paired (get_or d 0 0) (get_or d 2 0) k)
    (either (paired (get_or d 0 0) (get_or d 3 0) k)
    (either (paired (get_or d 1 0) (get_or d 2 0) k)
    (either (paired (get_or d 1 0) (get_or d 3 0) k)
    (paired (get_or d 2 0) (get_or d 3 0) k)))))
four_hole n d k e l = ap (λ (m : ℕ). royal_in (take m d) k) e ∙ four d k l
  where
    four : (d k : List ℕ) → length d ≡ 4 → royal_in (take 4 d) k
        ≡ either (paired (get_or d 0 0) (get_or d 1 0) k)
        (either (paired (get_or d 0 0) (get_or d 2 0) k)
        (either (paired (get_or d 0 0) (get_or d 3 0) k)
        (either (paired (get_or d 1 0) (get_or d 2 0) k)
        (either (paired (get_or d 1 0) (get_or d 3 0) k)
        (paired (get_or d 2 0) (get_or d 3 0) k)))))
    four [] k l = absurd (omega arith)
    four (a ∷ []) k l = absurd (omega arith)
    four (a ∷ b ∷ []) k l = absurd (omega arith)
    four (a ∷ b ∷ c ∷ []) k l = absurd (omega arith)
    four (a ∷ b ∷ c ∷ d ∷ []) k l = hole_four a b c d k
    four (a ∷ b ∷ c ∷ d ∷ e ∷ m) k l = absurd (omega arith)

-- ---- cards of more than one suit are no royal flush
pub first_false : (b : Bool) (l : List Bool) → b ≡ false → eqb (first (b ∷ l)) 0 ≡ false
first_false b l e = ap (λ (z : Bool). eqb (first (z ∷ l)) 0) e ∙ ne_eqb (suc (first l)) 0 (λ z. omega arith)

both_last_false : (b : Bool) → both b false ≡ false
both_last_false true = refl
both_last_false false = refl

-- the tests below the first
abbrev pub lower : Bool → Bool → ℕ → ℕ → List Bool
lower straight flush most next =
    eqb most 4 ∷ both (eqb most 3) (eqb next 2) ∷ flush ∷ straight ∷ eqb most 3 ∷ both (eqb most 2) (eqb next 2) ∷ eqb most 2 ∷ []

no_straight_flush : (straight : Bool) (most next : ℕ) → eqb (first (tests straight false most next)) 0 ≡ false
no_straight_flush straight most next = first_false (both straight false) (lower straight false most next) (both_last_false straight)

pub suits_differ : (m : List ℕ) → one_suit m ≡ false → is_royal m ≡ false
unfolding is_royal value_of class_of_cards class_of
suits_differ m e =
    ap (λ (b : Bool). both b (eqb (value_of ranking52 m).r1 14))
    (ap (λ (flush : Bool). eqb (first (tests (in_row (ranks_of 2 m)) flush (most_held (map rank m)) (next_held (map rank m)))) 0) e
    ∙ no_straight_flush (in_row (ranks_of 2 m)) (most_held (map rank m)) (next_held (map rank m)))

-- ---- for the proofs of the functions
pub six_either : {a b c d e f u v w x y z p q m n r : Bool} → u ≡ a → v ≡ b → w ≡ c → x ≡ d → y ≡ e → z ≡ f
    → p ≡ either y z → q ≡ either x p → m ≡ either w q → n ≡ either v m → r ≡ either u n → r ≡ either a (either b (either c (either d (either e f))))
six_either u v w x y z p q m n r = r ∙ ap₂ either u (n ∙ ap₂ either v (m ∙ ap₂ either w (q ∙ ap₂ either x (p ∙ ap₂ either y z))))

pub now_not : (t : Table) → (t.board.count ≡ 5 → ⊥) → false ≡ royal_now t
unfolding royal_now
now_not t n = sym (ap (λ (b : Bool). both b (ltb 0 (royal_seats t.sheet.game t.board t.chairs))) (ne_eqb t.board.count 5 n))

pub now_five : (t : Table) {n : ℕ} → t.board.count ≡ 5 → n ≡ royal_seats t.sheet.game t.board t.chairs → ltb 0 n ≡ royal_now t
unfolding royal_now
now_five t e f = ap (ltb 0) f ∙ sym (ap (λ (b : Bool). both b (ltb 0 (royal_seats t.sheet.game t.board t.chairs))) (eq-eqb t.board.count 5 e))

pub count_done : (p : Chair → Bool) (cs : List Chair) (n : ℕ) → length cs ≤ n → count_of p (drop n cs) ≡ 0
count_done p cs n h = ap (count_of p) (drop_of_length-le cs h)
