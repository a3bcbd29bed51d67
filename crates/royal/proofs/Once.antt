-- At most one seat holds the royal flush (`royal_one`), where each card lies once: three of its cards are on the board, so it is of one suit, and its two others are in one
-- hand. For any number of seats and of hole cards. Assumes nothing.
use mathlib.Core.Path.{◌≡◌, refl, sym, ap, subst, ◌∙◌}
use mathlib.Core.List.{List, [], ◌∷◌, ◌++◌, map}
use mathlib.Core.Bool.{Bool, true, false, cond, false≢true}
use mathlib.Core.Logic.{◌⊎◌, inl, inr, ⊎_elim}
use Prim.Native.Nat.{ℕ, suc, ◌+◌, ◌*◌, ◌%◌, ◌≤◌, ◌<◌}
use native.Mathlib.Omega.{arith}
use native.Mathlib.Nat.{div-add-mod, mod-lt}
use lib.ListN.{length, get_or, length-append}
use lib.Dec.{eqb}
use borrow.Author.Tests.{eqb-true, eqb-false, eq-eqb, ne_eqb}
use Rattle.laws.specs.Tests.{both, either, one}
use Rattle.laws.specs.Lists.{All}
use Rattle.laws.specs.Often.{count}
use Rattle.laws.proofs.Tests.{both_true, test}
use Rattle.laws.proofs.Often.{count_append}
use Rattle.laws.proofs.Members.{at_all, all_append}
use Rattle.laws.proofs.Choosing.{Choice, choice_of}
use Rattle.cards.specs.Cards.{rank, suit, before, put, in_order, ordered, is_wheel, lowered, in_row, all_are, all_alike, one_suit}
use Rattle.cards.specs.Hands.{first, tests, class_of, ranks_of, class_of_cards, most_held, next_held, value_of}
use Rattle.cards.specs.Order.{choices}
use Rattle.cards.specs.Omaha.{each_before, from_both}
use Rattle.cards.proofs.Sorted.{ordered_right}
use Rattle.chairs.specs.Chairs.{count_of, hole_of}
use Rattle.chairs.specs.declared.Chair.{Chair}
use Rattle.table.specs.Settle.{is_shown}
use Rattle.table.specs.declared.table.Board.{Board}
use Rattle.royal.specs.Royal.{is_royal, any_royal, royal_in, holds_royal, royal_seats}
use Rattle.royal.proofs.Laws.{first_false, lower}
use Rattle.royal.specs.Apart.{held_times, Once}

-- ---- the five ranks of a royal flush
put_length : (rs : List ℕ) (x : ℕ) (l : List ℕ) → length (put rs x l) ≡ suc (length l)
unfolding put
put_length rs x [] = refl
put_length rs x (y ∷ l) = go (before rs x y) (put_length rs y l) (put_length rs x l)
  where
    go : (b : Bool) → length (put rs y l) ≡ suc (length l) → length (put rs x l) ≡ suc (length l) → length (cond b (x ∷ put rs y l) (y ∷ put rs x l)) ≡ suc (suc (length l))
    go true p q = ap suc p
    go false p q = ap suc q

order_length : (rs l : List ℕ) → length (in_order rs l) ≡ length l
unfolding in_order
order_length rs [] = refl
order_length rs (x ∷ l) = put_length rs x (in_order rs l) ∙ ap suc (order_length rs l)

map_five : (f : ℕ → ℕ) (l : List ℕ) → length (map f l) ≡ length l
map_five f [] = refl
map_five f (x ∷ l) = ap suc (map_five f l)

ordered_five : (m : List ℕ) → length m ≡ 5 → length (ordered (map rank m)) ≡ 5
unfolding ordered
ordered_five m l = order_length (map rank m) (map rank m) ∙ map_five rank m ∙ l

abbrev top : List ℕ
top = 14 ∷ 13 ∷ 12 ∷ 11 ∷ 10 ∷ []

same_five : (a b c d e : ℕ) → a ≡ 14 → b ≡ 13 → c ≡ 12 → d ≡ 11 → e ≡ 10 → a ∷ b ∷ c ∷ d ∷ e ∷ [] ≡ top
same_five a b c d e p q r s t = rw (p, q, r, s, t)

five_down : (os : List ℕ) → length os ≡ 5 → in_row os ≡ true → get_or os 0 0 ≡ 14 → os ≡ top
unfolding in_row
five_down [] l r t = absurd (omega arith)
five_down (a ∷ []) l r t = absurd (omega arith)
five_down (a ∷ b ∷ []) l r t = absurd (omega arith)
five_down (a ∷ b ∷ c ∷ []) l r t = absurd (omega arith)
five_down (a ∷ b ∷ c ∷ d ∷ []) l r t = absurd (omega arith)
five_down (a ∷ b ∷ c ∷ d ∷ e ∷ []) l r t =
    let r1 = both_true (eqb a (b + 1)) _ r in
    let r2 = both_true (eqb b (c + 1)) _ r1.1 in
    let r3 = both_true (eqb c (d + 1)) _ r2.1 in
    let r4 = both_true (eqb d (e + 1)) _ r3.1 in
    let e1 = eqb-true a (b + 1) r1.0 in
    let e2 = eqb-true b (c + 1) r2.0 in
    let e3 = eqb-true c (d + 1) r3.0 in
    let e4 = eqb-true d (e + 1) r4.0 in
    let ta : a ≡ 14 = t in
    let tb : b ≡ 13 = omega (arith, e1, ta) in
    let tc : c ≡ 12 = omega (arith, e2, tb) in
    let td : d ≡ 11 = omega (arith, e3, tc) in
    let te : e ≡ 10 = omega (arith, e4, td) in
    same_five a b c d e ta tb tc td te
five_down (a ∷ b ∷ c ∷ d ∷ e ∷ f ∷ os) l r t = absurd (omega arith)

top_down : (os : List ℕ) → length os ≡ 5 → in_row (lowered 2 os) ≡ true → get_or (lowered 2 os) 0 0 ≡ 14 → os ≡ top
unfolding lowered
top_down os l = go (is_wheel 2 os)
  where
    go : (b : Bool) → in_row (cond b (5 ∷ 4 ∷ 3 ∷ 2 ∷ 1 ∷ []) os) ≡ true → get_or (cond b (5 ∷ 4 ∷ 3 ∷ 2 ∷ 1 ∷ []) os) 0 0 ≡ 14 → os ≡ top
    go true r t = absurd (omega (arith, t))
    go false r t = five_down os l r t

first_true : (b : Bool) (l : List Bool) → eqb (first (b ∷ l)) 0 ≡ true → b ≡ true
first_true b l e = ⊎_elim (λ (p : b ≡ true). p) (λ (p : b ≡ false). absurd (false≢true (sym (first_false b l p) ∙ e))) (test b)

straight_flush : (st fl : Bool) (mo ne : ℕ) → eqb (first (tests st fl mo ne)) 0 ≡ true → (st ≡ true) × (fl ≡ true)
straight_flush st fl mo ne e = both_true st fl (first_true (both st fl) (lower st fl mo ne) e)

pub record Royal (m : List ℕ) : Type 0 where
  pub ranks : ordered (map rank m) ≡ top
  pub suits : one_suit m ≡ true

royal_five : (m : List ℕ) → length m ≡ 5 → is_royal m ≡ true → Royal m
unfolding is_royal value_of class_of_cards class_of ranks_of
royal_five m l e =
    let os = ordered (map rank m) in
    let b = both_true (eqb (first (tests (in_row (lowered 2 os)) (one_suit m) (most_held (map rank m)) (next_held (map rank m)))) 0) (eqb (get_or (lowered 2 os) 0 0) 14) e in
    let sf = straight_flush (in_row (lowered 2 os)) (one_suit m) (most_held (map rank m)) (next_held (map rank m)) b.0 in
    record { ranks = top_down os (ordered_five m l) sf.0 (eqb-true (get_or (lowered 2 os) 0 0) 14 b.1); suits = sf.1 }

-- ---- the royal cards of a suit, and how often they are among some
abbrev pub royals : ℕ → List ℕ → ℕ
royals s l = count (32 + s) l + count (36 + s) l + count (40 + s) l + count (44 + s) l + count (48 + s) l

-- where all are of suit s, a card of rank r is the royal card of that rank
abbrev Suited : ℕ → List ℕ → Type 0
Suited s l = All (λ (c : ℕ). suit c ≡ s) l

are_suited : (x : ℕ) (l : List ℕ) → all_are x (map suit l) ≡ true → Suited x l
are_suited x [] e = tt
are_suited x (c ∷ l) e =
    let b = both_true (eqb x (suit c)) (all_are x (map suit l)) e in
    (sym (eqb-true x (suit c) b.0), are_suited x l b.1)

ranked : (r k s : ℕ) (l : List ℕ) → 4 * r ≡ k + 8 → Suited s l → count r (map rank l) ≤ count (k + s) l
ranked r k s [] e h = omega arith
ranked r k s (c ∷ l) e h = omega (arith, ranked r k s l e h.1, go)
  where
    go : one (eqb r (rank c)) ≤ one (eqb (k + s) c)
    go =
        ⊎_elim
        (λ (p : eqb r (rank c) ≡ true).
        let q : k + s ≡ c = omega (arith, eqb-true r (rank c) p, e, h.0, div-add-mod c 4) in
        omega (arith, ap one p, ap one (eq-eqb (k + s) c q)))
        (λ (p : eqb r (rank c) ≡ false). omega (arith, ap one p))
        (test (eqb r (rank c)))

-- a royal flush has all five of its suit
flush_has : (x : ℕ) (l : List ℕ) → Royal (x ∷ l) → 5 ≤ royals (suit x) (x ∷ l)
unfolding one_suit all_alike
flush_has x l r =
    let m = x ∷ l in
    let h : Suited (suit x) m = (refl, are_suited (suit x) l r.suits) in
    let same = (ordered_right (map rank m)).same in
    let c : (k : ℕ) → count k top ≡ count k (map rank m) = λ k. ap (count k) (sym r.ranks) ∙ same k in
    omega (
      arith,
      c 10,
      c 11,
      c 12,
      c 13,
      c 14,
      ranked 10 32 (suit x) m refl h,
      ranked 11 36 (suit x) m refl h,
      ranked 12 40 (suit x) m refl h,
      ranked 13 44 (suit x) m refl h,
      ranked 14 48 (suit x) m refl h,
    )

-- each card is at most one of them, and then of that suit
miss : (j k s c : ℕ) → eqb (k + s) c ≡ true → (j ≡ k → ⊥) → one (eqb (j + s) c) ≡ 0
miss j k s c p n = ap one (ne_eqb (j + s) c (λ e. n (omega (arith, e, eqb-true (k + s) c p))))

hit : (q s c : ℕ) → s < 4 → eqb (4 * q + s) c ≡ true → one (eqb s (suit c)) ≡ 1
hit q s c h p =
    let m : c % 4 < 4 = mod-lt c (omega arith) in
    let e : s ≡ c % 4 = omega (arith, eqb-true (4 * q + s) c p, div-add-mod c 4, m, h) in
    ap one (eq-eqb s (c % 4) e)

abbrev ones : ℕ → ℕ → ℕ
ones s c = one (eqb (32 + s) c) + one (eqb (36 + s) c) + one (eqb (40 + s) c) + one (eqb (44 + s) c) + one (eqb (48 + s) c)

past_king : (s c : ℕ) → s < 4 → one (eqb (48 + s) c) ≤ one (eqb s (suit c))
past_king s c h =
    ⊎_elim
    (λ (p : eqb (48 + s) c ≡ true). omega (arith, ap one p, hit 12 s c h p))
    (λ (p : eqb (48 + s) c ≡ false). omega (arith, ap one p))
    (test (eqb (48 + s) c))

past_queen : (s c : ℕ) → s < 4 → one (eqb (44 + s) c) + one (eqb (48 + s) c) ≤ one (eqb s (suit c))
past_queen s c h =
    ⊎_elim
    (λ (p : eqb (44 + s) c ≡ true). omega (arith, ap one p, miss 48 44 s c p (λ e. omega arith), hit 11 s c h p))
    (λ (p : eqb (44 + s) c ≡ false). omega (arith, ap one p, past_king s c h))
    (test (eqb (44 + s) c))

past_jack : (s c : ℕ) → s < 4 → one (eqb (40 + s) c) + one (eqb (44 + s) c) + one (eqb (48 + s) c) ≤ one (eqb s (suit c))
past_jack s c h =
    ⊎_elim
    (λ (p : eqb (40 + s) c ≡ true). omega (arith, ap one p, miss 44 40 s c p (λ e. omega arith), miss 48 40 s c p (λ e. omega arith), hit 10 s c h p))
    (λ (p : eqb (40 + s) c ≡ false). omega (arith, ap one p, past_queen s c h))
    (test (eqb (40 + s) c))

past_ten : (s c : ℕ) → s < 4 → eqb (32 + s) c ≡ false → ones s c ≤ one (eqb s (suit c))
past_ten s c h z =
    ⊎_elim
    (λ (p : eqb (36 + s) c ≡ true).
    omega (arith, ap one z, ap one p, miss 40 36 s c p (λ e. omega arith), miss 44 36 s c p (λ e. omega arith), miss 48 36 s c p (λ e. omega arith), hit 9 s c h p))
    (λ (p : eqb (36 + s) c ≡ false). omega (arith, ap one z, ap one p, past_jack s c h))
    (test (eqb (36 + s) c))

is_one : (s c : ℕ) → s < 4 → ones s c ≤ one (eqb s (suit c))
is_one s c h =
    ⊎_elim
    (λ (p : eqb (32 + s) c ≡ true).
    omega (arith, ap one p, miss 36 32 s c p (λ e. omega arith), miss 40 32 s c p (λ e. omega arith), miss 44 32 s c p (λ e. omega arith), miss 48 32 s c p (λ e. omega arith), hit 8 s c h p))
    (λ (p : eqb (32 + s) c ≡ false). past_ten s c h p)
    (test (eqb (32 + s) c))

suited_most : (s : ℕ) (l : List ℕ) → s < 4 → royals s l ≤ count s (map suit l)
suited_most s [] h = omega arith
suited_most s (c ∷ l) h = omega (arith, is_one s c h, suited_most s l h)

pub one_most : (b : Bool) → one b ≤ 1
one_most true = omega arith
one_most false = omega arith

royals_most : (s : ℕ) (l : List ℕ) → s < 4 → royals s l ≤ length l
royals_most s [] h = omega arith
royals_most s (c ∷ l) h = omega (arith, is_one s c h, one_most (eqb s (suit c)), royals_most s l h)

-- two suits on one board
two_suits : (s r : ℕ) (l : List ℕ) → (s ≡ r → ⊥) → count s (map suit l) + count r (map suit l) ≤ length l
two_suits s r [] n = omega arith
two_suits s r (c ∷ l) n = omega (arith, two_suits s r l n, go)
  where
    go : one (eqb s (suit c)) + one (eqb r (suit c)) ≤ 1
    go =
        ⊎_elim
        (λ (p : eqb s (suit c) ≡ true). omega (arith, ap one p, ap one (ne_eqb r (suit c) (λ e. n (eqb-true s (suit c) p ∙ sym e)))))
        (λ (p : eqb s (suit c) ≡ false). omega (arith, ap one p, one_most (eqb r (suit c))))
        (test (eqb s (suit c)))

royals_append : (s : ℕ) (l m : List ℕ) → royals s (l ++ m) ≡ royals s l + royals s m
royals_append s l m =
    omega (arith, count_append (32 + s) l m, count_append (36 + s) l m, count_append (40 + s) l m, count_append (44 + s) l m, count_append (48 + s) l m)

-- ---- a choice of the hole and one of the board
all_mapped : {A B : Type 0} (P : A → Type 0) (Q : B → Type 0) (f : A → B) → ((x : A) → P x → Q (f x)) → (xs : List A) → All P xs → All Q (map f xs)
all_mapped P Q f g [] a = tt
all_mapped P Q f g (x ∷ xs) a = (g x a.0, all_mapped P Q f g xs a.1)

choices_chosen : (k : ℕ) (l : List ℕ) → All (Choice k l) (choices k l)
choices_chosen k l = at_all (Choice k l) (choices k l) (choice_of k l)

pub record FromBoth (hole board m : List ℕ) : Type 0 where
  pub mine : List ℕ
  pub theirs : List ℕ
  pub both : m ≡ mine ++ theirs
  pub two : Choice 2 hole mine
  pub three : Choice 3 board theirs

each_both : (hole board : List ℕ) (ps qs : List (List ℕ)) → All (Choice 2 hole) ps → All (Choice 3 board) qs → All (FromBoth hole board) (each_before ps qs)
each_both hole board [] qs a b = tt
each_both hole board (p ∷ ps) qs a b =
    all_append (FromBoth hole board) (map (λ q. p ++ q) qs) (each_before ps qs)
    (all_mapped (Choice 3 board) (FromBoth hole board) (λ q. p ++ q) (λ q h. record { mine = p; theirs = q; both = refl; two = a.0; three = h }) qs b)
    (each_both hole board ps qs a.1 b)

-- ---- who holds it has two of its cards, and the board three, of one suit
pub record Holds (hole board : List ℕ) : Type 0 where
  pub of : ℕ
  pub real : of < 4
  pub two : 2 ≤ royals of hole
  pub three : 3 ≤ royals of board

royal_held : (hole board m : List ℕ) → FromBoth hole board m → is_royal m ≡ true → Holds hole board
royal_held hole board m f e =
    let l : length m ≡ 5 = omega (arith, ap length f.both, length-append f.mine f.theirs, f.two.size, f.three.size) in
    go m l f.both (royal_five m l e)
  where
    go : (m : List ℕ) → length m ≡ 5 → m ≡ f.mine ++ f.theirs → Royal m → Holds hole board
    go [] l b r = absurd (omega arith)
    go (x ∷ m) l b r =
        let s = suit x in
        let h : x % 4 < 4 = mod-lt x (omega arith) in
        let all = flush_has x m r in
        let split : royals s (x ∷ m) ≡ royals s f.mine + royals s f.theirs = ap (royals s) b ∙ royals_append s f.mine f.theirs in
        let p = royals_most s f.mine h in
        let q = royals_most s f.theirs h in
        let w = f.two.few in
        let v = f.three.few in
        record {
          of = s;
          real = h;
          two = omega (arith, all, split, q, f.three.size, w (32 + s), w (36 + s), w (40 + s), w (44 + s), w (48 + s));
          three = omega (arith, all, split, p, f.two.size, v (32 + s), v (36 + s), v (40 + s), v (44 + s), v (48 + s));
        }

any_held : (hole board : List ℕ) (ms : List (List ℕ)) → All (FromBoth hole board) ms → any_royal ms ≡ true → Holds hole board
any_held hole board [] a e = absurd (false≢true e)
any_held hole board (m ∷ ms) a e =
    ⊎_elim
    (λ (p : is_royal m ≡ true). royal_held hole board m a.0 p)
    (λ (p : is_royal m ≡ false). any_held hole board ms a.1 (sym (ap (λ (b : Bool). either b (any_royal ms)) p) ∙ e))
    (test (is_royal m))

pub holds_royal_law : (game : ℕ) (b : Board) (c : Chair) → holds_royal game b c ≡ true → Holds (hole_of c) b.cards
unfolding holds_royal royal_in from_both
holds_royal_law game b c e =
    let h = hole_of c in
    let k = b.cards in
    any_held h k (each_before (choices 2 h) (choices 3 k)) (each_both h k (choices 2 h) (choices 3 k) (choices_chosen 2 h) (choices_chosen 3 k))
    (both_true (is_shown game c) (any_royal (each_before (choices 2 h) (choices 3 k))) e).1

-- ---- at most one seat
pub record Found (p : Chair → Bool) : Type 0 where
  pub chair : Chair
  pub is : p chair ≡ true

found : (p : Chair → Bool) (cs : List Chair) → (count_of p cs ≡ 0) ⊎ Found p
found p [] = inl refl
found p (c ∷ cs) =
    ⊎_elim
    (λ (e : p c ≡ true). inr (record { chair = c; is = e }))
    (λ (e : p c ≡ false). ⊎_elim (λ (z : count_of p cs ≡ 0). inl (omega (arith, ap one e, z))) (λ (f : Found p). inr f) (found p cs))
    (test (p c))

abbrev held_royals : ℕ → List Chair → ℕ
held_royals s cs = held_times (32 + s) cs + held_times (36 + s) cs + held_times (40 + s) cs + held_times (44 + s) cs + held_times (48 + s) cs

-- two of the royal cards for each
twice : (p : Chair → Bool) (s : ℕ) → ((c : Chair) → p c ≡ true → 2 ≤ royals s (hole_of c)) → (cs : List Chair) → 2 * count_of p cs ≤ held_royals s cs
unfolding held_times
twice p s h [] = omega arith
twice p s h (c ∷ cs) =
    ⊎_elim
    (λ (e : p c ≡ true). omega (arith, ap one e, h c e, twice p s h cs))
    (λ (e : p c ≡ false). omega (arith, ap one e, twice p s h cs))
    (test (p c))

pub royal_one : (game : ℕ) (b : Board) (cs : List Chair) → length b.cards ≡ 5 → Once cs b.cards → royal_seats game b cs ≤ 1
unfolding royal_seats
royal_one game b cs five once =
    ⊎_elim (λ (z : count_of (holds_royal game b) cs ≡ 0). omega (arith, z)) (λ (f : Found (holds_royal game b)). go (holds_royal_law game b f.chair f.is)) (found (holds_royal game b) cs)
  where
    -- the suit is the board's
    its : {h : List ℕ} → (x : Holds h b.cards) (c : Chair) → holds_royal game b c ≡ true → 2 ≤ royals x.of (hole_of c)
    its x c e =
        let y = holds_royal_law game b c e in
        ⊎_elim
        (λ (p : eqb y.of x.of ≡ true). subst (λ (s : ℕ). 2 ≤ royals s (hole_of c)) (eqb-true y.of x.of p) y.two)
        (λ (p : eqb y.of x.of ≡ false). absurd (omega (
          arith,
          two_suits y.of x.of b.cards (eqb-false y.of x.of p),
          suited_most y.of b.cards y.real,
          suited_most x.of b.cards x.real,
          y.three,
          x.three,
          five,
        )))
        (test (eqb y.of x.of))

    go : {h : List ℕ} → Holds h b.cards → count_of (holds_royal game b) cs ≤ 1
    go x =
        let s = x.of in
        omega (arith, twice (holds_royal game b) s (its x) cs, x.three, once (32 + s), once (36 + s), once (40 + s), once (44 + s), once (48 + s))
