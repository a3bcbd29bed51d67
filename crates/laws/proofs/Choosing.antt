-- The choices of k of a list of numbers that falls: they fall, every one falls, every list of k of its numbers that falls is among them, and
-- there are as many as the binomial says; and a choice of any list has each number no more often than the list. For any k and any length. General.
-- Assumes nothing.
use mathlib.Core.Path.{◌≡◌, refl, sym, ap, ap₂, ◌∙◌, subst}
use mathlib.Core.Bool.{Bool, true, false, cond}
use mathlib.Core.Logic.{⊎_elim}
use mathlib.Core.List.{List, [], ◌∷◌, map, Memᴰ}
use Prim.Native.Nat.{ℕ, zero, suc, ◌+◌, ◌<◌, ◌≤◌}
use native.Mathlib.Omega.{arith}
use lib.ListN.{length, length-append, length-map}
use Rattle.laws.specs.Lists.{All}
use Rattle.laws.specs.Often.{count}
use Rattle.laws.specs.Listing.{choices, above, those, binomial}
use Rattle.laws.proofs.Above.{higher, equal}
use Rattle.laws.proofs.Members.{all_at, at_all}
use Rattle.laws.proofs.Standing.{FallsBy, falls_append}

-- each is below the one before, and the first below x
abbrev pub Drops : ℕ → List ℕ → Type 0
Drops x [] = Unit {0}
Drops x (y ∷ l) = (y < x) × Drops y l

pub drops_up : (x y : ℕ) (l : List ℕ) → x ≤ y → Drops x l → Drops y l
drops_up x y [] h d = tt
drops_up x y (z ∷ l) h d = (omega (arith, d.0), d.1)

-- so each is below x
pub drops_below : (x y : ℕ) (l : List ℕ) → Drops x l → Memᴰ y l → y < x
drops_below x y [] d i = absurd (mathlib.Core.List.Memᴰ.not-nil i)
drops_below x y (z ∷ l) d i =
    ⊎_elim (λ (e : y ≡ z). omega (arith, d.0)) (λ (j : Memᴰ y l). omega (arith, d.0, drops_below z y l d.1 j)) (mathlib.Core.List.Memᴰ.cases_cons i)

-- those that pass a test fall too
pub those_drop : (f : ℕ → Bool) (x : ℕ) (l : List ℕ) → Drops x l → Drops x (those f l)
those_drop f x [] d = tt
those_drop f x (y ∷ l) d = go (f y) (those_drop f y l d.1)
  where
    go : (b : Bool) → Drops y (those f l) → Drops x (cond b (y ∷ those f l) (those f l))
    go true t = (d.0, t)
    go false t = drops_up y x (those f l) (omega (arith, d.0)) t

-- what falls from below c, of a list that begins with c, is of its rest
of_rest : (c b : ℕ) (l m : List ℕ) → b ≤ c → Drops b m → All (λ y. Memᴰ y (c ∷ l)) m → All (λ y. Memᴰ y l) m
of_rest c b l [] h d a = tt
of_rest c b l (y ∷ m) h d a = (
  ⊎_elim (λ (e : y ≡ c). absurd (omega (arith, e, d.0, h))) (λ j. j) (mathlib.Core.List.Memᴰ.cases_cons a.0),
  of_rest c y l m (omega (arith, d.0, h)) d.1 a.1,
)

-- every list that falls, of numbers of a list that falls, is among its choices
pub choices_have : (x : ℕ) (l m : List ℕ) → Drops x l → Drops x m → All (λ y. Memᴰ y l) m → Memᴰ m (choices (length m) l)
unfolding choices
choices_have x l [] d f a = mathlib.Core.List.Memᴰ.head refl
choices_have x [] (y ∷ m) d f a = absurd (mathlib.Core.List.Memᴰ.not-nil a.0)
choices_have x (c ∷ l) (y ∷ m) d f a =
    ⊎_elim
    (λ (e : y ≡ c).
    let i : Memᴰ m (choices (length m) l) = choices_have c l m d.1 (subst (λ (v : ℕ). Drops v m) e f.1) (of_rest c y l m (omega (arith, e)) f.1 a.1) in
    mathlib.Core.List.Memᴰ.append_left (choices (suc (length m)) l) (subst (λ (v : ℕ). Memᴰ (v ∷ m) (map (λ n. c ∷ n) (choices (length m) l))) (sym e) (mathlib.Core.List.Memᴰ.map (λ n. c ∷ n) i)))
    (λ (j : Memᴰ y l).
    let h : y < c = drops_below c y l d.1 j in
    mathlib.Core.List.Memᴰ.append_right (map (λ n. c ∷ n) (choices (length m) l)) (choices_have c l (y ∷ m) d.1 (h, f.1) (j, of_rest c y l m (omega (arith, h)) f.1 a.1)))
    (mathlib.Core.List.Memᴰ.cases_cons a.0)

-- every choice of a list that falls does
pub choice_drops : (x k : ℕ) (l m : List ℕ) → Drops x l → Memᴰ m (choices k l) → Drops x m
unfolding choices
choice_drops x zero l m d i = subst (Drops x) (sym (mathlib.Core.List.Memᴰ.eq_of_singleton i)) tt
choice_drops x (suc k) [] m d i = absurd (mathlib.Core.List.Memᴰ.not-nil i)
choice_drops x (suc k) (c ∷ l) m d i =
    ⊎_elim
    (λ (j : Memᴰ m (map (λ n. c ∷ n) (choices k l))).
    let t = mathlib.Core.List.Memᴰ.of_map (λ n. c ∷ n) (choices k l) j in
    subst (Drops x) t.2 (d.0, choice_drops c k l t.0 d.1 t.1))
    (λ (j : Memᴰ m (choices (suc k) l)). drops_up c x m (omega (arith, d.0)) (choice_drops c (suc k) l m d.1 j))
    (mathlib.Core.List.Memᴰ.append_cases (map (λ n. c ∷ n) (choices k l)) i)

-- what begins with c is above what falls from below c
begins_above : (c : ℕ) (m n : List ℕ) → Drops c n → above (c ∷ m) n ≡ true
unfolding above
begins_above c m [] d = refl
begins_above c m (y ∷ n) d = higher c y m n d.0

same_above : (c : ℕ) (m : List ℕ) (ns : List (List ℕ)) → All (λ n. above m n ≡ true) ns → All (λ n. above (c ∷ m) n ≡ true) (map (λ n. c ∷ n) ns)
same_above c m [] a = tt
same_above c m (n ∷ ns) a = (equal c c m n refl ∙ a.0, same_above c m ns a.1)

same_fall : (c : ℕ) (ms : List (List ℕ)) → FallsBy above ms → FallsBy above (map (λ n. c ∷ n) ms)
same_fall c [] f = tt
same_fall c (m ∷ ms) f = (same_above c m ms f.0, same_fall c ms f.1)

all_begin : (c : ℕ) (ms ns : List (List ℕ)) → All (Drops c) ns → All (λ m. All (λ n. above m n ≡ true) ns) (map (λ n. c ∷ n) ms)
all_begin c [] ns d = tt
all_begin c (m ∷ ms) ns d = (at_all (λ n. above (c ∷ m) n ≡ true) ns (λ n i. begins_above c m n (all_at (Drops c) n ns d i)), all_begin c ms ns d)

-- the choices of a list that falls, do
pub choices_fall : (x k : ℕ) (l : List ℕ) → Drops x l → FallsBy above (choices k l)
unfolding choices
choices_fall x zero l d = (tt, tt)
choices_fall x (suc k) [] d = tt
choices_fall x (suc k) (c ∷ l) d =
    falls_append above (map (λ n. c ∷ n) (choices k l)) (choices (suc k) l)
    (same_fall c (choices k l) (choices_fall c k l d.1))
    (choices_fall c (suc k) l d.1)
    (all_begin c (choices k l) (choices (suc k) l) (at_all (Drops c) (choices (suc k) l) (λ m i. choice_drops c (suc k) l m d.1 i)))

-- and there are as many as the binomial says
pub choices_many : (k : ℕ) (l : List ℕ) → length (choices k l) ≡ binomial (length l) k
unfolding choices
choices_many zero l = refl
choices_many (suc k) [] = refl
choices_many (suc k) (c ∷ l) =
    length-append (map (λ n. c ∷ n) (choices k l)) (choices (suc k) l)
    ∙ ap₂ ◌+◌ (length-map (choices k l) (λ n. c ∷ n) ∙ choices_many k l) (choices_many (suc k) l)

-- ---- of any list
-- so many of a list: each no more often than there
pub record Choice (k : ℕ) (l m : List ℕ) : Type 0 where
  pub size : length m ≡ k
  pub few : (x : ℕ) → count x m ≤ count x l

pub choice_of : (k : ℕ) (l m : List ℕ) → Memᴰ m (choices k l) → Choice k l m
unfolding choices
choice_of zero l m i = subst (Choice 0 l) (sym (mathlib.Core.List.Memᴰ.eq_of_singleton i)) (record { size = refl; few = λ x. omega arith })
choice_of (suc k) [] m i = absurd (mathlib.Core.List.Memᴰ.not-nil i)
choice_of (suc k) (c ∷ l) m i =
    ⊎_elim
    (λ (j : Memᴰ m (map (λ n. c ∷ n) (choices k l))).
    let t = mathlib.Core.List.Memᴰ.of_map (λ n. c ∷ n) (choices k l) j in
    let r = choice_of k l t.0 t.1 in
    subst (Choice (suc k) (c ∷ l)) t.2 (record { size = ap suc r.size; few = λ x. omega (arith, r.few x) }))
    (λ (j : Memᴰ m (choices (suc k) l)). let r = choice_of (suc k) l m j in record { size = r.size; few = λ x. omega (arith, r.few x) })
    (mathlib.Core.List.Memᴰ.append_cases (map (λ n. c ∷ n) (choices k l)) i)
