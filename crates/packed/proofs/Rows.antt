-- Loops that write things one behind the other, each in as many bytes: before the k-th, one more, and all of them; and what each write has shown of its thing.
-- For things of any kind, any number of them. Assumes nothing.
use mathlib.Core.Path.{◌≡◌, refl, sym, ap, ◌∙◌, subst}
use mathlib.Core.List.{List, [], ◌∷◌, ◌++◌, append_assoc, append-nil}
use Prim.Native.Nat.{ℕ, suc, ◌+◌, ◌-◌, ◌*◌, ◌≤◌, ◌<◌}
use native.Mathlib.Omega.{arith}
use native.Mathlib.Numerals.{add-one}
use lib.ListN.{length, get_or, take, length-append}
use lib.Seq.{take-suc, take_all, length-take-le}
use borrow.Rule.Slice.PartMut.{mid_of, put_mid}
use Rattle.laws.specs.Lists.{All}
use Rattle.writing.specs.AnswerSheet.{Wrote}
use Rattle.writing.proofs.Sheets.{then}
use Rattle.packed.specs.Layout.{each}

module _ {A : Type 0} where
  each_append : (f : A → List ℕ) (xs ys : List A) → each f (xs ++ ys) ≡ each f xs ++ each f ys
  each_append f [] ys = refl
  each_append f (x ∷ xs) ys = ap (λ (l : List ℕ). f x ++ l) (each_append f xs ys) ∙ sym (append_assoc (f x) (each f xs) (each f ys))

  pub each_length : (f : A → List ℕ) (size : ℕ) → ((x : A) → length (f x) ≡ size) → (xs : List A) → length (each f xs) ≡ size * length xs
  each_length f size long [] = omega arith
  each_length f size long (x ∷ xs) =
      length-append (f x) (each f xs) ∙ ap (λ (n : ℕ). n + length (each f xs)) (long x) ∙ ap (λ (n : ℕ). size + n) (each_length f size long xs) ∙ more size (length xs)
    where
      more : (m n : ℕ) → m + m * n ≡ m * suc n
      more m n = omega arith

  all_append : (P : A → Type 0) (xs ys : List A) → All P xs → All P ys → All P (xs ++ ys)
  all_append P [] ys p q = q
  all_append P (x ∷ xs) ys p q = (p.0, all_append P xs ys p.1 q)

  -- before the k-th
  pub record Going (f : A → List ℕ) (P : A → Type 0) (xs : List A) (old now : List ℕ) (k at : ℕ) : Type 0 where
    pub wrote : Wrote (each f (take k xs)) old now at
    pub same : length now ≡ length old
    pub all : All P (take k xs)

module _ {A : Type 0} (f : A → List ℕ) (P : A → Type 0) (xs : List A) (old : List ℕ) where
  pub going_start : Going f P xs old old 0 0
  going_start = record { wrote = record { count = refl; sheet = refl }; same = refl; all = tt }

module _ {A : Type 0} {f : A → List ℕ} {P : A → Type 0} {xs : List A} {old now : List ℕ} {k at : ℕ} (g : Going f P xs old now k at) where
  pub going_at : (size : ℕ) → ((x : A) → length (f x) ≡ size) → k ≤ length xs → at ≡ size * k
  going_at size long h = g.wrote.count ∙ each_length f size long (take k xs) ∙ ap (λ (n : ℕ). size * n) (length-take-le k xs h)

  pub going_turn : (d : A) {mid after : List ℕ} {r : ℕ} → k < length xs → Wrote (f (get_or xs k d)) (mid_of at (length now - at) now) mid r → P (get_or xs k d)
      → after ≡ put_mid at (length now - at) now mid → length after ≡ length old → Going f P xs old after (k + 1) (at + r)
  going_turn d {mid} {after} {r} h w p q e = record {
    wrote =
        subst (λ (l : List ℕ). Wrote l old after (at + r)) (sym one_more)
        (subst (λ (l : List ℕ). Wrote (each f (take k xs) ++ f (get_or xs k d)) old l (at + r)) (sym q) (then g.wrote w));
    same = e;
    all = subst (λ (l : List A). All P l) (sym next) (all_append P (take k xs) (get_or xs k d ∷ []) g.all (p, tt));
  }
    where
      next : take (k + 1) xs ≡ take k xs ++ (get_or xs k d ∷ [])
      next = ap (λ (n : ℕ). take n xs) (add-one k) ∙ take-suc xs k d h

      one_more : each f (take (k + 1) xs) ≡ each f (take k xs) ++ f (get_or xs k d)
      one_more =
          ap (each f) next ∙ each_append f (take k xs) (get_or xs k d ∷ []) ∙ ap (λ (l : List ℕ). each f (take k xs) ++ l) (append-nil (f (get_or xs k d)))

  pub going_done : length xs ≤ k → Wrote (each f xs) old now at × All P xs
  going_done h = (
    subst (λ (l : List A). Wrote (each f l) old now at) (take_all k xs h) g.wrote,
    subst (λ (l : List A). All P l) (take_all k xs h) g.all,
  )

-- two writers one behind the other, by what they have computed to write
pub two_wrote : {xs ys bs cs old s t new : List ℕ} {a b : ℕ} → Wrote bs old s a → bs ≡ xs → Wrote cs (mid_of a (length s - a) s) t b → cs ≡ ys
    → new ≡ put_mid a (length s - a) s t → Wrote (xs ++ ys) old new (a + b)
two_wrote {xs} {ys} {bs} {cs} {old} {s} {t} {new} {a} {b} p e q f n =
    subst (λ (l : List ℕ). Wrote (xs ++ ys) old l (a + b)) (sym n)
    (then (subst (λ (l : List ℕ). Wrote l old s a) e p) (subst (λ (l : List ℕ). Wrote l (mid_of a (length s - a) s) t b) f q))
