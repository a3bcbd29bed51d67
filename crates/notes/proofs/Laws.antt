-- Laws of the accounts of the sittings, chair by chair, and of loops over the chairs that read or settle them. Assumes nothing.
use Prim.Native.Nat.{ℕ, zero, suc, ◌+◌, ◌≤◌, ◌<◌}
use mathlib.Core.Bool.{Bool, true, false}
use mathlib.Core.Path.{◌≡◌, refl, sym, ap, ap₂, ◌∙◌}
use mathlib.Core.List.{List, [], ◌∷◌, ◌++◌, append-nil, map}
use native.Mathlib.Numerals.{add-one}
use native.Mathlib.Omega.{arith}
use lib.ListN.{length, get_or, take, drop, set, drop_of_length-le}
use lib.Seq.{drop-cons, take_all}
use borrow.Author.Tests.{ne_eqb}
use Rattle.laws.proofs.Places.{store_front}
use Rattle.chairs.specs.Chairs.{is_here}
use Rattle.chairs.specs.declared.Chair.{Chair}
use Rattle.chairs.proofs.Laws.{unread}
use Rattle.accounts.specs.Sums.{nobody, putting, pays, totalled}
use Rattle.accounts.specs.declared.Account.{Account}
use Rattle.accounts.specs.declared.Sums.{Sums}
use Rattle.notes.specs.declared.Notes.{Notes}
use Rattle.notes.specs.Notes.{account_at, settled_of, settle_all, account_now, sums_with, sums_from}

-- a settled hand at a chair whose sitting is there, and at one whose sitting is not
pub settled_yes : {h : Bool} {b r : Account} (a : Account) (ch : Chair) (p : ℕ) → h ≡ is_here ch → h ≡ true → b ≡ putting a ch.dealt.total → r ≡ pays b p → r ≡ settled_of a ch p
unfolding settled_of
settled_yes a ch p e t q s = rw (sym e ∙ t) (s ∙ ap (λ (x : Account). pays x p) q)

pub settled_no : {h : Bool} (a : Account) (ch : Chair) (p : ℕ) → h ≡ is_here ch → h ≡ false → a ≡ settled_of a ch p
unfolding settled_of
settled_no a ch p e t = rw (sym e ∙ t) refl

-- an account as it stands
pub now_yes : {h : Bool} {a r : Account} (m : Notes) (ch : Chair) (i : ℕ) → h ≡ is_here ch → h ≡ true → a ≡ account_at m i → r ≡ putting a ch.dealt.total → r ≡ account_now m ch i
unfolding account_now
now_yes m ch i e t q s = rw (sym e ∙ t) (s ∙ ap (λ (x : Account). putting x ch.dealt.total) q)

pub now_no : {h : Bool} {a : Account} (m : Notes) (ch : Chair) (i : ℕ) → h ≡ is_here ch → h ≡ false → a ≡ account_at m i → a ≡ account_now m ch i
unfolding account_now
now_no m ch i e t q = rw (sym e ∙ t) q

-- the sums with a chair where somebody sits
pub sums_some : {a : Account} {r : Sums} (s : Sums) (m : Notes) (ch : Chair) (i : ℕ) → (ch.sitting ≡ 0 → ⊥) → a ≡ account_now m ch i → r ≡ totalled s a ch.stack → r ≡ sums_with s m ch i
unfolding sums_with
sums_some s m ch i n e q = rw (ne_eqb _ _ n) (q ∙ ap (λ (x : Account). totalled s x ch.stack) e)

-- a turn of the loop that settles the accounts, and its end
pub settle_turn : {b : Account} (a all : List Account) (cs : List Chair) (ps : List ℕ) (i : ℕ) → i < length a → i < length cs → i < length ps
    → b ≡ settled_of (get_or a i nobody) (get_or cs i unread) (get_or ps i 0)
    → take i a ++ settle_all (drop i a) (drop i cs) (drop i ps) ≡ all
    → take (i + 1) (set a i b) ++ settle_all (drop (i + 1) (set a i b)) (drop (i + 1) cs) (drop (i + 1) ps) ≡ all
settle_turn {b} a all cs ps i l m n q e =
    let s : settle_all (drop i a) (drop i cs) (drop i ps) ≡ settled_of (get_or a i nobody) (get_or cs i unread) (get_or ps i 0) ∷ settle_all (drop (i + 1) a) (drop (i + 1) cs) (drop (i + 1) ps) =
    rw (add-one i, drop-cons a i nobody l, drop-cons cs i unread m, drop-cons ps i 0 n) refl in
    ap (λ (k : List Account). take (i + 1) (set a i b) ++ settle_all k (drop (i + 1) cs) (drop (i + 1) ps)) (past a i b)
    ∙ store_front a i b (settle_all (drop (i + 1) a) (drop (i + 1) cs) (drop (i + 1) ps)) l
    ∙ ap (λ (x : Account). take i a ++ (x ∷ settle_all (drop (i + 1) a) (drop (i + 1) cs) (drop (i + 1) ps))) q
    ∙ ap (λ (k : List Account). take i a ++ k) (sym s)
    ∙ e
  where
    past : (a : List Account) (i : ℕ) (b : Account) → drop (i + 1) (set a i b) ≡ drop (i + 1) a
    past a i b = rw add-one (behind a i b)
      where
        behind : (a : List Account) (i : ℕ) (b : Account) → drop (suc i) (set a i b) ≡ drop (suc i) a
        behind [] i b = refl
        behind (x ∷ a) zero b = refl
        behind (x ∷ a) (suc i) b = behind a i b

pub settle_done : (a all : List Account) (cs : List Chair) (ps : List ℕ) (i : ℕ) → length a ≤ i → take i a ++ settle_all (drop i a) (drop i cs) (drop i ps) ≡ all → a ≡ all
settle_done a all cs ps i l e =
    sym (take_all i a l)
    ∙ sym (append-nil (take i a))
    ∙ ap (λ (k : List Account). take i a ++ k) (sym (ap (λ (k : List Account). settle_all k (drop i cs) (drop i ps)) (drop_of_length-le a l)))
    ∙ e

-- a turn of the loop that sums the sittings, and its end
pub sums_turn : {r : Sums} (m : Notes) (cs : List Chair) (s all : Sums) (i : ℕ) → i < length cs → r ≡ sums_with s m (get_or cs i unread) i
    → sums_from s m i (drop i cs) ≡ all → sums_from r m (i + 1) (drop (i + 1) cs) ≡ all
sums_turn m cs s all i l q e =
    let t : sums_from s m i (drop i cs) ≡ sums_from (sums_with s m (get_or cs i unread) i) m (i + 1) (drop (i + 1) cs) = rw (add-one i, drop-cons cs i unread l) refl in
    ap (λ (x : Sums). sums_from x m (i + 1) (drop (i + 1) cs)) q ∙ sym t ∙ e

pub sums_done : {all : Sums} (m : Notes) (cs : List Chair) (s : Sums) (i : ℕ) → length cs ≤ i → sums_from s m i (drop i cs) ≡ all → s ≡ all
sums_done m cs s i l e = sym (ap (λ (k : List Chair). sums_from s m i k) (drop_of_length-le cs l)) ∙ e

-- a list that has f of each element of another is the other mapped
pub mapped : {A B : Type 0} (f : A → B) (xs : List A) (ys : List B) → length ys ≡ length xs → ((i : ℕ) (d : A) (e : B) → i < length ys → get_or ys i e ≡ f (get_or xs i d)) → ys ≡ map f xs
mapped f [] [] l h = refl
mapped f [] (y ∷ ys) l h = absurd (omega arith)
mapped f (x ∷ xs) [] l h = absurd (omega arith)
mapped f (x ∷ xs) (y ∷ ys) l h =
    let e : y ≡ f x = h 0 x y (omega arith) in
    ap₂ (λ a b. a ∷ b) e (mapped f xs ys (omega arith) (λ i d z k. h (suc i) d z (omega arith)))
