-- Chairs above a table's seats add nothing: what is counted, summed, read off or done over the seats is so over all chairs. Over any number of chairs.
-- Assumes nothing.
use Prim.Native.Nat.{ℕ, zero, suc, ◌+◌, ◌*◌, ◌-◌, ◌≤◌, ◌<◌}
use mathlib.Core.Bool.{Bool, true, false}
use mathlib.Core.Path.{◌≡◌, refl, sym, ap, ap₂, ◌∙◌}
use mathlib.Core.List.{List, [], ◌∷◌, ◌++◌, map}
use native.Mathlib.Omega.{arith}
use lib.ListN.{length, get_or, take, drop, set, replicate}
use lib.Seq.{drop-cons}
use mir.Val.{bool_byte}
use Rattle.laws.specs.Tests.{one}
use Rattle.pots.specs.Heights.{mask_at, has}
use Rattle.pots.proofs.Chips.{has_none}
use Rattle.chairs.specs.Chairs.{put_at, no_chair, count_of, chips_of, sweep_of, column_of, closed_of, close_all, Above, Seats}
use Rattle.chairs.specs.Sweep.{Sweep, Again, Round, Deal}
use Rattle.chairs.specs.What.{What}
use Rattle.chairs.specs.declared.Chair.{Chair}
use Rattle.chairs.proofs.Clockwise.{put_other, count_none}
use Rattle.chairs.proofs.Over.{map_at}
use Rattle.chairs.specs.What as col

-- a chair put down at a seat, and a sweep that leaves a chair as it is that nobody ever had
pub above_put : (n : ℕ) (cs : List Chair) (x : ℕ) (d : Chair) → x ≤ n → Above n cs → Above n (put_at cs x d)
above_put n cs x d l h s k = put_other cs x s d (λ e. omega arith) ∙ h s k

pub above_map : (f : Chair → Chair) → f no_chair ≡ no_chair → (n : ℕ) (cs : List Chair) → Above n cs → Above n (map f cs)
above_map f e n cs h s k = map_at f cs s e ∙ ap f (h s k) ∙ e

pub seats_put : (n : ℕ) (cs : List Chair) (x : ℕ) (d : Chair) → x ≤ n → Seats n cs → Seats n (put_at cs x d)
seats_put n cs x d l h = record { few = h.few; above = above_put n cs x d l h.above }

-- no sweep changes a chair that nobody ever had
pub sweep_none : (k : Sweep) → sweep_of k no_chair ≡ no_chair
sweep_none (Again full) = refl
sweep_none Round = refl
sweep_none Deal = refl

pub seats_sweep : (k : Sweep) (n : ℕ) (cs : List Chair) → Seats n cs → Seats n (map (sweep_of k) cs)
seats_sweep k n cs h = record { few = h.few; above = above_map (sweep_of k) (sweep_none k) n cs h.above }

-- nothing is read off it
pub column_none : (k : What) → column_of k no_chair ≡ 0
column_none col.Total = refl
column_none col.Sitting = refl
column_none col.Live = refl
column_none col.Here = refl

above_tail : (n : ℕ) (c : Chair) (cs : List Chair) → Above (suc n) (c ∷ cs) → Above n cs
above_tail n c cs h zero k = refl
above_tail n c cs h (suc s) k = h (suc (suc s)) (omega arith)

above_head : (c : Chair) (cs : List Chair) → Above 0 (c ∷ cs) → c ≡ no_chair
above_head c cs h = h 1 (omega arith)

above_less : (c : Chair) (cs : List Chair) → Above 0 (c ∷ cs) → Above 0 cs
above_less c cs h zero k = refl
above_less c cs h (suc s) k = h (suc (suc s)) (omega arith)

-- ---- counts and sums
pub above_count : (p : Chair → Bool) → p no_chair ≡ false → (n : ℕ) (cs : List Chair) → Above n cs → count_of p (drop n cs) ≡ 0
above_count p e zero cs h = count_none p cs (λ k. ap p (h (suc k) (omega arith)) ∙ e)
above_count p e (suc n) [] h = refl
above_count p e (suc n) (c ∷ cs) h = above_count p e n cs (above_tail n c cs h)

-- so the seats count what all chairs count
pub count_seats : (p : Chair → Bool) → p no_chair ≡ false → (n : ℕ) (cs : List Chair) → Above n cs → count_of p (take n cs) ≡ count_of p cs
count_seats p e zero cs h = sym (above_count p e zero cs h)
count_seats p e (suc n) [] h = refl
count_seats p e (suc n) (c ∷ cs) h = ap (λ m. one (p c) + m) (count_seats p e n cs (above_tail n c cs h))

pub above_chips : (n : ℕ) (cs : List Chair) → Above n cs → chips_of (drop n cs) ≡ 0
above_chips zero [] h = refl
above_chips zero (c ∷ cs) h =
    let e = above_head c cs h in
    omega (arith, ap (λ (d : Chair). d.stack) e, ap (λ (d : Chair). d.dealt.total) e, above_chips zero cs (above_less c cs h))
above_chips (suc n) [] h = refl
above_chips (suc n) (c ∷ cs) h = above_chips n cs (above_tail n c cs h)

pub chips_seats : (n : ℕ) (cs : List Chair) → Above n cs → chips_of (take n cs) ≡ chips_of cs
chips_seats zero cs h = sym (above_chips zero cs h)
chips_seats (suc n) [] h = refl
chips_seats (suc n) (c ∷ cs) h = ap (λ m. c.stack + c.dealt.total + m) (chips_seats n cs (above_tail n c cs h))

-- a truth as a chip at height 1
pub has_truth : (b : Bool) → has (one b) 1 ≡ one b
unfolding has
has_truth true = refl
has_truth false = refl

-- ---- what befalls every chair
pub above_sweep : (f : Chair → Chair) → f no_chair ≡ no_chair → (n : ℕ) (cs : List Chair) → Above n cs → map f (take n cs) ++ drop n cs ≡ map f cs
above_sweep f e zero [] h = refl
above_sweep f e zero (c ∷ cs) h = let q = above_head c cs h in ap₂ ◌∷◌ (q ∙ sym (ap f q ∙ e)) (above_sweep f e zero cs (above_less c cs h))
above_sweep f e (suc n) [] h = refl
above_sweep f e (suc n) (c ∷ cs) h = ap (λ (l : List Chair). f c ∷ l) (above_sweep f e n cs (above_tail n c cs h))

pub above_close : (n : ℕ) (cs : List Chair) (ps : List ℕ) → Above n cs → ((i : ℕ) → n ≤ i → get_or ps i 0 ≡ 0) → close_all (take n cs) ps ++ drop n cs ≡ close_all cs ps
above_close zero [] ps h z = refl
above_close zero (c ∷ cs) [] h z =
    let q = above_head c cs h in
    ap₂ ◌∷◌ (q ∙ sym (ap (λ (d : Chair). closed_of d 0) q)) (above_close zero cs [] (above_less c cs h) (λ i l. refl))
above_close zero (c ∷ cs) (p ∷ ps) h z =
    let q = above_head c cs h in
    ap₂ ◌∷◌ (q ∙ sym (ap₂ closed_of q (z 0 (omega arith)))) (above_close zero cs ps (above_less c cs h) (λ i l. z (suc i) (omega arith)))
above_close (suc n) [] ps h z = refl
above_close (suc n) (c ∷ cs) [] h z = ap (λ (l : List Chair). closed_of c 0 ∷ l) (above_close n cs [] (above_tail n c cs h) (λ i l. refl))
above_close (suc n) (c ∷ cs) (p ∷ ps) h z = ap (λ (l : List Chair). closed_of c p ∷ l) (above_close n cs ps (above_tail n c cs h) (λ i l. z (suc i) (omega arith)))

-- ---- numbers read off the chairs: those above the seats give 0
module _ (f : Chair → ℕ) where
  -- the first i places read, the others as they were
  abbrev pub read_to : ℕ → List Chair → List ℕ → List ℕ
  read_to zero cs xs = xs
  read_to (suc i) [] xs = xs
  read_to (suc i) (c ∷ cs) [] = []
  read_to (suc i) (c ∷ cs) (x ∷ xs) = f c ∷ read_to i cs xs

  pub read_turn : (i : ℕ) (cs : List Chair) (xs : List ℕ) (d : Chair) → i < length cs → i < length xs → set (read_to i cs xs) i (f (get_or cs i d)) ≡ read_to (suc i) cs xs
  read_turn i [] xs d l m = absurd (omega arith)
  read_turn i (c ∷ cs) [] d l m = absurd (omega arith)
  read_turn zero (c ∷ cs) (x ∷ xs) d l m = refl
  read_turn (suc i) (c ∷ cs) (x ∷ xs) d l m = ap (λ (k : List ℕ). f c ∷ k) (read_turn i cs xs d (omega arith) (omega arith))

  pub read_all : (m : ℕ) (cs : List Chair) → length cs ≤ m → read_to (length cs) cs (replicate m 0) ≡ map f cs ++ replicate (m - length cs) 0
  read_all m [] l = let e : m ≡ m - 0 = omega arith in ap (λ k. replicate k 0) e
  read_all zero (c ∷ cs) l = absurd (omega arith)
  read_all (suc m) (c ∷ cs) l =
      let e : m - length cs ≡ suc m - suc (length cs) = omega arith in
      ap (λ (k : List ℕ). f c ∷ k) (read_all m cs (omega arith) ∙ ap (λ k. map f cs ++ replicate k 0) e)

  -- the places from i on read, those before it 0
  abbrev pub read_from : ℕ → List Chair → List ℕ
  read_from i cs = replicate i 0 ++ map f (drop i cs)

  pub read_start : f no_chair ≡ 0 → (n : ℕ) (cs : List Chair) → n ≤ length cs → Above n cs → replicate (length cs) 0 ≡ read_from n cs
  read_start e zero [] l h = refl
  read_start e zero (c ∷ cs) l h = ap₂ ◌∷◌ (sym (ap f (above_head c cs h) ∙ e)) (read_start e zero cs (omega arith) (above_less c cs h))
  read_start e (suc n) [] l h = absurd (omega arith)
  read_start e (suc n) (c ∷ cs) l h = ap (λ (k : List ℕ). 0 ∷ k) (read_start e n cs (omega arith) (above_tail n c cs h))

  pub column_seats : f no_chair ≡ 0 → (n m : ℕ) (cs : List Chair) → length cs ≡ m → n ≤ m → Above n cs → map f (take n cs) ++ replicate (m - length (take n cs)) 0 ≡ map f cs
  column_seats e zero m cs q l h = let z : m - 0 ≡ length cs = omega arith in ap (λ k. replicate k 0) z ∙ read_start e zero cs (omega arith) h
  column_seats e (suc n) m [] q l h = absurd (omega arith)
  column_seats e (suc n) zero (c ∷ cs) q l h = absurd (omega arith)
  column_seats e (suc n) (suc m) (c ∷ cs) q l h =
      let z : suc m - suc (length (take n cs)) ≡ m - length (take n cs) = omega arith in
      ap (λ (k : List ℕ). f c ∷ k) (ap (λ k. map f (take n cs) ++ replicate k 0) z ∙ column_seats e n m cs (omega arith) (omega arith) (above_tail n c cs h))

  -- the same as a mask of the places that have a 1
  pub mask_start : f no_chair ≡ 0 → (n : ℕ) (cs : List Chair) → Above n cs → mask_at (map f (drop n cs)) 1 ≡ 0
  unfolding mask_at
  mask_start e zero [] h = refl
  mask_start e zero (c ∷ cs) h = omega (arith, ap (λ k. has k 1) (ap f (above_head c cs h) ∙ e), has_none 0 1 (omega arith), mask_start e zero cs (above_less c cs h))
  mask_start e (suc n) [] h = refl
  mask_start e (suc n) (c ∷ cs) h = mask_start e n cs (above_tail n c cs h)

  pub mask_end : (cs : List Chair) → mask_at (map f (drop (length cs) cs)) 1 ≡ 0
  unfolding mask_at
  mask_end [] = refl
  mask_end (c ∷ cs) = mask_end cs

  pub mask_seats : f no_chair ≡ 0 → (n : ℕ) (cs : List Chair) → Above n cs → mask_at (map f (take n cs)) 1 ≡ mask_at (map f cs) 1
  unfolding mask_at
  mask_seats e zero cs h = sym (mask_start e zero cs h)
  mask_seats e (suc n) [] h = refl
  mask_seats e (suc n) (c ∷ cs) h = ap (λ m. has (f c) 1 + 2 * m) (mask_seats e n cs (above_tail n c cs h))

  pub mask_turn : (i : ℕ) (cs : List Chair) (d : Chair) → i < length cs
      → mask_at (map f (drop i cs)) 1 ≡ has (f (get_or cs i d)) 1 + 2 * mask_at (map f (drop (suc i) cs)) 1
  unfolding mask_at
  mask_turn i cs d l = ap (λ k. mask_at (map f k) 1) (drop-cons cs i d l)

-- a truth as a number
pub bool_one : (b : Bool) → bool_byte b ≡ one b
bool_one true = refl
bool_one false = refl

pub bool_small : (b : Bool) → bool_byte b ≤ 1
bool_small true = omega arith
bool_small false = omega arith

-- a mask of k places is below this
abbrev pub top : ℕ → ℕ
top zero = 1
top (suc k) = 2 * top k

pub top_most : (k m : ℕ) → k ≤ m → top k ≤ top m
top_most zero zero l = omega arith
top_most zero (suc m) l = omega (arith, top_most zero m (omega arith))
top_most (suc k) zero l = absurd (omega arith)
top_most (suc k) (suc m) l = omega (arith, top_most k m (omega arith))
