-- Laws of writers that go on where the last one ended. Assumes nothing.
use mathlib.Core.Path.{◌≡◌, refl, sym, ap, ◌∙◌}
use mathlib.Core.List.{List, [], ◌∷◌, ◌++◌, append_assoc}
use mathlib.Core.Bool.{Bool, true, false}
use Prim.Native.Nat.{ℕ, ◌+◌, ◌-◌, ◌≤◌, ◌<◌}
use native.Mathlib.Numerals.{add-one}
use native.Mathlib.Omega.{arith}
use lib.ListN.{length, take, drop, set, length-append, length-drop, take-append-drop}
use lib.Seq.{take_at, drop-append-add, drop-drop, length-take-le, set_split}
use borrow.Rule.Slice.PartMut.{mid_of, put_mid}
use Rattle.laws.specs.Tests.{pick}
use Rattle.writing.specs.AnswerSheet.{Wrote}
use Rattle.text.proofs.Parts.{part_is, part_back}
use Rattle.figures.specs.Placing.{Put}

-- a writer that was lent the part from the place on
pub put_part : {bs l t : List ℕ} {a b : ℕ} → a + length bs ≤ length l → Wrote bs (mid_of a (length l - a) l) t b → Put bs a l (put_mid a (length l - a) l t) (a + b)
put_part {bs} {l} {t} {a} {b} h w = record {
  count = rw w.count;
  within = rw w.count h;
  sheet = part_back a l t ∙ rw (w.sheet, w.count, part_is a l, drop-drop (length bs) a l);
}

-- nothing is written
pub put_none : (a : ℕ) (l : List ℕ) → a ≤ length l → Put [] a l l a
put_none a l h = record { count = omega arith; within = h; sheet = sym (take-append-drop a l) }

pub put_when : {bs l s : List ℕ} {a r : ℕ} (t : Bool) → t ≡ true → Put bs a l s r → Put (pick t bs []) a l s r
put_when t e p = rw e p

pub put_unless : (bs l : List ℕ) (a : ℕ) (t : Bool) → t ≡ false → a ≤ length l → Put (pick t bs []) a l l a
put_unless bs l a t e h = rw e (put_none a l h)

module _ (xs l : List ℕ) (a b : ℕ) (p : b ≡ a + length xs) (h : b ≤ length l) where
  front_length : length (take a l ++ xs) ≡ b
  front_length = length-append (take a l) xs ∙ rw (length-take-le a l (omega arith)) (sym p)

  kept_length : length (take a l ++ (xs ++ drop b l)) ≡ length l
  kept_length = rw (← append_assoc (take a l) xs (drop b l), length-append (take a l ++ xs) (drop b l), front_length, length-drop b l) (omega arith)

  seam : (ys : List ℕ) (c : ℕ) → c ≡ b + length ys
      → take b (take a l ++ (xs ++ drop b l)) ++ (ys ++ drop c (take a l ++ (xs ++ drop b l))) ≡ take a l ++ ((xs ++ ys) ++ drop c l)
  seam ys c q =
      let f : List ℕ = take a l ++ xs in
      let e : take a l ++ (xs ++ drop b l) ≡ f ++ drop b l = sym (append_assoc (take a l) xs (drop b l)) in
      let d : drop c (f ++ drop b l) ≡ drop c l =
      rw (q, ← front_length) (drop-append-add f (drop (length f) l) (length ys) ∙ drop-drop (length ys) (length f) l) in
      rw (e, take_at f (drop b l) b front_length, d) (append_assoc (take a l) xs (ys ++ drop c l) ∙ ap (λ (r : List ℕ). take a l ++ r) (sym (append_assoc xs ys (drop c l))))

-- two writers, the second where the first ended
pub next : {xs ys l s t : List ℕ} {a b c : ℕ} → Put xs a l s b → Put ys b s t c → Put (xs ++ ys) a l t c
next {xs} {ys} {l} {s} {t} {a} {b} {c} p q =
    let k : length s ≡ length l = ap length p.sheet ∙ kept_length xs l a b p.count p.within in
    record {
      count = rw (length-append xs ys) (omega (arith, p.count, q.count));
      within = omega (arith, q.within);
      sheet = q.sheet ∙ rw p.sheet (seam xs l a b p.count p.within ys c q.count);
    }

-- one byte more, by a store
pub put_byte : {xs l s : List ℕ} {a b : ℕ} (x : ℕ) → b < length l → Put xs a l s b → Put (xs ++ (x ∷ [])) a l (set s b x) (b + 1)
put_byte {xs} {l} {s} {a} {b} x h p =
    let k : length s ≡ length l = ap length p.sheet ∙ kept_length xs l a b p.count p.within in
    next p (record {
      count = refl;
      within = omega arith;
      sheet = rw (add-one b) (set_split s b x (omega arith));
    })
