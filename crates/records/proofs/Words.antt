-- Words one behind the other: how many bytes they take, and one word more. Assumes nothing.
use mathlib.Core.Path.{◌≡◌, refl, sym, ap, ◌∙◌, subst}
use mathlib.Core.List.{List, [], ◌∷◌, ◌++◌, append_assoc, append-nil}
use Prim.Native.Nat.{ℕ, ◌+◌, ◌-◌, ◌*◌, ◌/◌, ◌%◌, ◌≤◌, ◌<◌}
use native.Mathlib.Omega.{arith}
use native.Mathlib.Numerals.{add-one}
use lib.ListN.{length, get_or, take, length-append, length-drop}
use lib.Seq.{take-suc, take_all, length-take-le}
use borrow.Rule.Slice.PartMut.{mid_of, put_mid}
use Rattle.writing.specs.AnswerSheet.{Wrote}
use Rattle.writing.proofs.Sheets.{then}
use Rattle.text.proofs.Parts.{part_is}
use Rattle.records.specs.Bytes.{word_bytes, words_bytes}
use Rattle.records.specs.Stored.{row_bytes}

pub words_length : (ws : List ℕ) → length (words_bytes ws) ≡ 4 * length ws
words_length [] = refl
words_length (w ∷ ws) = length-append (word_bytes w) (words_bytes ws) ∙ omega (arith, words_length ws)

words_append : (xs ys : List ℕ) → words_bytes (xs ++ ys) ≡ words_bytes xs ++ words_bytes ys
words_append [] ys = refl
words_append (x ∷ xs) ys = ap (λ (l : List ℕ). word_bytes x ++ l) (words_append xs ys) ∙ sym (append_assoc (word_bytes x) (words_bytes xs) (words_bytes ys))

words_on : (ws : List ℕ) (k : ℕ) → k < length ws → words_bytes (take (k + 1) ws) ≡ words_bytes (take k ws) ++ word_bytes (get_or ws k 0)
words_on ws k h =
    ap (λ (n : ℕ). words_bytes (take n ws)) (add-one k) ∙ ap words_bytes (take-suc ws k 0 h) ∙ words_append (take k ws) (get_or ws k 0 ∷ [])
    ∙ ap (λ (l : List ℕ). words_bytes (take k ws) ++ l) (append-nil (word_bytes (get_or ws k 0)))

pub row_length : (n : ℕ) (ws : List ℕ) → length ws ≡ 10 → length (row_bytes n ws) ≡ 44
row_length n ws h = length-append (word_bytes n) (words_bytes ws) ∙ omega (arith, words_length ws, h)

-- ---- a loop that writes them: before the k-th word

pub record Going (ws old now : List ℕ) (k at : ℕ) : Type 0 where
  pub wrote : Wrote (words_bytes (take k ws)) old now at
  pub same : length now ≡ length old

pub going_start : (ws old : List ℕ) → Going ws old old 0 0
going_start ws old = record { wrote = record { count = refl; sheet = refl }; same = refl }

module _ {ws old now : List ℕ} {k at : ℕ} (g : Going ws old now k at) where
  pub going_at : k ≤ length ws → at ≡ 4 * k
  going_at h =
      let e : length (take k ws) ≡ k = length-take-le k ws h in
      omega (arith, g.wrote.count, words_length (take k ws), e)

  -- where no more than ten are to be written, the next one has its room
  pub going_room : length ws ≤ 10 → 40 ≤ length old → k < length ws → at + 4 ≤ length now
  going_room n room h = omega (arith, going_at (omega (arith, h)), g.same, n, h, room)

  pub going_part : length ws ≤ 10 → 40 ≤ length old → k < length ws → 4 ≤ length (mid_of at (length now - at) now)
  going_part n room h = omega (arith, ap length (part_is at now), length-drop at now, going_room n room h)

  pub going_turn : {mid after : List ℕ} {r : ℕ} → k < length ws → Wrote (word_bytes (get_or ws k 0)) (mid_of at (length now - at) now) mid r
      → after ≡ put_mid at (length now - at) now mid → length after ≡ length old → Going ws old after (k + 1) (at + r)
  going_turn {mid} {after} {r} h w p q = record {
    wrote =
        subst (λ (l : List ℕ). Wrote l old after (at + r)) (sym (words_on ws k h))
        (subst (λ (l : List ℕ). Wrote (words_bytes (take k ws) ++ word_bytes (get_or ws k 0)) old l (at + r)) (sym p) (then g.wrote w));
    same = q;
  }

  pub going_done : length ws ≤ k → Wrote (words_bytes ws) old now at
  going_done h = subst (λ (l : List ℕ). Wrote (words_bytes l) old now at) (take_all k ws h) g.wrote

-- ---- a word's bytes, by those that were computed

pub word_wrote : (w : ℕ) {a b c d : ℕ} {old new : List ℕ} {r : ℕ} → a ≡ w % 256 → b ≡ w / 256 % 256 → c ≡ w / 256 / 256 % 256 → d ≡ w / 256 / 256 / 256 % 256
    → Wrote (a ∷ b ∷ c ∷ d ∷ []) old new r → Wrote (word_bytes w) old new r
word_wrote w {a} {b} {c} {d} {old} {new} {r} p q s t h =
    subst (λ (l : List ℕ). Wrote l old new r)
    (ap (λ (x : ℕ). x ∷ b ∷ c ∷ d ∷ []) p ∙ ap (λ (x : ℕ). w % 256 ∷ x ∷ c ∷ d ∷ []) q ∙ ap (λ (x : ℕ). w % 256 ∷ w / 256 % 256 ∷ x ∷ d ∷ []) s
    ∙ ap (λ (x : ℕ). w % 256 ∷ w / 256 % 256 ∷ w / 256 / 256 % 256 ∷ x ∷ []) t) h
