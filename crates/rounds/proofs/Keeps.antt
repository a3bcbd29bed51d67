-- Laws of keeping bytes, and of answering what was gathered. Assumes nothing.
use mathlib.Core.Path.{◌≡◌, refl, sym, ap}
use mathlib.Core.List.{List, []}
use Prim.Native.Nat.{ℕ, ◌+◌, ◌≤◌, ◌<◌}
use native.Mathlib.Numerals.{add-one}
use lib.ListN.{length, take, set}
use lib.Seq.{take-suc-set, length-take-le}
use borrow.Author.Tests.{eq-eqb, ne_eqb, lt-ltb, le-ltb}
use Rattle.rounds.specs.declared.parts.Fill.{Fill}
use Rattle.writing.specs.AnswerSheet.{Wrote}
use Rattle.rounds.specs.RoundAnswer.{answer_bytes}
use Rattle.rounds.specs.RoundParts.{Kept, keep_of, state_of, kept_after, bytes_after, close_bytes}

module _ (m : Fill) (buf : List ℕ) (b : ℕ) (h : m.count < length buf) where
  pub keep_end : b ≡ 10 → state_of (record { count = m.count + 1; lines = m.lines + 1; width = 0 }) (set buf m.count b) ≡ keep_of (state_of m buf) b
  unfolding keep_of
  keep_end e =
      rw (eq-eqb b 10 e) (ap (λ (x : List ℕ). record { bytes = x; lines = m.lines + 1; width = 0 }) (rw (add-one m.count) (take-suc-set buf m.count b h)))

  pub keep_on : (b ≡ 10 → ⊥) → m.width < 33 → state_of (record { count = m.count + 1; lines = m.lines; width = m.width + 1 }) (set buf m.count b) ≡ keep_of (state_of m buf) b
  unfolding keep_of
  keep_on n w =
      rw (ne_eqb b 10 n, lt-ltb m.width 33 w) (ap (λ (x : List ℕ). record { bytes = x; lines = m.lines; width = m.width + 1 }) (rw (add-one m.count) (take-suc-set buf m.count b h)))

pub keep_not : (m : Fill) (buf : List ℕ) (b : ℕ) → (b ≡ 10 → ⊥) → 33 ≤ m.width → state_of m buf ≡ keep_of (state_of m buf) b
unfolding keep_of
keep_not m buf b n w = rw (ne_eqb b 10 n, le-ltb m.width 33 w)

-- ---- what a feed does with what was gathered

module _ (m : Fill) (buf : List ℕ) {g : Kept} (e : state_of m buf ≡ g) where
  pub fed_kept : (out : List ℕ) → m.lines < 16 → (state_of m buf ≡ kept_after g) × Wrote (bytes_after g) out out 0
  fed_kept out h =
      let t = lt-ltb m.lines 16 h in
      (rw (sym e, t), rw (sym e, t) (record { count = refl; sheet = refl }))

  pub fed_whole : {out out2 : List ℕ} {w : ℕ} (z : Fill) (buf2 : List ℕ) → 16 ≤ m.lines → z.count ≡ 0 → z.lines ≡ 0 → z.width ≡ 0
      → Wrote (answer_bytes (take m.count buf)) out out2 w → (state_of z buf2 ≡ kept_after g) × Wrote (bytes_after g) out out2 w
  fed_whole z buf2 h c l b p =
      let t = le-ltb m.lines 16 h in
      (rw (sym e, t, c, l, b), rw (sym e, t) p)

-- ---- the end

module _ (m : Fill) (buf : List ℕ) where
  pub close_none : m.count ≡ 0 → close_bytes (state_of m buf) ≡ []
  unfolding close_bytes
  close_none e = rw e

  pub close_some : (m.count ≡ 0 → ⊥) → m.count ≤ length buf → close_bytes (state_of m buf) ≡ answer_bytes (take m.count buf)
  unfolding close_bytes
  close_some n h =
      let l : length (take m.count buf) ≡ m.count = length-take-le m.count buf h in
      rw (l, ne_eqb m.count 0 n)
