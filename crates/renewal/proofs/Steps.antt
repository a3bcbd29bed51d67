-- The lines that a sheet lacks, byte for byte, and what a byte and the close give: what a test on the way decides. For the proofs of the functions. Assumes nothing.
use Prim.Native.Nat.{ℕ, zero, suc, ◌+◌, ◌-◌, ◌≤◌, ◌<◌}
use mathlib.Core.Bool.{Bool, true, false}
use mathlib.Core.Path.{◌≡◌, refl, sym, ap, subst, ◌∙◌}
use mathlib.Core.List.{List, [], ◌∷◌, ◌++◌}
use native.Mathlib.Omega.{arith}
use lib.ListN.{length, set, length-drop}
use lib.Dec.{eqb}
use borrow.Author.Tests.{eq-eqb, ne_eqb, eqb-false, leb-false}
use borrow.Rule.Slice.PartMut.{mid_of, put_mid}
use Rattle.laws.specs.Tests.{pick, both}
use Rattle.text.specs.Line.{number_line, line_len, after_line, after_lines}
use Rattle.text.specs.Number.{digits}
use Rattle.text.specs.TableSheet.{sheet_lines}
use Rattle.writing.specs.AnswerSheet.{Wrote}
use Rattle.writing.proofs.Sheets.{then, push, push_first}
use Rattle.renewal.specs.declared.Renewal.{Renewal}
use Rattle.renewal.specs.OldSheets.{meant, missing, added_lines}
use Rattle.renewal.specs.Renewing.{Step, gives, behind_lines, in_line, holding, ended_after, onward_of, may_end, held_step, sheet_step, step_of, close_of, InSheet, given_most}
use Rattle.renewal.specs.Parts.{Gave}

-- ---- the constants

abbrev pub meant_bytes : List ℕ
meant_bytes =
    115 ∷ 116 ∷ 101 ∷ 112 ∷ 61 ∷ 49 ∷ 10
    ∷ 103 ∷ 97 ∷ 109 ∷ 101 ∷ 61 ∷ 50 ∷ 10
    ∷ 100 ∷ 101 ∷ 99 ∷ 107 ∷ 61 ∷ 53 ∷ 50 ∷ 10
    ∷ 100 ∷ 114 ∷ 111 ∷ 112 ∷ 61 ∷ 48 ∷ 10
    ∷ []

abbrev pub added_bytes : List ℕ
added_bytes =
    97 ∷ 100 ∷ 100 ∷ 101 ∷ 100 ∷ 32 ∷ 115 ∷ 116 ∷ 101 ∷ 112 ∷ 61 ∷ 49 ∷ 10
    ∷ 97 ∷ 100 ∷ 100 ∷ 101 ∷ 100 ∷ 32 ∷ 103 ∷ 97 ∷ 109 ∷ 101 ∷ 61 ∷ 50 ∷ 10
    ∷ 97 ∷ 100 ∷ 100 ∷ 101 ∷ 100 ∷ 32 ∷ 100 ∷ 101 ∷ 99 ∷ 107 ∷ 61 ∷ 53 ∷ 50 ∷ 10
    ∷ 97 ∷ 100 ∷ 100 ∷ 101 ∷ 100 ∷ 32 ∷ 100 ∷ 114 ∷ 111 ∷ 112 ∷ 61 ∷ 48 ∷ 10
    ∷ []

pub meant_bytes_law : meant ≡ meant_bytes
unfolding meant number_line digits
meant_bytes_law = refl

pub added_bytes_law : added_lines ≡ added_bytes
unfolding added_lines number_line digits
added_bytes_law = refl

pub most_is : given_most ≡ 31
most_is = ap (λ (l : List ℕ). length l + 2) meant_bytes_law

-- ---- lines behind the first k - 5 of some

after_short : (k : ℕ) (l : List ℕ) → length (after_lines k l) ≤ length l
after_short zero l = omega arith
after_short (suc k) l = omega (arith, after_short k (after_line l), length-drop (suc (line_len l)) l)

pub lines_are : (k : ℕ) {j : ℕ} {more : List ℕ} (all bs : List ℕ) → all ≡ bs → j ≡ k - 5 → more ≡ after_lines j bs → more ≡ after_lines (k - 5) all
lines_are k {j} {more} all bs a e f = f ∙ ap (λ (i : ℕ). after_lines i bs) e ∙ ap (after_lines (k - 5)) (sym a)

pub lines_short : (k : ℕ) {more : List ℕ} (all : List ℕ) → more ≡ after_lines (k - 5) all → length more ≤ length all
lines_short k {more} all m = subst (λ (l : List ℕ). length l ≤ length all) (sym m) (after_short (k - 5) all)

pub lines_put : (k : ℕ) {more : List ℕ} (all : List ℕ) {out out2 : List ℕ} {r : ℕ} → more ≡ after_lines (k - 5) all → Wrote more out out2 r
    → Wrote (after_lines (k - 5) all) out out2 r × (r ≤ length all)
lines_put k {more} all {out} {out2} {r} m w = (subst (λ (l : List ℕ). Wrote l out out2 r) m w, omega (arith, w.count, lines_short k all m))

-- ---- a byte of a line

pub onward_lf : (n b : ℕ) → b ≡ 10 → (behind_lines (n + 1) ≡ onward_of n b) × InSheet (behind_lines (n + 1))
onward_lf n b e =
    (ap (λ (x : Bool). pick x (behind_lines (n + 1)) (in_line n)) (sym (eq-eqb b 10 e)), record { within = λ d. leb-false sheet_lines (n + 1) d })

pub onward_in : (n b : ℕ) → n < sheet_lines → (b ≡ 10 → ⊥) → (in_line n ≡ onward_of n b) × InSheet (in_line n)
onward_in n b h e = (ap (λ (x : Bool). pick x (behind_lines (n + 1)) (in_line n)) (sym (ne_eqb b 10 e)), record { within = λ d. h })

pub true_false : true ≡ false → ⊥
true_false q = eqb-false 1 0 refl (ap (λ (t : Bool). pick t 1 0) q)

ended_held : (n : ℕ) → InSheet (ended_after n)
ended_held n = record { within = λ d. absurd (true_false d) }

-- ---- what is given and written

abbrev Done : Step → List ℕ → List ℕ → Renewal → ℕ → Type 0
Done x out out2 s w = Gave x out out2 s w × (InSheet s × (w ≤ given_most))

gave_by : {x y : Step} {out out2 : List ℕ} {s : Renewal} {w : ℕ} → y ≡ x → Gave x out out2 s w → Gave y out out2 s w
gave_by {x} {y} {out} {out2} {s} {w} e g = subst (λ (z : Step). Gave z out out2 s w) (sym e) g

wrote_none : (out : List ℕ) → Wrote [] out out 0
wrote_none out = record { count = refl; sheet = refl }

-- ---- the byte behind a held `n`

pub block_begins : (n b : ℕ) {a w : ℕ} {out out1 mid : List ℕ} → b ≡ 61 → Wrote (missing n) out out1 a → a ≤ length meant
    → Wrote (110 ∷ 61 ∷ []) (mid_of a (length out1 - a) out1) mid w → Done (held_step n b) out (put_mid a (length out1 - a) out1 mid) (ended_after n) (a + w)
block_begins n b e p h q = (
  gave_by
      (ap (λ (x : Bool). pick x (gives (ended_after n) (missing n ++ (110 ∷ 61 ∷ []))) (gives (onward_of n b) (110 ∷ b ∷ []))) (eq-eqb b 61 e))
      (record { after = refl; wrote = then p q }),
  (ended_held n, omega (arith, h, q.count)),
)

pub n_passes : (n b : ℕ) {d : Renewal} (out : List ℕ) → given_most ≤ length out → (b ≡ 61 → ⊥) → d ≡ onward_of n b → InSheet d
    → Done (held_step n b) out (set (set out 0 110) 1 b) d 2
n_passes n b {d} out h e f k = (
  gave_by
      (ap (λ (x : Bool). pick x (gives (ended_after n) (missing n ++ (110 ∷ 61 ∷ []))) (gives (onward_of n b) (110 ∷ b ∷ []))) (ne_eqb b 61 e))
      (record { after = f; wrote = push b (omega (arith, h, most_is)) (push_first out 110 (omega (arith, h, most_is))) }),
  (k, omega (arith, most_is)),
)

-- ---- one byte

module _ (s : Renewal) (b : ℕ) (out : List ℕ) where
  abbrev rest : Step
  rest = pick s.held (held_step s.lines b) (sheet_step s b)

  in_sheet : s.done ≡ false → step_of s b ≡ rest
  unfolding step_of
  in_sheet d = ap (λ (x : Bool). pick x (gives s (b ∷ [])) rest) d

  no_held : s.held ≡ false → rest ≡ sheet_step s b
  no_held h = ap (λ (x : Bool). pick x (held_step s.lines b) (sheet_step s b)) h

  abbrev chosen : Bool → Step
  chosen x = pick x (gives (holding s.lines) []) (gives (onward_of s.lines b) (b ∷ []))

  done_is : s.done ≡ true → step_of s b ≡ gives s (b ∷ [])
  unfolding step_of
  done_is d = ap (λ (x : Bool). pick x (gives s (b ∷ [])) rest) d

  pub step_done : given_most ≤ length out → InSheet s → s.done ≡ true → Done (step_of s b) out (set out 0 b) s 1
  step_done m k d =
      (gave_by (done_is d) (record { after = refl; wrote = push_first out b (omega (arith, m, most_is)) }), (k, omega (arith, most_is)))

  pub step_behind : {out2 : List ℕ} {r : Renewal} {w : ℕ} → s.done ≡ false → s.held ≡ true → Gave (held_step s.lines b) out out2 r w → Gave (step_of s b) out out2 r w
  step_behind d h g = gave_by (in_sheet d ∙ ap (λ (x : Bool). pick x (held_step s.lines b) (sheet_step s b)) h) g

  pub step_hold : {m t : Bool} → InSheet s → s.done ≡ false → s.held ≡ false → m ≡ may_end s → t ≡ both m (eqb b 110) → t ≡ true → Done (step_of s b) out out (holding s.lines) 0
  step_hold {m} {t} k d h e f y = (
    gave_by
        (in_sheet d ∙ no_held h ∙ ap chosen (ap (λ (x : Bool). both x (eqb b 110)) (sym e) ∙ sym f ∙ y))
        (record { after = refl; wrote = wrote_none out }),
    (record { within = λ z. k.within d }, omega arith),
  )

  pub step_pass : {m t : Bool} {r : Renewal} → given_most ≤ length out → s.done ≡ false → s.held ≡ false → m ≡ may_end s → t ≡ both m (eqb b 110) → t ≡ false
      → r ≡ onward_of s.lines b → InSheet r → Done (step_of s b) out (set out 0 b) r 1
  step_pass {m} {t} {r} g d h e f y p k = (
    gave_by
        (in_sheet d ∙ no_held h ∙ ap chosen (ap (λ (x : Bool). both x (eqb b 110)) (sym e) ∙ sym f ∙ y))
        (record { after = p; wrote = push_first out b (omega (arith, g, most_is)) }),
    (k, omega (arith, most_is)),
  )

-- ---- the close

module _ (s : Renewal) (out : List ℕ) where
  abbrev ends : Step
  ends = pick (may_end s) (gives (ended_after s.lines) (missing s.lines)) (gives s [])

  abbrev open_end : Step
  open_end = pick s.held (gives (in_line s.lines) (110 ∷ [])) ends

  close_by : {x : Bool} → s.done ≡ x → close_of s ≡ pick x (gives s []) open_end
  unfolding close_of
  close_by d = ap (λ (x : Bool). pick x (gives s []) open_end) d

  held_by : {x : Bool} → s.held ≡ x → open_end ≡ pick x (gives (in_line s.lines) (110 ∷ [])) ends
  held_by h = ap (λ (x : Bool). pick x (gives (in_line s.lines) (110 ∷ [])) ends) h

  end_by : {m x : Bool} → m ≡ may_end s → m ≡ x → ends ≡ pick x (gives (ended_after s.lines) (missing s.lines)) (gives s [])
  end_by e f = ap (λ (x : Bool). pick x (gives (ended_after s.lines) (missing s.lines)) (gives s [])) (sym e ∙ f)

  pub close_done : InSheet s → s.done ≡ true → Done (close_of s) out out s 0
  close_done k d = (gave_by (close_by d) (record { after = refl; wrote = wrote_none out }), (k, omega arith))

  pub close_held : given_most ≤ length out → InSheet s → s.done ≡ false → s.held ≡ true → Done (close_of s) out (set out 0 110) (in_line s.lines) 1
  close_held m k d h = (
    gave_by (close_by d ∙ held_by h) (record { after = refl; wrote = push_first out 110 (omega (arith, m, most_is)) }),
    (record { within = λ z. k.within d }, omega (arith, most_is)),
  )

  pub close_ends : {m : Bool} {out2 : List ℕ} {w : ℕ} → s.done ≡ false → s.held ≡ false → m ≡ may_end s → m ≡ true → Wrote (missing s.lines) out out2 w → w ≤ length meant
      → Done (close_of s) out out2 (ended_after s.lines) w
  close_ends d h e f p l =
      (gave_by (close_by d ∙ held_by h ∙ end_by e f) (record { after = refl; wrote = p }), (ended_held s.lines, omega (arith, l)))

  pub close_cut : {m : Bool} → InSheet s → s.done ≡ false → s.held ≡ false → m ≡ may_end s → m ≡ false → Done (close_of s) out out s 0
  close_cut k d h e f = (gave_by (close_by d ∙ held_by h ∙ end_by e f) (record { after = refl; wrote = wrote_none out }), (k, omega arith))
