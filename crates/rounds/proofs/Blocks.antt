-- Laws of reading a block: a line where it lies, and the numbers of the lines one after another. Assumes nothing.
use mathlib.Core.Path.{◌≡◌, refl, sym, ap, ◌∙◌}
use mathlib.Core.Bool.{Bool, true, false}
use mathlib.Core.List.{List, [], ◌∷◌, ◌++◌, map, append-nil}
use mathlib.Core.Logic.{⊎_elim}
use Prim.Native.Nat.{ℕ, suc, ◌+◌, ◌-◌, ◌≤◌, ◌<◌, min}
use native.Mathlib.Nat.{le_refl}
use native.Mathlib.Numerals.{add-one}
use native.Mathlib.Omega.{arith}
use lib.ListN.{length, get_or, take, drop, set, length-drop, drop_of_length-le}
use lib.Seq.{drop-cons, drop-drop, take_all}
use Rattle.std.specs.Prelude.{Option, Some, None}
use Rattle.laws.specs.Tests.{both}
use Rattle.laws.proofs.Places.{store_front}
use Rattle.laws.proofs.Sums.{le_or_lt}
use Rattle.text.specs.Line.{line_len, after_line, after_lines, line_number}
use Rattle.text.specs.TableSheet.{is_value, value_in}
use Rattle.rounds.specs.RoundText.{keys, readings, all_values}

-- a part from a place on is all that follows
pub rest_is : (l : List ℕ) (at : ℕ) → take (length l - at) (drop at l) ≡ drop at l
rest_is l at = take_all (length l - at) (drop at l) (rw (length-drop at l) (le_refl _))

behind_is : (l : List ℕ) (at e : ℕ) → at ≤ length l → drop (min (at + e + 1) (length l)) l ≡ drop (suc e) (drop at l)
behind_is l at e h =
    ⊎_elim
    (λ w. let m : min (at + e + 1) (length l) ≡ at + suc e = omega arith in rw m (sym (drop-drop (suc e) at l)))
    (λ w. let m : min (at + e + 1) (length l) ≡ length l = omega arith in
    rw m (drop_of_length-le l (le_refl _) ∙ sym (drop_of_length-le (drop at l) {i = suc e} (omega (arith, length-drop at l)))))
    (le_or_lt (at + e + 1) (length l))

-- where the next line starts
pub next_line : (block : List ℕ) (at : ℕ) {e next : ℕ} → at ≤ length block → e ≡ line_len (drop at block) → next ≡ min (at + e + 1) (length block)
    → (drop next block ≡ after_line (drop at block)) × (next ≤ length block)
next_line block at {e} {next} h w m =
    (rw (m, behind_is block at e h) (ap (λ (j : ℕ). drop (suc j) (drop at block)) w), omega arith)

-- ---- the numbers, line by line

reads_on : (k : ℕ) (log : List ℕ) → k < 16 → readings (drop k keys) log ≡ line_number (get_or keys k []) log ∷ readings (drop (k + 1) keys) (after_line log)
unfolding readings
reads_on k log h =
    ap (λ (ks : List (List ℕ)). readings ks log) (drop-cons keys k [] h)
    ∙ ap (λ (j : ℕ). line_number (get_or keys k []) log ∷ readings (drop j keys) (after_line log)) (sym (add-one k))

module _ (k : ℕ) (log next : List ℕ) (h : k < 16) (w : next ≡ after_line log) where
  -- a good line
  pub good_turn : {v : ℕ} {all : Bool} → all_values (readings (drop k keys) log) ≡ all → Some v ≡ line_number (get_or keys k []) log
      → all_values (readings (drop (k + 1) keys) next) ≡ all
  good_turn e s =
      rw w
      (ap (λ (x : Option ℕ). both (is_value x) (all_values (readings (drop (k + 1) keys) (after_line log)))) s
      ∙ sym (ap all_values (reads_on k log h))
      ∙ e)

  pub value_turn : (a : List ℕ) {v : ℕ} {all : List ℕ} → k < length a → take k a ++ map value_in (readings (drop k keys) log) ≡ all → v ≡ value_in (line_number (get_or keys k []) log)
      → take (k + 1) (set a k v) ++ map value_in (readings (drop (k + 1) keys) next) ≡ all
  value_turn a {v} {all} l e p =
      store_front a k v (map value_in (readings (drop (k + 1) keys) next)) l
      ∙ rw (p, w) (ap (λ (xs : List (Option ℕ)). take k a ++ map value_in xs) (sym (reads_on k log h)) ∙ e)

-- a line of bad form spoils the block
pub bad_turn : (k : ℕ) (log : List ℕ) {all : Bool} → k < 16 → all_values (readings (drop k keys) log) ≡ all → None ≡ line_number (get_or keys k []) log → all ≡ false
bad_turn k log h e s =
    sym e
    ∙ ap all_values (reads_on k log h)
    ∙ ap (λ (x : Option ℕ). both (is_value x) (all_values (readings (drop (k + 1) keys) (after_line log)))) (sym s)

-- ---- how many bytes the lines use up

pub used_turn : (k : ℕ) (log next : List ℕ) {all : List ℕ} → k < 16 → next ≡ after_line log → after_lines (16 - k) log ≡ all → after_lines (16 - (k + 1)) next ≡ all
used_turn k log next h w e =
    let m : 16 - k ≡ suc (16 - (k + 1)) = omega arith in
    rw w (ap (λ (j : ℕ). after_lines j log) (sym m) ∙ e)

pub used_done : (k : ℕ) (log : List ℕ) {all : List ℕ} → k ≡ 16 → after_lines (16 - k) log ≡ all → log ≡ all
used_done k log e p = rw e at p

reads_end : (log : List ℕ) → readings (drop 16 keys) log ≡ []
unfolding readings
reads_end log = refl

pub good_done : (k : ℕ) (log : List ℕ) {all : Bool} → k ≡ 16 → all_values (readings (drop k keys) log) ≡ all → all ≡ true
good_done k log e p = sym (rw (e, reads_end log) at p)

pub value_done : (k : ℕ) (log a : List ℕ) {all : List ℕ} → k ≡ 16 → length a ≡ 16 → take k a ++ map value_in (readings (drop k keys) log) ≡ all → a ≡ all
value_done k log a e l p = sym (take_all 16 a (omega arith)) ∙ sym (append-nil (take 16 a)) ∙ rw (e, reads_end log) at p
