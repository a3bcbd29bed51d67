-- A line that is read as a number is the line that is written for it: the form and the value determine each other. Assumes nothing.
use mathlib.Core.Path.{◌≡◌, refl, sym, ap, ◌∙◌}
use mathlib.Core.List.{List, [], ◌∷◌, ◌++◌}
use mathlib.Core.Bool.{Bool, true, false}
use mathlib.Core.Logic.{⊎_elim}
use Prim.Native.Nat.{ℕ, suc, ◌+◌, ◌<◌}
use native.Mathlib.Numerals.{add-one}
use native.Mathlib.Nat.{le_of_eq}
use native.Mathlib.Omega.{arith}
use lib.ListN.{length, get_or, drop, take-append-drop, drop_of_length-le, get_or-eq_default}
use lib.Seq.{drop-cons, length-take-le}
use lib.Dec.{eqb, leb, ltb}
use borrow.Author.Tests.{eqb-true, ltb-true, leb-true, leb-false}
use Rattle.std.specs.Prelude.{Some, None}
use Rattle.laws.specs.Tests.{pick, both}
use Rattle.laws.proofs.Tests.{both_true, test}
use Rattle.text.specs.Number.{number_of}
use Rattle.text.specs.Line.{line_len, line_of, after_line, line_ended, starts_with, has_key, value_of, line_number, number_line}
use Rattle.text.proofs.Numbers.{number_back, number_none}
use Rattle.text.proofs.Lines.{line_within}
use Rattle.text.proofs.RoundTrip.{line_shape}

-- a line that is ended is ended by an LF
ended_lf : (l : List ℕ) → line_len l < length l → get_or l (line_len l) 0 ≡ 10
ended_lf [] h = absurd (omega arith)
ended_lf (b ∷ l) h = go (eqb b 10) refl h (λ k. ended_lf l k)
  where
    go : (t : Bool) → eqb b 10 ≡ t → pick t 0 (suc (line_len l)) < suc (length l) → (line_len l < length l → get_or l (line_len l) 0 ≡ 10)
        → get_or (b ∷ l) (pick t 0 (suc (line_len l))) 0 ≡ 10
    go true e k r = eqb-true b 10 e
    go false e k r = r (omega arith)

-- a line that begins with a key is the key and what follows it
starts_is : (key l : List ℕ) → starts_with key l ≡ true → key ++ drop (length key) l ≡ l
starts_is [] l e = refl
starts_is (k ∷ key) [] e = let z : ◌≡◌ {A = ℕ} 0 1 = cc in absurd (omega arith)
starts_is (k ∷ key) (b ∷ l) e =
    let p = both_true (eqb k b) (starts_with key l) e in
    let s : k ≡ b = eqb-true k b p.0 in
    let r = starts_is key l p.1 in
    cc

-- behind the key stands `=`
pub key_is : (key line : List ℕ) → has_key key line ≡ true → key ++ (61 ∷ drop (length key + 1) line) ≡ line
key_is key line e =
    let p = both_true (starts_with key line) (eqb (get_or line (length key) 0) 61) e in
    let q : get_or line (length key) 0 ≡ 61 = eqb-true _ 61 p.1 in
    let h : length key < length line =
    ⊎_elim (λ t. absurd (omega (arith, get_or-eq_default line 0 (leb-true (length line) (length key) t)))) (λ t. leb-false _ _ t) (test (leb (length line) (length key))) in
    ap (λ (r : List ℕ). key ++ r) (rw (add-one (length key), ← q) (sym (drop-cons line (length key) 0 h))) ∙ starts_is key line p.0

-- the whole log, where its first line is ended
split_line : (log : List ℕ) → line_len log < length log → line_of log ++ (10 ∷ after_line log) ≡ log
split_line log h =
    rw (← ended_lf log h, ← drop-cons log (line_len log) 0 h) (take-append-drop (line_len log) log)

-- bytes that are the value of a log's first line stand behind its key and `=` and before its LF
pub value_back : (key log : List ℕ) → 0 < length (value_of key log) → log ≡ key ++ (61 ∷ value_of key log) ++ (10 ∷ after_line log)
unfolding value_of
value_back key log h = go (both (line_ended log) (has_key key (line_of log))) refl h
  where
    go : (t : Bool) → both (line_ended log) (has_key key (line_of log)) ≡ t → 0 < length (drop (pick t (length key + 1) (line_len log)) (line_of log))
        → log ≡ key ++ (61 ∷ drop (pick t (length key + 1) (line_len log)) (line_of log)) ++ (10 ∷ after_line log)
    go false w p =
        let none = ap length (drop_of_length-le (line_of log) {i = line_len log} (le_of_eq (length-take-le (line_len log) log (line_within log)))) in
        absurd (omega arith)
    go true w p =
        let q = both_true (line_ended log) (has_key key (line_of log)) w in
        let e : line_len log < length log = ltb-true _ _ (both_true (ltb (line_len log) (length log)) (leb (line_len log) 32) q.0).0 in
        sym (split_line log e) ∙ ap (λ (r : List ℕ). r ++ (10 ∷ after_line log)) (sym (key_is key (line_of log) q.1))

-- a number has a digit
some_digit : (bs : List ℕ) (n : ℕ) → number_of bs ≡ Some n → 0 < length bs
some_digit [] n e =
    let b : number_of [] ≡ None = number_none [] refl in
    let z : ◌≡◌ {A = ℕ} 0 1 = cc in absurd (omega arith)
some_digit (b ∷ bs) n e = omega arith

pub line_back : (key log : List ℕ) (n : ℕ) → line_number key log ≡ Some n → log ≡ number_line key n ++ after_line log
line_back key log n e =
    value_back key log (some_digit (value_of key log) n e)
    ∙ ap (λ (r : List ℕ). key ++ (61 ∷ r) ++ (10 ∷ after_line log)) (number_back (value_of key log) n e).0
    ∙ sym (line_shape key (after_line log) n)
