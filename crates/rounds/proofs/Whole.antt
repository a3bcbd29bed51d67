-- What bytes that come one by one get, each line kept to 33 bytes at most, is the output for the whole input: block after block of sixteen lines, and code 1 for the
-- rest. With proofs/Heard: however the input is chopped. Assumes nothing.
use mathlib.Core.Path.{◌≡◌, refl, sym, ap, ◌∙◌}
use mathlib.Core.Bool.{Bool, true, false}
use mathlib.Core.Logic.{⊎_elim}
use mathlib.Core.List.{List, [], ◌∷◌, ◌++◌, append-nil}
use Prim.Native.Nat.{ℕ, zero, suc, ◌≤◌, ◌<◌}
use native.Mathlib.Omega.{arith}
use lib.Dec.{eqb, leb}
use lib.ListN.{length, length-append}
use borrow.Author.Tests.{ne_eqb, leb-true, leb-false}
use Rattle.std.specs.Prelude.{Option}
use Rattle.laws.specs.Tests.{pick}
use Rattle.laws.proofs.Tests.{test}
use Rattle.text.specs.Number.{number_of}
use Rattle.text.specs.Line.{after_line, line_number, after_lines}
use Rattle.cuts.proofs.Lines.{cap, lfs, keep_all, keep_append, cap_lf, cap_in, snoc, kept_bytes, lfs_lf, lfs_on, kept_lines, value_same, cap_after, cap_value, lfs_append, after_front, lfs_after, front_line, lines_none, lines_last}
use Rattle.rounds.specs.RoundText.{keys, readings, good_form, numbers_of}
use Rattle.rounds.specs.RoundAnswer.{answer_bytes, output_from, output_of}
use Rattle.rounds.specs.RoundParts.{Kept, nothing, close_bytes, heard_from}

-- ---- an answer depends on the readings of the lines alone
answer_same : (x y : List ℕ) → readings keys x ≡ readings keys y → answer_bytes x ≡ answer_bytes y
unfolding answer_bytes good_form numbers_of
answer_same x y e = rw e

reads_cut : (ks : List (List ℕ)) (l : List ℕ) → readings ks (cap 0 l) ≡ readings ks l
unfolding readings
reads_cut [] l = refl
reads_cut (k ∷ ks) l =
    ap (λ (v : List ℕ). number_of v ∷ readings ks (after_line (cap 0 l))) (cap_value k l)
    ∙ ap (λ (m : List ℕ). line_number k l ∷ readings ks m) (cap_after 0 l)
    ∙ ap (λ (r : List (Option ℕ)). line_number k l ∷ r) (reads_cut ks (after_line l))

-- as many LFs as there are keys: what follows them is not read
reads_front : (ks : List (List ℕ)) (xs rest : List ℕ) → length ks ≤ lfs xs → readings ks (xs ++ rest) ≡ readings ks xs
unfolding readings
reads_front [] xs rest h = refl
reads_front (k ∷ ks) xs rest h =
    let r = front_line xs rest (omega arith) in
    ap (λ (v : List ℕ). number_of v ∷ readings ks (after_line (xs ++ rest))) (value_same k (xs ++ rest) xs r.0 r.1 r.2)
    ∙ ap (λ (m : List ℕ). line_number k xs ∷ readings ks m) (after_front xs rest (omega arith))
    ∙ ap (λ (n : List (Option ℕ)). line_number k xs ∷ n) (reads_front ks (after_line xs) rest (omega (arith, lfs_after xs (omega arith))))

-- what is kept at the bytes raw is raw, cut
pub kept_cut : (raw : List ℕ) → (keep_all nothing raw).bytes ≡ cap 0 raw
kept_cut raw = kept_bytes nothing raw

cut_answer : (l : List ℕ) → answer_bytes (cap 0 l) ≡ answer_bytes l
cut_answer l = answer_same (cap 0 l) l (reads_cut keys l)

-- the block that ends with b
pub ended_answer : (raw bs : List ℕ) (b : ℕ) → 16 ≤ lfs (raw ++ (b ∷ [])) → answer_bytes (cap 0 (raw ++ (b ∷ []))) ≡ answer_bytes (raw ++ (b ∷ bs))
ended_answer raw bs b h =
    cut_answer (raw ++ (b ∷ []))
    ∙ answer_same (raw ++ (b ∷ [])) ((raw ++ (b ∷ [])) ++ bs) (sym (reads_front keys (raw ++ (b ∷ [])) bs h))
    ∙ ap answer_bytes (snoc raw bs b)

-- ---- block after block

output_one : (k : ℕ) (log : List ℕ) → 0 < length log → output_from (suc k) log ≡ answer_bytes log ++ output_from k (after_lines 16 log)
unfolding output_from
output_one k log h = rw (ne_eqb (length log) 0 (λ z. omega arith))

output_none : (k : ℕ) (log : List ℕ) → log ≡ [] → output_from k log ≡ []
unfolding output_from
output_none zero log e = refl
output_none (suc k) log e = rw e

cut_some : (b : ℕ) (l : List ℕ) → 0 < length (cap 0 (b ∷ l))
cut_some b l = ⊎_elim (λ e. omega (arith, ap length (cap_lf 0 b l e))) (λ e. omega (arith, ap length (cap_in 0 b l e refl))) (test (eqb b 10))

close_is : (k : ℕ) (raw : List ℕ) → lfs raw < 16 → length raw ≤ k → close_bytes (keep_all nothing raw) ≡ output_from k raw
unfolding close_bytes
close_is k [] h p = sym (output_none k [] refl)
close_is zero (b ∷ raw) h p = absurd (omega arith)
close_is (suc k) (b ∷ raw) h p =
    let l : List ℕ = b ∷ raw in
    ap (λ (x : List ℕ). pick (eqb (length x) 0) [] (answer_bytes x)) (kept_cut l)
    ∙ ap (λ (x : Bool). pick x [] (answer_bytes (cap 0 l))) (ne_eqb (length (cap 0 l)) 0 (λ z. omega (arith, cut_some b raw)))
    ∙ cut_answer l
    ∙ sym (append-nil (answer_bytes l))
    ∙ ap (λ (x : List ℕ). answer_bytes l ++ x) (sym (output_none k (after_lines 16 l) (lines_none 16 l h)))
    ∙ sym (output_one k l (omega arith))

some : (raw bs : List ℕ) (b : ℕ) → 0 < length (raw ++ (b ∷ bs))
some raw bs b = omega (arith, length-append raw (b ∷ bs))

-- only an LF adds one to the LFs
pub last_lf : (raw : List ℕ) (b : ℕ) → lfs raw < 16 → 16 ≤ lfs (raw ++ (b ∷ [])) → eqb b 10 ≡ true
last_lf raw b h all = ⊎_elim (λ e. e) (λ e. absurd (omega (arith, lfs_append raw (b ∷ []), lfs_on b [] e))) (test (eqb b 10))

-- a byte that ends a block
whole_step : (k : ℕ) (raw bs : List ℕ) (b : ℕ) → lfs raw < 16 → 16 ≤ lfs (raw ++ (b ∷ [])) → heard_from nothing bs ≡ output_from k bs
    → answer_bytes (keep_all nothing (raw ++ (b ∷ []))).bytes ++ heard_from nothing bs ≡ output_from (suc k) (raw ++ (b ∷ bs))
whole_step k raw bs b h all r =
    let lf : eqb b 10 ≡ true = last_lf raw b h all in
    let but-one : lfs raw ≡ 15 = omega (arith, lfs_append raw (b ∷ []), lfs_lf b [] lf) in
    ap (λ (x : List ℕ). answer_bytes x ++ heard_from nothing bs) (kept_cut (raw ++ (b ∷ [])))
    ∙ ap (λ (x : List ℕ). x ++ heard_from nothing bs) (ended_answer raw bs b all)
    ∙ ap (λ (x : List ℕ). answer_bytes (raw ++ (b ∷ bs)) ++ x) r
    ∙ ap (λ (x : List ℕ). answer_bytes (raw ++ (b ∷ bs)) ++ output_from k x) (sym (lines_last 15 b raw bs lf but-one))
    ∙ sym (output_one k (raw ++ (b ∷ bs)) (some raw bs b))

-- a byte
step : (k : ℕ) (raw bs : List ℕ) (b : ℕ) → lfs raw < 16 → heard_from nothing bs ≡ output_from k bs
    → (lfs (raw ++ (b ∷ [])) < 16 → heard_from (keep_all nothing (raw ++ (b ∷ []))) bs ≡ output_from (suc k) ((raw ++ (b ∷ [])) ++ bs))
    → heard_from (keep_all nothing raw) (b ∷ bs) ≡ output_from (suc k) (raw ++ (b ∷ bs))
step k raw bs b h one on =
    ap (λ (x : Kept). pick (leb 16 x.lines) (answer_bytes x.bytes ++ heard_from nothing bs) (heard_from x bs)) (sym (keep_append nothing raw (b ∷ [])))
    ∙ go (leb 16 (keep_all nothing (raw ++ (b ∷ []))).lines) refl
  where
    go : (t : Bool) → leb 16 (keep_all nothing (raw ++ (b ∷ []))).lines ≡ t
        → pick t (answer_bytes (keep_all nothing (raw ++ (b ∷ []))).bytes ++ heard_from nothing bs) (heard_from (keep_all nothing (raw ++ (b ∷ []))) bs) ≡ output_from (suc k) (raw ++ (b ∷ bs))
    go true e = whole_step k raw bs b h (omega (arith, kept_lines nothing (raw ++ (b ∷ [])), leb-true 16 (keep_all nothing (raw ++ (b ∷ []))).lines e)) one
    go false e =
        on (omega (arith, kept_lines nothing (raw ++ (b ∷ [])), leb-false 16 (keep_all nothing (raw ++ (b ∷ []))).lines e))
        ∙ ap (output_from (suc k)) (snoc raw bs b)

heard_is : (k : ℕ) (raw bs : List ℕ) → lfs raw < 16 → length (raw ++ bs) ≤ k → heard_from (keep_all nothing raw) bs ≡ output_from k (raw ++ bs)
heard_is k raw [] h p = close_is k raw h (omega (arith, ap length (append-nil raw))) ∙ ap (output_from k) (sym (append-nil raw))
heard_is zero raw (b ∷ bs) h p = absurd (omega (arith, some raw bs b))
heard_is (suc k) raw (b ∷ bs) h p =
    step k raw bs b h (heard_is k [] bs (omega arith) (omega (arith, length-append raw (b ∷ bs))))
    (λ few. heard_is (suc k) (raw ++ (b ∷ [])) bs few (omega (arith, ap length (snoc raw bs b))))

-- for any input
pub heard_whole : (log : List ℕ) → heard_from nothing log ≡ output_of log
unfolding output_of
heard_whole log = heard_is (length log) [] log (omega arith) (omega arith)
