-- What is kept of an unfinished block, each line cut after 33 bytes, reads as the block itself does: lines, keys, values, and what follows a fifth LF.
-- For any bytes. Assumes nothing.
use mathlib.Core.Path.{◌≡◌, refl, sym, ap, ◌∙◌}
use mathlib.Core.List.{List, [], ◌∷◌, ◌++◌, append_assoc, append-nil}
use mathlib.Core.Bool.{Bool, true, false}
use mathlib.Core.Logic.{⊎_elim}
use Prim.Native.Nat.{ℕ, zero, suc, ◌+◌, ◌≤◌, ◌<◌}
use native.Mathlib.Omega.{arith}
use lib.ListN.{length, drop, length-take, drop_of_length-le}
use lib.Dec.{eqb, ltb, leb}
use borrow.Author.Tests.{ne_eqb, ltb-true, ltb-false, lt-ltb, le-ltb, leb-true, leb-false, lt-leb}
use Rattle.laws.specs.Tests.{pick, both}
use Rattle.text.specs.Line.{line_len, line_of, after_line, line_ended, has_key, value_of, after_lines}
use Rattle.blocks.specs.Block.{block_of}
use Rattle.lines.specs.Kept.{Kept, bad_of, keep_of, keep_all}
use Rattle.laws.proofs.Tests.{test}

-- ---- what is kept, as a function of the bytes since the block began

-- the bytes with each line cut after 33; w of the first line's bytes went before
abbrev pub cap : ℕ → List ℕ → List ℕ
cap w [] = []
cap w (b ∷ bs) = pick (eqb b 10) (b ∷ cap 0 bs) (pick (ltb w 33) (b ∷ cap (w + 1) bs) (cap w bs))

abbrev pub lfs : List ℕ → ℕ
lfs [] = 0
lfs (b ∷ bs) = pick (eqb b 10) (suc (lfs bs)) (lfs bs)

pub keep_append : (k : Kept) (xs ys : List ℕ) → keep_all k (xs ++ ys) ≡ keep_all (keep_all k xs) ys
keep_append k [] ys = refl
keep_append k (x ∷ xs) ys = keep_append (keep_of k x) xs ys

-- the three cases of a byte
pub keep_lf : (k : Kept) (b : ℕ) → eqb b 10 ≡ true → keep_of k b ≡ record { bytes = k.bytes ++ (b ∷ []); lines = k.lines + 1; width = 0; bad = k.bad }
unfolding keep_of
keep_lf k b e = rw e

pub keep_in : (k : Kept) (b : ℕ) → eqb b 10 ≡ false → ltb k.width 33 ≡ true → keep_of k b ≡ record { bytes = k.bytes ++ (b ∷ []); lines = k.lines; width = k.width + 1; bad = bad_of k.width k.bad }
unfolding keep_of
keep_in k b e f = ap (λ (x : Bool). pick x (record { bytes = k.bytes ++ (b ∷ []); lines = k.lines + 1; width = 0; bad = k.bad }) (pick (ltb k.width 33) (record { bytes = k.bytes ++ (b ∷ []); lines = k.lines; width = k.width + 1; bad = bad_of k.width k.bad }) k)) e
    ∙ ap (λ (x : Bool). pick x (record { bytes = k.bytes ++ (b ∷ []); lines = k.lines; width = k.width + 1; bad = bad_of k.width k.bad }) k) f

pub keep_out : (k : Kept) (b : ℕ) → eqb b 10 ≡ false → ltb k.width 33 ≡ false → keep_of k b ≡ k
unfolding keep_of
keep_out k b e f = ap (λ (x : Bool). pick x (record { bytes = k.bytes ++ (b ∷ []); lines = k.lines + 1; width = 0; bad = k.bad }) (pick (ltb k.width 33) (record { bytes = k.bytes ++ (b ∷ []); lines = k.lines; width = k.width + 1; bad = bad_of k.width k.bad }) k)) e
    ∙ ap (λ (x : Bool). pick x (record { bytes = k.bytes ++ (b ∷ []); lines = k.lines; width = k.width + 1; bad = bad_of k.width k.bad }) k) f

pub cap_lf : (w b : ℕ) (bs : List ℕ) → eqb b 10 ≡ true → cap w (b ∷ bs) ≡ b ∷ cap 0 bs
cap_lf w b bs e = rw e

pub cap_in : (w b : ℕ) (bs : List ℕ) → eqb b 10 ≡ false → ltb w 33 ≡ true → cap w (b ∷ bs) ≡ b ∷ cap (w + 1) bs
cap_in w b bs e f = rw (e, f)

pub cap_out : (w b : ℕ) (bs : List ℕ) → eqb b 10 ≡ false → ltb w 33 ≡ false → cap w (b ∷ bs) ≡ cap w bs
cap_out w b bs e f = rw (e, f)

pub snoc : (xs ys : List ℕ) (b : ℕ) → (xs ++ (b ∷ [])) ++ ys ≡ xs ++ (b ∷ ys)
snoc xs ys b = append_assoc xs (b ∷ []) ys

pub kept_bytes : (k : Kept) (bs : List ℕ) → (keep_all k bs).bytes ≡ k.bytes ++ cap k.width bs
kept_bytes k [] = sym (append-nil k.bytes)
kept_bytes k (b ∷ bs) =
    ⊎_elim
    (λ e. ap (λ (x : Kept). (keep_all x bs).bytes) (keep_lf k b e) ∙ kept_bytes (record { bytes = k.bytes ++ (b ∷ []); lines = k.lines + 1; width = 0; bad = k.bad }) bs
    ∙ snoc k.bytes (cap 0 bs) b ∙ ap (λ (x : List ℕ). k.bytes ++ x) (sym (cap_lf k.width b bs e)))
    (λ e. ⊎_elim
    (λ f. ap (λ (x : Kept). (keep_all x bs).bytes) (keep_in k b e f) ∙ kept_bytes (record { bytes = k.bytes ++ (b ∷ []); lines = k.lines; width = k.width + 1; bad = bad_of k.width k.bad }) bs
    ∙ snoc k.bytes (cap (k.width + 1) bs) b ∙ ap (λ (x : List ℕ). k.bytes ++ x) (sym (cap_in k.width b bs e f)))
    (λ f. ap (λ (x : Kept). (keep_all x bs).bytes) (keep_out k b e f) ∙ kept_bytes k bs ∙ ap (λ (x : List ℕ). k.bytes ++ x) (sym (cap_out k.width b bs e f)))
    (test (ltb k.width 33)))
    (test (eqb b 10))

pub lfs_lf : (b : ℕ) (bs : List ℕ) → eqb b 10 ≡ true → lfs (b ∷ bs) ≡ suc (lfs bs)
lfs_lf b bs e = rw e

pub lfs_on : (b : ℕ) (bs : List ℕ) → eqb b 10 ≡ false → lfs (b ∷ bs) ≡ lfs bs
lfs_on b bs e = rw e

pub kept_lines : (k : Kept) (bs : List ℕ) → (keep_all k bs).lines ≡ k.lines + lfs bs
kept_lines k [] = omega arith
kept_lines k (b ∷ bs) =
    ⊎_elim
    (λ e. let r = kept_lines (record { bytes = k.bytes ++ (b ∷ []); lines = k.lines + 1; width = 0; bad = k.bad }) bs in
    ap (λ (x : Kept). (keep_all x bs).lines) (keep_lf k b e) ∙ omega (arith, r, lfs_lf b bs e))
    (λ e. ⊎_elim
    (λ f. let r = kept_lines (record { bytes = k.bytes ++ (b ∷ []); lines = k.lines; width = k.width + 1; bad = bad_of k.width k.bad }) bs in
    ap (λ (x : Kept). (keep_all x bs).lines) (keep_in k b e f) ∙ omega (arith, r, lfs_on b bs e))
    (λ f. ap (λ (x : Kept). (keep_all x bs).lines) (keep_out k b e f) ∙ omega (arith, kept_lines k bs, lfs_on b bs e))
    (test (ltb k.width 33)))
    (test (eqb b 10))

-- ---- lines, byte by byte

pub len_lf : (b : ℕ) (l : List ℕ) → eqb b 10 ≡ true → line_len (b ∷ l) ≡ 0
len_lf b l e = rw e

pub len_on : (b : ℕ) (l : List ℕ) → eqb b 10 ≡ false → line_len (b ∷ l) ≡ suc (line_len l)
len_on b l e = rw e

pub after_lf : (b : ℕ) (l : List ℕ) → eqb b 10 ≡ true → after_line (b ∷ l) ≡ l
after_lf b l e = rw e

pub after_on : (b : ℕ) (l : List ℕ) → eqb b 10 ≡ false → after_line (b ∷ l) ≡ after_line l
after_on b l e = rw e

pub line_lf : (b : ℕ) (l : List ℕ) → eqb b 10 ≡ true → line_of (b ∷ l) ≡ []
line_lf b l e = rw e

pub line_on : (b : ℕ) (l : List ℕ) → eqb b 10 ≡ false → line_of (b ∷ l) ≡ b ∷ line_of l
line_on b l e = rw e

-- whether the first line is ended
abbrev pub ended : List ℕ → Bool
ended [] = false
ended (b ∷ bs) = pick (eqb b 10) true (ended bs)

pub suc_ltb : (a b : ℕ) → ltb (suc a) (suc b) ≡ ltb a b
suc_ltb a b = ⊎_elim (λ e. lt-ltb (suc a) (suc b) (omega (arith, ltb-true a b e)) ∙ sym e) (λ e. le-ltb (suc a) (suc b) (omega (arith, ltb-false a b e)) ∙ sym e) (test (ltb a b))

pub ended_is : (l : List ℕ) → ltb (line_len l) (length l) ≡ ended l
ended_is [] = refl
ended_is (b ∷ l) = ⊎_elim
    (λ e. ap (λ (x : ℕ). ltb x (suc (length l))) (len_lf b l e) ∙ lt-ltb 0 (suc (length l)) (omega arith) ∙ sym (ap (λ (x : Bool). pick x true (ended l)) e))
    (λ e. ap (λ (x : ℕ). ltb x (suc (length l))) (len_on b l e) ∙ suc_ltb (line_len l) (length l) ∙ ended_is l ∙ sym (ap (λ (x : Bool). pick x true (ended l)) e))
    (test (eqb b 10))

-- the value of a first line depends on the line, its length and whether it is ended
pub value_same : (key x y : List ℕ) → line_of x ≡ line_of y → line_len x ≡ line_len y → ended x ≡ ended y → value_of key x ≡ value_of key y
unfolding value_of
value_same key x y p q e =
    let f : ltb (line_len x) (length x) ≡ ltb (line_len y) (length y) = ended_is x ∙ e ∙ sym (ended_is y) in
    ap (λ (t : Bool). drop (pick (both (both t (leb (line_len x) 32)) (has_key key (line_of x))) (length key + 1) (line_len x)) (line_of x)) f
    ∙ ap (λ (n : ℕ). drop (pick (both (both (ltb (line_len y) (length y)) (leb n 32)) (has_key key (line_of x))) (length key + 1) n) (line_of x)) q
    ∙ ap (λ (l : List ℕ). drop (pick (both (both (ltb (line_len y) (length y)) (leb (line_len y) 32)) (has_key key l)) (length key + 1) (line_len y)) l) p

pub both_no : (t : Bool) → both t false ≡ false
both_no true = refl
both_no false = refl

pub value_long : (key x : List ℕ) → 32 < line_len x → value_of key x ≡ []
unfolding value_of
value_long key x h =
    let e : line_ended x ≡ false = ap (λ (t : Bool). both (ltb (line_len x) (length x)) t) (lt-leb (line_len x) 32 h) ∙ both_no (ltb (line_len x) (length x)) in
    ap (λ (t : Bool). drop (pick (both t (has_key key (line_of x))) (length key + 1) (line_len x)) (line_of x)) e
    ∙ drop_of_length-le (line_of x) {i = line_len x} (omega (arith, length-take (line_len x) x))

-- ---- cutting lines after 33 bytes changes no value

pub cap_line : (w : ℕ) (l : List ℕ) → w + line_len l ≤ 33 → (line_of (cap w l) ≡ line_of l) × (line_len (cap w l) ≡ line_len l)
cap_line w [] h = (refl, refl)
cap_line w (b ∷ l) h = ⊎_elim
    (λ e. (ap line_of (cap_lf w b l e) ∙ line_lf b (cap 0 l) e ∙ sym (line_lf b l e), ap line_len (cap_lf w b l e) ∙ len_lf b (cap 0 l) e ∙ sym (len_lf b l e)))
    (λ e. let n = len_on b l e in
    let f : ltb w 33 ≡ true = lt-ltb w 33 (omega arith) in
    let r = cap_line (w + 1) l (omega arith) in (
      ap line_of (cap_in w b l e f) ∙ line_on b (cap (w + 1) l) e ∙ ap (λ (x : List ℕ). b ∷ x) r.0 ∙ sym (line_on b l e),
      ap line_len (cap_in w b l e f) ∙ len_on b (cap (w + 1) l) e ∙ ap suc r.1 ∙ sym n,
    ))
    (test (eqb b 10))

pub cap_ended : (w : ℕ) (l : List ℕ) → ended (cap w l) ≡ ended l
cap_ended w [] = refl
cap_ended w (b ∷ l) = ⊎_elim
    (λ e. ap ended (cap_lf w b l e) ∙ ap (λ (x : Bool). pick x true (ended (cap 0 l))) e ∙ sym (ap (λ (x : Bool). pick x true (ended l)) e))
    (λ e. ⊎_elim
    (λ f. ap ended (cap_in w b l e f) ∙ ap (λ (x : Bool). pick x true (ended (cap (w + 1) l))) e ∙ cap_ended (w + 1) l ∙ sym (ap (λ (x : Bool). pick x true (ended l)) e))
    (λ f. ap ended (cap_out w b l e f) ∙ cap_ended w l ∙ sym (ap (λ (x : Bool). pick x true (ended l)) e))
    (test (ltb w 33)))
    (test (eqb b 10))

pub cap_long : (w : ℕ) (l : List ℕ) → w ≤ 33 → 33 ≤ w + line_len l → 33 ≤ w + line_len (cap w l)
cap_long w [] p h = h
cap_long w (b ∷ l) p h = ⊎_elim
    (λ e. omega (arith, len_lf b l e))
    (λ e. ⊎_elim
    (λ f. omega (arith, ap line_len (cap_in w b l e f), len_on b (cap (w + 1) l) e, len_on b l e, cap_long (w + 1) l (omega (arith, ltb-true w 33 f)) (omega (arith, len_on b l e))))
    (λ f. omega (arith, ltb-false w 33 f))
    (test (ltb w 33)))
    (test (eqb b 10))

pub cap_after : (w : ℕ) (l : List ℕ) → after_line (cap w l) ≡ cap 0 (after_line l)
cap_after w [] = refl
cap_after w (b ∷ l) = ⊎_elim
    (λ e. ap after_line (cap_lf w b l e) ∙ after_lf b (cap 0 l) e ∙ ap (cap 0) (sym (after_lf b l e)))
    (λ e. ⊎_elim
    (λ f. ap after_line (cap_in w b l e f) ∙ after_on b (cap (w + 1) l) e ∙ cap_after (w + 1) l ∙ ap (cap 0) (sym (after_on b l e)))
    (λ f. ap after_line (cap_out w b l e f) ∙ cap_after w l ∙ ap (cap 0) (sym (after_on b l e)))
    (test (ltb w 33)))
    (test (eqb b 10))

pub cap_lines : (i : ℕ) (l : List ℕ) → after_lines i (cap 0 l) ≡ cap 0 (after_lines i l)
cap_lines zero l = refl
cap_lines (suc i) l = ap (after_lines i) (cap_after 0 l) ∙ cap_lines i (after_line l)

pub cap_value : (key l : List ℕ) → value_of key (cap 0 l) ≡ value_of key l
cap_value key l = ⊎_elim
    (λ e. let h : line_len l ≤ 32 = leb-true (line_len l) 32 e in
    let r = cap_line 0 l (omega arith) in
    value_same key (cap 0 l) l r.0 r.1 (cap_ended 0 l))
    (λ e. let h : 32 < line_len l = leb-false (line_len l) 32 e in
    let r = cap_long 0 l (omega arith) (omega arith) in
    value_long key (cap 0 l) (omega arith) ∙ sym (value_long key l h))
    (test (leb (line_len l) 32))

-- ---- a block depends on the values of its five lines

pub same_block : (x y : List ℕ) → (length x ≡ 0 → ⊥) → (length y ≡ 0 → ⊥) → ((i : ℕ) (key : List ℕ) → i ≤ 4 → value_of key (after_lines i x) ≡ value_of key (after_lines i y)) → block_of x ≡ block_of y
unfolding block_of
same_block x y p q v =
    rw (ne_eqb (length x) 0 p, ne_eqb (length y) 0 q, v 0 (110 ∷ []) (omega arith), v 1 (100 ∷ 111 ∷ []) (omega arith), v 2 (115 ∷ 101 ∷ 97 ∷ 116 ∷ []) (omega arith), v 3 (97 ∷ []) (omega arith), v 4 (98 ∷ []) (omega arith))

pub cap_block : (b : ℕ) (l : List ℕ) → block_of (cap 0 (b ∷ l)) ≡ block_of (b ∷ l)
cap_block b l =
    same_block (cap 0 (b ∷ l)) (b ∷ l)
    (⊎_elim (λ e. λ z. omega (arith, ap length (cap_lf 0 b l e))) (λ e. λ z. omega (arith, ap length (cap_in 0 b l e refl))) (test (eqb b 10)))
    (λ z. omega arith)
    (λ i key h. ap (value_of key) (cap_lines i (b ∷ l)) ∙ cap_value key (after_lines i (b ∷ l)))

-- ---- what follows the first LF of a list that has one is not touched by what stands before it

pub lfs_append : (xs ys : List ℕ) → lfs (xs ++ ys) ≡ lfs xs + lfs ys
lfs_append [] ys = omega arith
lfs_append (b ∷ xs) ys = ⊎_elim
    (λ e. omega (arith, lfs_lf b (xs ++ ys) e, lfs_lf b xs e, lfs_append xs ys))
    (λ e. omega (arith, lfs_on b (xs ++ ys) e, lfs_on b xs e, lfs_append xs ys))
    (test (eqb b 10))

pub after_front : (raw rest : List ℕ) → 1 ≤ lfs raw → after_line (raw ++ rest) ≡ after_line raw ++ rest
after_front [] rest h = absurd (omega arith)
after_front (b ∷ raw) rest h = ⊎_elim
    (λ e. after_lf b (raw ++ rest) e ∙ ap (λ (x : List ℕ). x ++ rest) (sym (after_lf b raw e)))
    (λ e. after_on b (raw ++ rest) e ∙ after_front raw rest (omega (arith, lfs_on b raw e)) ∙ ap (λ (x : List ℕ). x ++ rest) (sym (after_on b raw e)))
    (test (eqb b 10))

pub lfs_after : (raw : List ℕ) → 1 ≤ lfs raw → lfs (after_line raw) + 1 ≡ lfs raw
lfs_after [] h = absurd (omega arith)
lfs_after (b ∷ raw) h = ⊎_elim
    (λ e. omega (arith, ap lfs (after_lf b raw e), lfs_lf b raw e))
    (λ e. omega (arith, ap lfs (after_on b raw e), lfs_on b raw e, lfs_after raw (omega (arith, lfs_on b raw e))))
    (test (eqb b 10))

pub lines_front : (i : ℕ) (raw rest : List ℕ) → i ≤ lfs raw → after_lines i (raw ++ rest) ≡ after_lines i raw ++ rest
lines_front zero raw rest h = refl
lines_front (suc i) raw rest h =
    ap (after_lines i) (after_front raw rest (omega arith)) ∙ lines_front i (after_line raw) rest (omega (arith, lfs_after raw (omega arith)))

pub lines_lfs : (i : ℕ) (raw : List ℕ) → i ≤ lfs raw → lfs (after_lines i raw) + i ≡ lfs raw
lines_lfs zero raw h = omega arith
lines_lfs (suc i) raw h = omega (arith, lfs_after raw (omega arith), lines_lfs i (after_line raw) (omega (arith, lfs_after raw (omega arith))))

-- a line that is ended within xs is the same whatever follows xs
pub front_line : (xs rest : List ℕ) → 1 ≤ lfs xs → (line_of (xs ++ rest) ≡ line_of xs) × (line_len (xs ++ rest) ≡ line_len xs) × (ended (xs ++ rest) ≡ ended xs)
front_line [] rest h = absurd (omega arith)
front_line (b ∷ xs) rest h = ⊎_elim
    (λ e. (
      line_lf b (xs ++ rest) e ∙ sym (line_lf b xs e),
      len_lf b (xs ++ rest) e ∙ sym (len_lf b xs e),
      ap (λ (x : Bool). pick x true (ended (xs ++ rest))) e ∙ sym (ap (λ (x : Bool). pick x true (ended xs)) e),
    ))
    (λ e. let r = front_line xs rest (omega (arith, lfs_on b xs e)) in (
      line_on b (xs ++ rest) e ∙ ap (λ (x : List ℕ). b ∷ x) r.0 ∙ sym (line_on b xs e),
      len_on b (xs ++ rest) e ∙ ap suc r.1 ∙ sym (len_on b xs e),
      ap (λ (x : Bool). pick x true (ended (xs ++ rest))) e ∙ r.2 ∙ sym (ap (λ (x : Bool). pick x true (ended xs)) e),
    ))
    (test (eqb b 10))

-- five LFs make a block, whatever follows
pub front_block : (xs rest : List ℕ) → 5 ≤ lfs xs → block_of (xs ++ rest) ≡ block_of xs
front_block [] rest h = absurd (omega arith)
front_block (b ∷ xs) rest h =
    same_block ((b ∷ xs) ++ rest) (b ∷ xs) (λ z. omega arith) (λ z. omega arith)
    (λ i key k.
    let r = front_line (after_lines i (b ∷ xs)) rest (omega (arith, lines_lfs i (b ∷ xs) (omega arith))) in
    ap (value_of key) (lines_front i (b ∷ xs) rest (omega arith)) ∙ value_same key (after_lines i (b ∷ xs) ++ rest) (after_lines i (b ∷ xs)) r.0 r.1 r.2)

-- what follows the last of k LFs
pub lines_none : (k : ℕ) (raw : List ℕ) → lfs raw < k → after_lines k raw ≡ []
lines_none zero raw h = absurd (omega arith)
lines_none (suc k) [] h = none k
  where
    none : (j : ℕ) → after_lines j [] ≡ []
    none zero = refl
    none (suc j) = none j
lines_none (suc k) (b ∷ raw) h = ⊎_elim
    (λ e. ap (after_lines k) (after_lf b raw e) ∙ lines_none k raw (omega (arith, lfs_lf b raw e)))
    (λ e. ap (after_lines k) (after_on b raw e) ∙ lines_none (suc k) raw (omega (arith, lfs_on b raw e)))
    (test (eqb b 10))

pub lines_last : (k b : ℕ) (raw rest : List ℕ) → eqb b 10 ≡ true → lfs raw ≡ k → after_lines (suc k) (raw ++ (b ∷ rest)) ≡ rest
lines_last k b [] rest q e = rw (sym e) (after_lf b rest q)
lines_last k b (c ∷ raw) rest q e = ⊎_elim
    (λ f. let j = lfs raw in
    let d : k ≡ suc j = omega (arith, lfs_lf c raw f) in
    ap (λ (x : ℕ). after_lines (suc x) ((c ∷ raw) ++ (b ∷ rest))) d ∙ ap (after_lines (suc j)) (after_lf c (raw ++ (b ∷ rest)) f) ∙ lines_last j b raw rest q refl)
    (λ f. ap (after_lines k) (after_on c (raw ++ (b ∷ rest)) f) ∙ lines_last k b raw rest q (omega (arith, lfs_on c raw f)))
    (test (eqb c 10))
