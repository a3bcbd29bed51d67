-- What is kept of an unfinished round, each line cut after 33 bytes: the bytes with their lines cut, and as many LFs. The laws of cut lines themselves are those
-- of `lines`, for any bytes and any number of lines. Assumes nothing.
use mathlib.Core.Path.{◌≡◌, refl, sym, ap, ◌∙◌}
use mathlib.Core.List.{List, [], ◌∷◌, ◌++◌, append-nil}
use mathlib.Core.Bool.{Bool, true, false}
use mathlib.Core.Logic.{⊎_elim}
use Prim.Native.Nat.{ℕ, ◌+◌}
use native.Mathlib.Omega.{arith}
use lib.Dec.{eqb, ltb}
use Rattle.laws.specs.Tests.{pick}
use Rattle.laws.proofs.Tests.{test}
use Rattle.cuts.specs.Kept.{Kept, keep_of}
pub use Rattle.lines.proofs.Cut.{cap, lfs, cap_lf, cap_in, cap_out, snoc, lfs_lf, lfs_on, len_lf, len_on, after_lf, after_on, line_lf, line_on, ended, suc_ltb, ended_is, value_same, both_no, value_long, cap_line, cap_ended, cap_long, cap_after, cap_lines, cap_value, lfs_append, after_front, lfs_after, lines_front, lines_lfs, front_line, lines_none, lines_last}

-- ---- what is kept, as a function of the bytes since the block began

abbrev pub keep_all : Kept → List ℕ → Kept
keep_all k [] = k
keep_all k (b ∷ bs) = keep_all (keep_of k b) bs

pub keep_append : (k : Kept) (xs ys : List ℕ) → keep_all k (xs ++ ys) ≡ keep_all (keep_all k xs) ys
keep_append k [] ys = refl
keep_append k (x ∷ xs) ys = keep_append (keep_of k x) xs ys

-- the three cases of a byte
pub keep_lf : (k : Kept) (b : ℕ) → eqb b 10 ≡ true → keep_of k b ≡ record { bytes = k.bytes ++ (b ∷ []); lines = k.lines + 1; width = 0 }
unfolding keep_of
keep_lf k b e = rw e

pub keep_in : (k : Kept) (b : ℕ) → eqb b 10 ≡ false → ltb k.width 33 ≡ true → keep_of k b ≡ record { bytes = k.bytes ++ (b ∷ []); lines = k.lines; width = k.width + 1 }
unfolding keep_of
keep_in k b e f = ap (λ (x : Bool). pick x (record { bytes = k.bytes ++ (b ∷ []); lines = k.lines + 1; width = 0 }) (pick (ltb k.width 33) (record { bytes = k.bytes ++ (b ∷ []); lines = k.lines; width = k.width + 1 }) k)) e
    ∙ ap (λ (x : Bool). pick x (record { bytes = k.bytes ++ (b ∷ []); lines = k.lines; width = k.width + 1 }) k) f

pub keep_out : (k : Kept) (b : ℕ) → eqb b 10 ≡ false → ltb k.width 33 ≡ false → keep_of k b ≡ k
unfolding keep_of
keep_out k b e f = ap (λ (x : Bool). pick x (record { bytes = k.bytes ++ (b ∷ []); lines = k.lines + 1; width = 0 }) (pick (ltb k.width 33) (record { bytes = k.bytes ++ (b ∷ []); lines = k.lines; width = k.width + 1 }) k)) e
    ∙ ap (λ (x : Bool). pick x (record { bytes = k.bytes ++ (b ∷ []); lines = k.lines; width = k.width + 1 }) k) f

pub kept_bytes : (k : Kept) (bs : List ℕ) → (keep_all k bs).bytes ≡ k.bytes ++ cap k.width bs
kept_bytes k [] = sym (append-nil k.bytes)
kept_bytes k (b ∷ bs) =
    ⊎_elim
    (λ e. ap (λ (x : Kept). (keep_all x bs).bytes) (keep_lf k b e) ∙ kept_bytes (record { bytes = k.bytes ++ (b ∷ []); lines = k.lines + 1; width = 0 }) bs
    ∙ snoc k.bytes (cap 0 bs) b ∙ ap (λ (x : List ℕ). k.bytes ++ x) (sym (cap_lf k.width b bs e)))
    (λ e. ⊎_elim
    (λ f. ap (λ (x : Kept). (keep_all x bs).bytes) (keep_in k b e f) ∙ kept_bytes (record { bytes = k.bytes ++ (b ∷ []); lines = k.lines; width = k.width + 1 }) bs
    ∙ snoc k.bytes (cap (k.width + 1) bs) b ∙ ap (λ (x : List ℕ). k.bytes ++ x) (sym (cap_in k.width b bs e f)))
    (λ f. ap (λ (x : Kept). (keep_all x bs).bytes) (keep_out k b e f) ∙ kept_bytes k bs ∙ ap (λ (x : List ℕ). k.bytes ++ x) (sym (cap_out k.width b bs e f)))
    (test (ltb k.width 33)))
    (test (eqb b 10))

pub kept_lines : (k : Kept) (bs : List ℕ) → (keep_all k bs).lines ≡ k.lines + lfs bs
kept_lines k [] = omega arith
kept_lines k (b ∷ bs) =
    ⊎_elim
    (λ e. let r = kept_lines (record { bytes = k.bytes ++ (b ∷ []); lines = k.lines + 1; width = 0 }) bs in
    ap (λ (x : Kept). (keep_all x bs).lines) (keep_lf k b e) ∙ omega (arith, r, lfs_lf b bs e))
    (λ e. ⊎_elim
    (λ f. let r = kept_lines (record { bytes = k.bytes ++ (b ∷ []); lines = k.lines; width = k.width + 1 }) bs in
    ap (λ (x : Kept). (keep_all x bs).lines) (keep_in k b e f) ∙ omega (arith, r, lfs_on b bs e))
    (λ f. ap (λ (x : Kept). (keep_all x bs).lines) (keep_out k b e f) ∙ omega (arith, kept_lines k bs, lfs_on b bs e))
    (test (ltb k.width 33)))
    (test (eqb b 10))
