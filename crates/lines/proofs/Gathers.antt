-- What is gathered of a part, for any count of lines: what its bytes do one by one; all of it where it ends no lines; else up to the LF of the last.
-- For any bytes and any cut. Assumes nothing.
use mathlib.Core.Path.{◌≡◌, refl, sym, ap, subst, ◌∙◌}
use mathlib.Core.List.{List, [], ◌∷◌}
use mathlib.Core.Bool.{Bool, true, false}
use mathlib.Core.Logic.{⊎_elim}
use Prim.Native.Nat.{ℕ, zero, suc, ◌+◌, ◌≤◌, ◌<◌}
use native.Mathlib.Omega.{arith}
use lib.ListN.{length, take, drop, length-append, take-append-drop}
use lib.Seq.{take_all}
use lib.Dec.{eqb, ltb, leb}
use borrow.Author.Tests.{ltb-true, leb-true, leb-false, le-leb, lt-leb, lt-ltb}
use Rattle.laws.specs.Tests.{pick}
use Rattle.laws.proofs.Tests.{test}
use Rattle.laws.proofs.Sums.{le_or_lt}
use Rattle.text.specs.Line.{after_lines}
use Rattle.text.specs.TableSheet.{sheet_lines}
use Rattle.lines.specs.Kept.{Kept, nothing, bad_of, keep_of, keep_all, Gathered, further, gather_of, fill_of, Room}
use Rattle.lines.proofs.Keeps.{bad_when}
use Rattle.lines.proofs.Cut.{lfs, lfs_append, kept_lines, keep_lf, keep_in, keep_out, after_lf, after_on}

pub gather_ends : (want : ℕ) (k : Kept) (b : ℕ) (bs : List ℕ) → leb want (keep_of k b).lines ≡ true → gather_of want k (b ∷ bs) ≡ record { kept = keep_of k b; used = 1 }
gather_ends want k b bs e = rw e

pub gather_goes : (want : ℕ) (k : Kept) (b : ℕ) (bs : List ℕ) → leb want (keep_of k b).lines ≡ false → gather_of want k (b ∷ bs) ≡ further (gather_of want (keep_of k b) bs)
gather_goes want k b bs e = rw e

-- what is kept is what the bytes that are used up leave, one by one
pub gather_keeps : (want : ℕ) (k : Kept) (part : List ℕ) → (gather_of want k part).kept ≡ keep_all k (take (gather_of want k part).used part)
gather_keeps want k [] = refl
gather_keeps want k (b ∷ bs) = ⊎_elim
    (λ e. subst (λ (g : Gathered). g.kept ≡ keep_all k (take g.used (b ∷ bs))) (sym (gather_ends want k b bs e)) refl)
    (λ e. subst (λ (g : Gathered). g.kept ≡ keep_all k (take g.used (b ∷ bs))) (sym (gather_goes want k b bs e)) (gather_keeps want (keep_of k b) bs))
    (test (leb want (keep_of k b).lines))

pub gather_some : (want : ℕ) (k : Kept) (part : List ℕ) → 0 < length part → 0 < (gather_of want k part).used
gather_some want k [] h = absurd (omega arith)
gather_some want k (b ∷ bs) h = ⊎_elim
    (λ e. omega (arith, ap (λ (g : Gathered). g.used) (gather_ends want k b bs e)))
    (λ e. omega (arith, ap (λ (g : Gathered). g.used) (gather_goes want k b bs e)))
    (test (leb want (keep_of k b).lines))

-- a part that does not end the lines is used up
pub gather_all : (want : ℕ) (k : Kept) (part : List ℕ) → (gather_of want k part).kept.lines < want → (gather_of want k part).used ≡ length part
gather_all want k [] h = refl
gather_all want k (b ∷ bs) h = ⊎_elim
    (λ e. absurd (omega (arith, leb-true want (keep_of k b).lines e, subst (λ (g : Gathered). g.kept.lines < want) (gather_ends want k b bs e) h)))
    (λ e. ap (λ (g : Gathered). g.used) (gather_goes want k b bs e) ∙ ap suc (gather_all want (keep_of k b) bs (subst (λ (g : Gathered). g.kept.lines < want) (gather_goes want k b bs e) h)))
    (test (leb want (keep_of k b).lines))

-- an LF is one line more, any other byte none
pub lines_lf : (k : Kept) (b : ℕ) → eqb b 10 ≡ true → (keep_of k b).lines ≡ k.lines + 1
lines_lf k b e = ap (λ (x : Kept). x.lines) (keep_lf k b e)

pub lines_on : (k : Kept) (b : ℕ) → eqb b 10 ≡ false → (keep_of k b).lines ≡ k.lines
lines_on k b e = ⊎_elim (λ f. ap (λ (x : Kept). x.lines) (keep_in k b e f)) (λ f. ap (λ (x : Kept). x.lines) (keep_out k b e f)) (test (ltb k.width 33))

-- the lines that are gathered are just so many, and what is left stands behind the LF of the last
abbrev Left : ℕ → ℕ → List ℕ → Gathered → Type 0
Left want n part g = (g.kept.lines ≡ want) × (drop g.used part ≡ after_lines (suc n) part)

-- a byte that is not the last
left_goes : (want n m : ℕ) (k : Kept) (b : ℕ) (bs : List ℕ) → (keep_of k b).lines < want → after_lines (suc n) (b ∷ bs) ≡ after_lines (suc m) bs
    → want ≤ (gather_of want k (b ∷ bs)).kept.lines → (want ≤ (gather_of want (keep_of k b) bs).kept.lines → Left want m bs (gather_of want (keep_of k b) bs))
    → Left want n (b ∷ bs) (gather_of want k (b ∷ bs))
left_goes want n m k b bs l a p rec =
    let e = gather_goes want k b bs (lt-leb want (keep_of k b).lines l) in
    let r = rec (subst (λ (g : Gathered). want ≤ g.kept.lines) e p) in
    subst (Left want n (b ∷ bs)) (sym e) (r.0, r.1 ∙ sym a)

pub gather_left : (want n : ℕ) (k : Kept) (part : List ℕ) → k.lines + suc n ≡ want → want ≤ (gather_of want k part).kept.lines
    → ((gather_of want k part).kept.lines ≡ want) × (drop (gather_of want k part).used part ≡ after_lines (suc n) part)
gather_left want n k [] h p = absurd (omega arith)
gather_left want zero k (b ∷ bs) h p = ⊎_elim
    (λ l. subst (Left want zero (b ∷ bs)) (sym (gather_ends want k b bs (le-leb want (keep_of k b).lines (omega (arith, lines_lf k b l)))))
    (omega (arith, lines_lf k b l), sym (after_lf b bs l)))
    (λ l. left_goes want zero zero k b bs (omega (arith, lines_on k b l)) (after_on b bs l) p
    (λ q. gather_left want zero (keep_of k b) bs (omega (arith, lines_on k b l)) q))
    (test (eqb b 10))
gather_left want (suc n) k (b ∷ bs) h p = ⊎_elim
    (λ l. left_goes want (suc n) n k b bs (omega (arith, lines_lf k b l)) (ap (after_lines (suc n)) (after_lf b bs l)) p
    (λ q. gather_left want n (keep_of k b) bs (omega (arith, lines_lf k b l)) q))
    (λ l. left_goes want (suc n) (suc n) k b bs (omega (arith, lines_on k b l)) (ap (after_lines (suc n)) (after_on b bs l)) p
    (λ q. gather_left want (suc n) (keep_of k b) bs (omega (arith, lines_on k b l)) q))
    (test (eqb b 10))

-- ---- from the first byte of a block or a sheet on

-- so many LFs in what is kept as in the bytes
pub gather_lines : (want : ℕ) (log : List ℕ) → (gather_of want nothing log).kept.lines ≡ lfs (take (gather_of want nothing log).used log)
gather_lines want log =
    let front : List ℕ = take (gather_of want nothing log).used log in
    ap (λ (x : Kept). x.lines) (gather_keeps want nothing log) ∙ omega (arith, kept_lines nothing front)

pub front_lfs : (n : ℕ) (log : List ℕ) → lfs (take n log) ≤ lfs log
front_lfs n log = omega (arith, ap lfs (take-append-drop n log), lfs_append (take n log) (drop n log))

-- a log with too few LFs is kept whole
pub open_kept : (want : ℕ) (log : List ℕ) → lfs log < want → ((gather_of want nothing log).used ≡ length log) × ((gather_of want nothing log).kept ≡ keep_all nothing log)
open_kept want log h =
    let g : Gathered = gather_of want nothing log in
    let few : g.kept.lines < want = omega (arith, gather_lines want log, front_lfs g.used log) in
    let u : g.used ≡ length log = gather_all want nothing log few in
    (u, gather_keeps want nothing log ∙ ap (keep_all nothing) (ap (λ (n : ℕ). take n log) u ∙ take_all (length log) log (omega arith)))

-- one with enough of them up to the LF of the last line
pub whole_kept : (n : ℕ) (log : List ℕ) → suc n ≤ lfs log
    → ((gather_of (suc n) nothing log).kept.lines ≡ suc n) × (drop (gather_of (suc n) nothing log).used log ≡ after_lines (suc n) log)
whole_kept n log h =
    let g : Gathered = gather_of (suc n) nothing log in
    let all : suc n ≤ g.kept.lines = ⊎_elim
    (λ l. l)
    (λ l. let u : g.used ≡ length log = gather_all (suc n) nothing log l in
    omega (arith, gather_lines (suc n) log, ap lfs (ap (λ (i : ℕ). take i log) u ∙ take_all (length log) log (omega arith))))
    (le_or_lt (suc n) g.kept.lines) in
    gather_left (suc n) n nothing log (omega arith) all

-- ---- a line that grows past 32 bytes

-- it is marked bad with its 33rd byte
pub bad_at_once : (k : Kept) (b : ℕ) → k.width ≡ 32 → eqb b 10 ≡ false → (keep_of k b).bad ≡ true
unfolding bad_of
bad_at_once k b w e = ap (λ (x : Kept). x.bad) (keep_in k b e (lt-ltb k.width 33 (omega arith))) ∙ rw w

-- and stays so to the end of its block, whatever comes
bad_on : (k : Kept) (b : ℕ) → k.bad ≡ true → (keep_of k b).bad ≡ true
unfolding bad_of
bad_on k b h = ⊎_elim
    (λ e. ap (λ (x : Kept). x.bad) (keep_lf k b e) ∙ h)
    (λ e. ⊎_elim
    (λ f. ap (λ (x : Kept). x.bad) (keep_in k b e f) ∙ ap (λ (x : Bool). pick (eqb k.width 32) true x) h ∙ either (eqb k.width 32))
    (λ f. ap (λ (x : Kept). x.bad) (keep_out k b e f) ∙ h)
    (test (ltb k.width 33)))
    (test (eqb b 10))
  where
    either : (b : Bool) → pick b true true ≡ true
    either true = refl
    either false = refl

pub bad_stays : (k : Kept) (bs : List ℕ) → k.bad ≡ true → (keep_all k bs).bad ≡ true
bad_stays k [] h = h
bad_stays k (b ∷ bs) h = bad_stays (keep_of k b) bs (bad_on k b h)

-- ---- what is kept fits the buffer

pub keep_room : (k : Kept) (b : ℕ) → Room (fill_of k) → k.lines < sheet_lines → Room (fill_of (keep_of k b))
keep_room k b r h = ⊎_elim
    (λ e.
    let n = length-append k.bytes (b ∷ []) in
    subst (λ (x : Kept). Room (fill_of x)) (sym (keep_lf k b e)) (record {
      count = omega (arith, n, r.count, r.width);
      least = omega arith;
      bad = λ q. omega (arith, n, r.bad q);
      width = omega arith;
      lines = omega arith;
      most = omega (arith, n, r.count, r.width);
    }))
    (λ e. ⊎_elim
    (λ f.
    let n = length-append k.bytes (b ∷ []) in
    let w : k.width < 33 = ltb-true k.width 33 f in
    subst (λ (x : Kept). Room (fill_of x)) (sym (keep_in k b e f)) (record {
      count = omega (arith, n, r.count);
      least = omega (arith, n, r.least);
      bad = λ q. ⊎_elim (λ z. omega (arith, n, r.least)) (λ z. omega (arith, n, r.bad z)) (bad_when k.width k.bad refl q);
      width = omega arith;
      lines = omega (arith, r.lines);
      most = omega (arith, n, r.count, r.width);
    }))
    (λ f. subst (λ (x : Kept). Room (fill_of x)) (sym (keep_out k b e f)) r)
    (test (ltb k.width 33)))
    (test (eqb b 10))

pub gather_room : (want : ℕ) (k : Kept) (part : List ℕ) → want ≤ sheet_lines → k.lines < want → Room (fill_of k) → Room (fill_of (gather_of want k part).kept)
gather_room want k [] w h r = r
gather_room want k (b ∷ bs) w h r = ⊎_elim
    (λ e. subst (λ (g : Gathered). Room (fill_of g.kept)) (sym (gather_ends want k b bs e)) (keep_room k b r (omega arith)))
    (λ e. subst (λ (g : Gathered). Room (fill_of g.kept)) (sym (gather_goes want k b bs e))
    (gather_room want (keep_of k b) bs w (leb-false want (keep_of k b).lines e) (keep_room k b r (omega arith))))
    (test (leb want (keep_of k b).lines))
