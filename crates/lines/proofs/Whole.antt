-- The sheet and a block, from their first byte to the LF of their last line: what is gathered of a log reads as the log itself does, and what is left is what
-- follows them; lines that are cut after 33 bytes read as the lines do; and a sheet without all its LFs is bad. For any bytes. Assumes nothing.
use mathlib.Core.Path.{◌≡◌, refl, sym, ap, ◌∙◌}
use mathlib.Core.List.{List, [], ◌∷◌, ◌++◌}
use mathlib.Core.Bool.{Bool, true, false, true≢false}
use mathlib.Core.Logic.{⊎_elim}
use Prim.Native.Nat.{ℕ, zero, suc, ◌+◌, ◌≤◌, ◌<◌}
use native.Mathlib.Omega.{arith}
use lib.ListN.{length, get_or, take, drop, length-take, take-append-drop, drop_of_length-le}
use lib.Dec.{eqb, ltb, leb}
use borrow.Author.Tests.{leb-true, leb-false}
use Rattle.std.specs.Prelude.{Err}
use Rattle.paper.specs.declared.refusal.Refusal.TheVariants.{BadSheet}
use Rattle.laws.specs.Tests.{pick, both}
use Rattle.laws.proofs.Tests.{test}
use Rattle.text.specs.Number.{number_of, well_formed}
use Rattle.text.specs.Line.{line_len, line_of, line_ended, has_key, value_of, after_lines}
use Rattle.blocks.specs.Block.{block_of}
use Rattle.blocks.specs.Front.{block_ended}
use Rattle.text.specs.TableSheet.{sheet_lines, sheet_keys, sheet_number, is_value, sheet_of}
use Rattle.text.proofs.SheetLaws.{good_not, sheet_bad, sheet_same}
use Rattle.lines.specs.Kept.{Kept, nothing, keep_all, Gathered, gather_of}
use Rattle.lines.proofs.Cut.{ended, cap, lfs, cap_lf, cap_in, kept_bytes, lfs_lf, lfs_on, ended_is, value_same, cap_lines, cap_value, cap_block, lines_front, lines_lfs, front_line, front_block, lines_none}
use Rattle.lines.proofs.Gathers.{gather_keeps, gather_lines, whole_kept}

-- ---- lines that are cut after 33 bytes read as the lines do
pub cut_block : (l : List ℕ) → block_of (cap 0 l) ≡ block_of l
cut_block [] = refl
cut_block (b ∷ l) = cap_block b l

pub kept_is : (raw : List ℕ) → (keep_all nothing raw).bytes ≡ cap 0 raw
kept_is raw = kept_bytes nothing raw

-- what is kept of a block that has a byte has a byte
pub cut_some : (b : ℕ) (l : List ℕ) → 0 < length (cap 0 (b ∷ l))
cut_some b l = ⊎_elim (λ e. omega (arith, ap length (cap_lf 0 b l e))) (λ e. omega (arith, ap length (cap_in 0 b l e refl))) (test (eqb b 10))

-- ---- the sheet depends on its lines alone, cut after 33 bytes, whatever follows them

pub cut_sheet : (l : List ℕ) → sheet_of (cap 0 l) ≡ sheet_of l
unfolding sheet_number
cut_sheet l = sheet_same (cap 0 l) l (λ k h. number k)
  where
    number : (k : ℕ) → sheet_number k (cap 0 l) ≡ sheet_number k l
    number k = ap number_of (ap (value_of (get_or sheet_keys k [])) (cap_lines k l) ∙ cap_value (get_or sheet_keys k []) (after_lines k l))

pub front_sheet : (xs rest : List ℕ) → sheet_lines ≤ lfs xs → sheet_of (xs ++ rest) ≡ sheet_of xs
unfolding sheet_number
front_sheet xs rest h = sheet_same (xs ++ rest) xs (λ k i. number k i)
  where
    number : (k : ℕ) → k < sheet_lines → sheet_number k (xs ++ rest) ≡ sheet_number k xs
    number k i =
        let r = front_line (after_lines k xs) rest (omega (arith, lines_lfs k xs (omega arith))) in
        ap number_of
        (ap (value_of (get_or sheet_keys k [])) (lines_front k xs rest (omega arith))
        ∙ value_same (get_or sheet_keys k []) (after_lines k xs ++ rest) (after_lines k xs) r.0 r.1 r.2)

-- ---- a sheet without the LFs of all its lines is bad

-- a line without its LF has no value
pub value_open : (key x : List ℕ) → ended x ≡ false → value_of key x ≡ []
unfolding value_of
value_open key x h =
    let e : line_ended x ≡ false = ap (λ (t : Bool). both t (leb (line_len x) 32)) (ended_is x ∙ h) in
    ap (λ (t : Bool). drop (pick (both t (has_key key (line_of x))) (length key + 1) (line_len x)) (line_of x)) e
    ∙ drop_of_length-le (line_of x) {i = line_len x} (omega (arith, length-take (line_len x) x))

none_ended : (x : List ℕ) → lfs x ≡ 0 → ended x ≡ false
none_ended [] h = refl
none_ended (b ∷ x) h = ⊎_elim
    (λ e. absurd (omega (arith, lfs_lf b x e)))
    (λ e. ap (λ (t : Bool). pick t true (ended x)) e ∙ none_ended x (omega (arith, lfs_on b x e)))
    (test (eqb b 10))

number_open : (k : ℕ) (l : List ℕ) → lfs l ≡ k → is_value (sheet_number k l) ≡ false
unfolding sheet_number number_of well_formed
number_open k l h =
    let z : lfs (after_lines k l) ≡ 0 = omega (arith, lines_lfs k l (omega arith)) in
    ap (λ (v : List ℕ). is_value (number_of v)) (value_open (get_or sheet_keys k []) (after_lines k l) (none_ended (after_lines k l) z))

pub sheet_open : (l : List ℕ) → lfs l < sheet_lines → sheet_of l ≡ Err BadSheet
sheet_open l h = sheet_bad l (good_not sheet_lines (lfs l) l h (number_open (lfs l) l refl))

-- ---- a log whose fifth line is ended has five LFs

ended_lfs : (l : List ℕ) → ended l ≡ true → 1 ≤ lfs l
ended_lfs [] e = absurd (true≢false (sym e))
ended_lfs (b ∷ l) e = ⊎_elim
    (λ f. omega (arith, lfs_lf b l f))
    (λ f. omega (arith, lfs_on b l f, ended_lfs l (sym (ap (λ (x : Bool). pick x true (ended l)) f) ∙ e)))
    (test (eqb b 10))

pub five_lfs : (l : List ℕ) → block_ended l ≡ true → 5 ≤ lfs l
unfolding block_ended
five_lfs l e = ⊎_elim
    (λ t. omega (arith, lines_lfs 4 l (leb-true 4 (lfs l) t), ended_lfs (after_lines 4 l) (sym (ended_is (after_lines 4 l)) ∙ e)))
    (λ t. absurd (true≢false (sym e ∙ ap (λ (x : List ℕ). ltb (line_len x) (length x)) (lines_none 4 l (leb-false 4 (lfs l) t)))))
    (test (leb 4 (lfs l)))

-- ---- what is gathered of a log

-- so many lines, and what follows them
pub some_kept : (want : ℕ) (log : List ℕ) → 0 < want → want ≤ lfs log
    → ((gather_of want nothing log).kept.lines ≡ want) × (drop (gather_of want nothing log).used log ≡ after_lines want log)
some_kept zero log p h = absurd (omega arith)
some_kept (suc n) log p h = whole_kept n log h

module _ (want : ℕ) (log : List ℕ) (p : 0 < want) (h : want ≤ lfs log) where
  abbrev g : Gathered
  g = gather_of want nothing log

  abbrev front : List ℕ
  front = take g.used log

  pub front_lines : want ≤ lfs front
  front_lines = omega (arith, gather_lines want log, (some_kept want log p h).0)

  pub front_kept : g.kept.bytes ≡ cap 0 front
  front_kept = ap (λ (k : Kept). k.bytes) (gather_keeps want nothing log) ∙ kept_is front

-- it reads as the log does
pub block_reads : (log : List ℕ) → 5 ≤ lfs log → block_of (gather_of 5 nothing log).kept.bytes ≡ block_of log
block_reads log h =
    let used : ℕ = (gather_of 5 nothing log).used in
    ap block_of (front_kept 5 log (omega arith) h)
    ∙ cut_block (take used log)
    ∙ sym (front_block (take used log) (drop used log) (front_lines 5 log (omega arith) h))
    ∙ ap block_of (take-append-drop used log)

pub sheet_reads : (log : List ℕ) → sheet_lines ≤ lfs log → sheet_of (gather_of sheet_lines nothing log).kept.bytes ≡ sheet_of log
sheet_reads log h =
    let used : ℕ = (gather_of sheet_lines nothing log).used in
    ap sheet_of (front_kept sheet_lines log (omega arith) h)
    ∙ cut_sheet (take used log)
    ∙ sym (front_sheet (take used log) (drop used log) (front_lines sheet_lines log (omega arith) h))
    ∙ ap sheet_of (take-append-drop used log)
