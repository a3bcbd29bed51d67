-- Request No. 9, "A line that grows past 32 bytes is marked bad": what is marked so has a line of more than 32 bytes, so a block of it is malformed and a sheet of it is bad.
-- For any bytes. Assumes nothing.
use mathlib.Core.Path.{◌≡◌, refl, sym, ap, subst, ◌∙◌}
use mathlib.Core.List.{List, [], ◌∷◌}
use mathlib.Core.Bool.{Bool, true, false, true≢false}
use mathlib.Core.Logic.{⊎_elim}
use Prim.Native.Nat.{ℕ, zero, suc, ◌+◌, ◌≤◌, ◌<◌}
use native.Mathlib.Omega.{arith}
use lib.ListN.{length, get_or}
use lib.Dec.{eqb, ltb}
use borrow.Author.Tests.{ne_eqb, eqb-true, eqb-false}
use Rattle.std.specs.Prelude.{Option, Some, None, Err}
use Rattle.paper.specs.declared.refusal.Refusal.TheVariants.{BadSheet}
use Rattle.laws.specs.Tests.{pick}
use Rattle.laws.proofs.Tests.{test}
use Rattle.text.specs.Line.{line_len, after_line, after_lines, line_number}
use Rattle.text.specs.Number.{number_of, well_formed}
use Rattle.text.specs.TableSheet.{sheet_lines, sheet_keys, sheet_number, is_value, sheet_of}
use Rattle.text.proofs.SheetLaws.{good_not, sheet_bad}
use Rattle.blocks.specs.Block.{kind_of, line_kind, block_from, block_of}
use Rattle.blocks.specs.declared.Block.TheVariants.{Malformed}
use Rattle.lines.specs.Kept.{Kept, nothing, bad_of, keep_of, keep_all}
use Rattle.lines.proofs.Cut.{lfs, keep_lf, keep_in, keep_out, lfs_lf, lfs_on, len_on, after_lf, after_on, value_long}

-- ---- a line that is too long

-- bytes of a line that went before
abbrev pub gone : ℕ → ℕ → ℕ
gone w zero = w
gone w (suc i) = 0

-- of these bytes, behind w bytes of the first line
pub record Long (w : ℕ) (raw : List ℕ) : Type 0 where
  pub line : ℕ
  pub within : line ≤ lfs raw
  pub long : 33 ≤ gone w line + line_len (after_lines line raw)

behind_lf : (w b : ℕ) (bs : List ℕ) → eqb b 10 ≡ true → Long 0 bs → Long w (b ∷ bs)
behind_lf w b bs e r = record {
  line = suc r.line;
  within = omega (arith, r.within, lfs_lf b bs e);
  long = go r.line r.long;
}
  where
    go : (i : ℕ) → 33 ≤ gone 0 i + line_len (after_lines i bs) → 33 ≤ 0 + line_len (after_lines i (after_line (b ∷ bs)))
    go zero h = omega (arith, ap line_len (after_lf b bs e))
    go (suc i) h = omega (arith, ap (λ (l : List ℕ). line_len (after_lines (suc i) l)) (after_lf b bs e))

behind_byte : (v w b : ℕ) (bs : List ℕ) → eqb b 10 ≡ false → v ≤ w + 1 → Long v bs → Long w (b ∷ bs)
behind_byte v w b bs e h r = go r.line r.within r.long
  where
    go : (i : ℕ) → i ≤ lfs bs → 33 ≤ gone v i + line_len (after_lines i bs) → Long w (b ∷ bs)
    go zero p q = record { line = 0; within = omega arith; long = omega (arith, len_on b bs e) }
    go (suc i) p q = record {
      line = suc i;
      within = omega (arith, lfs_on b bs e);
      long = omega (arith, ap (λ (l : List ℕ). line_len (after_lines i l)) (after_on b bs e));
    }

pub marked_long : (k : Kept) (raw : List ℕ) → k.bad ≡ false → (keep_all k raw).bad ≡ true → Long k.width raw
unfolding bad_of
marked_long k [] n h = absurd (true≢false (sym h ∙ n))
marked_long k (b ∷ bs) n h = ⊎_elim
    (λ e.
    let q = keep_lf k b e in
    behind_lf k.width b bs e (subst (λ (x : Kept). Long x.width bs) q (marked_long (keep_of k b) bs (ap (λ (x : Kept). x.bad) q ∙ n) h)))
    (λ e. ⊎_elim
    (λ f.
    let q = keep_in k b e f in
    ⊎_elim
    (λ z. let w : k.width ≡ 32 = eqb-true k.width 32 z in record { line = 0; within = omega arith; long = omega (arith, len_on b bs e) })
    (λ z.
    let same : (keep_of k b).bad ≡ false = ap (λ (x : Kept). x.bad) q ∙ ap (λ (t : Bool). pick t true k.bad) z ∙ n in
    behind_byte (k.width + 1) k.width b bs e (omega arith) (subst (λ (x : Kept). Long x.width bs) q (marked_long (keep_of k b) bs same h)))
    (test (eqb k.width 32)))
    (λ f.
    let q = keep_out k b e f in
    behind_byte k.width k.width b bs e (omega arith)
    (subst (λ (x : Kept). Long x.width bs) q (marked_long (keep_of k b) bs (ap (λ (x : Kept). x.bad) q ∙ n) h)))
    (test (ltb k.width 33)))
    (test (eqb b 10))

-- ---- a block of it is malformed

no_number : (key x : List ℕ) → 32 < line_len x → line_number key x ≡ None
unfolding number_of well_formed
no_number key x h = ap number_of (value_long key x h)

no_kind : (x : List ℕ) → 32 < line_len x → line_kind x ≡ None
unfolding kind_of
no_kind x h = ap kind_of (value_long (100 ∷ 111 ∷ []) x h)

bad_2 : (n k s a b : Option ℕ) → k ≡ None → block_from n k s a b ≡ Malformed
bad_2 n k s a b e = ap (λ (x : Option ℕ). block_from n x s a b) e ∙ go n
  where
    go : (n : Option ℕ) → block_from n None s a b ≡ Malformed
    go None = refl
    go (Some n) = refl

bad_3 : (n k s a b : Option ℕ) → s ≡ None → block_from n k s a b ≡ Malformed
bad_3 n k s a b e = ap (λ (x : Option ℕ). block_from n k x a b) e ∙ go n k
  where
    go : (n k : Option ℕ) → block_from n k None a b ≡ Malformed
    go None k = refl
    go (Some n) None = refl
    go (Some n) (Some k) = refl

bad_4 : (n k s a b : Option ℕ) → a ≡ None → block_from n k s a b ≡ Malformed
bad_4 n k s a b e = ap (λ (x : Option ℕ). block_from n k s x b) e ∙ go n k s
  where
    go : (n k s : Option ℕ) → block_from n k s None b ≡ Malformed
    go None k s = refl
    go (Some n) None s = refl
    go (Some n) (Some k) None = refl
    go (Some n) (Some k) (Some s) = refl

bad_5 : (n k s a b : Option ℕ) → b ≡ None → block_from n k s a b ≡ Malformed
bad_5 n k s a b e = ap (block_from n k s a) e ∙ go n k s a
  where
    go : (n k s a : Option ℕ) → block_from n k s a None ≡ Malformed
    go None k s a = refl
    go (Some n) None s a = refl
    go (Some n) (Some k) None a = refl
    go (Some n) (Some k) (Some s) None = refl
    go (Some n) (Some k) (Some s) (Some a) = refl

some_block : (raw : List ℕ) → 0 < length raw → block_of raw
    ≡ block_from (line_number (110 ∷ []) raw) (line_kind (after_line raw)) (line_number (115 ∷ 101 ∷ 97 ∷ 116 ∷ []) (after_line (after_line raw)))
    (line_number (97 ∷ []) (after_line (after_line (after_line raw)))) (line_number (98 ∷ []) (after_line (after_line (after_line (after_line raw)))))
unfolding block_of
some_block raw h = rw (ne_eqb (length raw) 0 (λ z. omega arith))

long_block : (i : ℕ) (raw : List ℕ) → i ≤ 4 → 0 < length raw → 32 < line_len (after_lines i raw) → block_of raw ≡ Malformed
long_block i raw l h p =
    let second : List ℕ = after_line raw in
    let third : List ℕ = after_line second in
    let fourth : List ℕ = after_line third in
    let fifth : List ℕ = after_line fourth in
    some_block raw h ∙ go i l p
    (line_number (110 ∷ []) raw) (line_kind second) (line_number (115 ∷ 101 ∷ 97 ∷ 116 ∷ []) third) (line_number (97 ∷ []) fourth) (line_number (98 ∷ []) fifth)
    (λ q. no_number (110 ∷ []) raw q) (λ q. no_kind second q) (λ q. no_number (115 ∷ 101 ∷ 97 ∷ 116 ∷ []) third q) (λ q. no_number (97 ∷ []) fourth q) (λ q. no_number (98 ∷ []) fifth q)
  where
    go : (i : ℕ) → i ≤ 4 → 32 < line_len (after_lines i raw) → (n k s a b : Option ℕ)
        → (32 < line_len raw → n ≡ None) → (32 < line_len (after_line raw) → k ≡ None) → (32 < line_len (after_line (after_line raw)) → s ≡ None)
        → (32 < line_len (after_line (after_line (after_line raw))) → a ≡ None) → (32 < line_len (after_line (after_line (after_line (after_line raw)))) → b ≡ None)
        → block_from n k s a b ≡ Malformed
    go zero l p n k s a b e f g h j = ap (λ (x : Option ℕ). block_from x k s a b) (e p)
    go (suc zero) l p n k s a b e f g h j = bad_2 n k s a b (f p)
    go (suc (suc zero)) l p n k s a b e f g h j = bad_3 n k s a b (g p)
    go (suc (suc (suc zero))) l p n k s a b e f g h j = bad_4 n k s a b (h p)
    go (suc (suc (suc (suc zero)))) l p n k s a b e f g h j = bad_5 n k s a b (j p)
    go (suc (suc (suc (suc (suc i))))) l p n k s a b e f g h j = absurd (omega arith)

-- ---- which line it is: not one behind the last that is read together

width : {n : ℕ} (i : ℕ) → 33 ≤ gone 0 i + n → 33 ≤ n
width zero h = omega arith
width (suc i) h = omega arith

-- of some lines that are read together, whole or not, and nothing behind the last
pub record Spoilt (want : ℕ) (raw : List ℕ) : Type 0 where
  pub line : ℕ
  pub among : line < want
  pub long : 32 < line_len (after_lines line raw)

spoilt : (want : ℕ) (raw : List ℕ) → (keep_all nothing raw).bad ≡ true → lfs raw ≤ want → after_lines want raw ≡ [] → Spoilt want raw
spoilt want raw h l e =
    let r : Long 0 raw = marked_long nothing raw refl h in
    let p : 33 ≤ line_len (after_lines r.line raw) = width r.line r.long in
    ⊎_elim
    (λ z. absurd (omega (arith, ap (λ (i : ℕ). line_len (after_lines i raw)) (eqb-true r.line want z), ap line_len e)))
    (λ z. record { line = r.line; among = omega (arith, r.within, eqb-false r.line want z); long = omega arith })
    (test (eqb r.line want))

-- a block is malformed
pub bad_block : (raw : List ℕ) → (keep_all nothing raw).bad ≡ true → lfs raw ≤ 5 → after_lines 5 raw ≡ [] → block_of raw ≡ Malformed
bad_block [] h l e = absurd (true≢false (sym h))
bad_block (b ∷ bs) h l e =
    let s = spoilt 5 (b ∷ bs) h l e in
    long_block s.line (b ∷ bs) (omega (arith, s.among)) (omega arith) s.long

-- and a sheet is bad
pub bad_sheet : (raw : List ℕ) → (keep_all nothing raw).bad ≡ true → lfs raw ≤ sheet_lines → after_lines sheet_lines raw ≡ [] → sheet_of raw ≡ Err BadSheet
unfolding sheet_number
bad_sheet raw h l e =
    let s = spoilt sheet_lines raw h l e in
    sheet_bad raw (good_not sheet_lines s.line raw s.among (ap is_value (no_number (get_or sheet_keys s.line []) (after_lines s.line raw) s.long)))
