-- Request No. 1, a log copied fair, for any bytes: the copy has the same sheet and only entries in range, so reading it gives no code 1, 2 or 11; and a log
-- that has nothing else already is its own copy, byte for byte. Assumes nothing.
use mathlib.Core.Path.{◌≡◌, refl, sym, ap, subst, ◌∙◌}
use mathlib.Core.List.{List, [], ◌∷◌, ◌++◌}
use mathlib.Core.Bool.{Bool, true, false, not}
use mathlib.Core.Logic.{◌⊎◌, inl, inr, ⊎_elim}
use Prim.Native.Nat.{ℕ, zero, suc, ◌≤◌, ◌<◌}
use native.Mathlib.Omega.{arith}
use lib.ListN.{length, length-append}
use lib.Dec.{eqb}
use borrow.Author.Tests.{eqb-true, eqb-false, ne_eqb}
use Rattle.std.specs.Prelude.{Result, Ok, Err}
use Rattle.paper.specs.declared.refusal.Refusal.{Refusal}
use Rattle.laws.specs.Tests.{pick}
use Rattle.laws.specs.Lists.{All}
use Rattle.laws.proofs.Tests.{test}
use Rattle.paper.specs.RefusalNumbers.{when}
use Rattle.paper.specs.SheetAndEntries.{numbers_of}
use Rattle.paper.specs.declared.Sheet.{Sheet}
use Rattle.paper.specs.declared.Entry.{Entry}
use Rattle.blocks.specs.Block.{block_of, rest_of}
use Rattle.blocks.specs.Entry.{parsed_of}
use Rattle.text.specs.TableSheet.{sheet_lines, sheet_of, sheet_end}
use Rattle.blocks.specs.declared.Block.{Block}
use Rattle.blocks.specs.declared.Block.TheVariants.{Raw, Malformed, Nothing}
use Rattle.blocks.proofs.Blocks.{rest_shorter}
use Rattle.text.proofs.Lines.{after_lines_no_longer}
use Rattle.text.proofs.SheetLaws.{sheet_is}
use Rattle.logs.specs.LogText.{sheet_text, entry_text, is_entry}
use Rattle.logs.specs.FairCopy.{entry_code, form_code, block_code, entry_copy, form_copy, block_copy, copies_from, fair_from, fair_copy, codes_from}
use Rattle.logs.proofs.SheetText.{sheet_read, sheet_rest, sheet_back}
use Rattle.logs.proofs.EntryText.{entry_read, entry_rest, accepted_back}
use Rattle.logs.proofs.KindRows.{block_count}

abbrev pub Zero : ℕ → Type 0
Zero c = c ≡ 0

-- ---- one block: left out, or an entry in range that stands at the log's front

pub record Stands (sheet : Sheet) (log : List ℕ) : Type 0 where
  pub n : ℕ
  pub entry : Entry
  pub good : is_entry sheet n entry ≡ true
  pub copy : block_copy sheet log ≡ entry_text n entry
  pub back : log ≡ entry_text n entry ++ rest_of log

block_case : (sheet : Sheet) (log : List ℕ) → ((block_copy sheet log ≡ []) × (block_code sheet log ≡ 0 → ⊥)) ⊎ Stands sheet log
unfolding block_copy block_code
block_case sheet log = form (block_of log) refl
  where
    read : (n k s a b : ℕ) (p : Result Entry Refusal) → block_of log ≡ Raw n k s a b → parsed_of k s a b ≡ p
        → ((entry_copy sheet n p ≡ []) × (entry_code sheet n p ≡ 0 → ⊥)) ⊎ ((form_copy sheet (block_of log) ≡ entry_copy sheet n p) → Stands sheet log)
    read n k s a b (Err why) e f = inl (refl, λ z. omega arith)
    read n k s a b (Ok x) e f = ⊎_elim
        (λ t. inr (λ c. record { n = n; entry = x; good = t; copy = c ∙ ap (λ (g : Bool). pick g (entry_text n x) []) t; back = accepted_back log n k s a b x e f }))
        (λ t. inl (ap (λ (g : Bool). pick g (entry_text n x) []) t, λ z. omega (arith, ap (λ (g : Bool). when (not g) 2) t)))
        (test (is_entry sheet n x))

    form : (b : Block) → block_of log ≡ b → ((form_copy sheet (block_of log) ≡ []) × (form_code sheet (block_of log) ≡ 0 → ⊥)) ⊎ Stands sheet log
    form Malformed e = inl (ap (form_copy sheet) e, λ z. omega (arith, ap (form_code sheet) e))
    form Nothing e = inl (ap (form_copy sheet) e, λ z. omega (arith, ap (form_code sheet) e))
    form (Raw n k s a b) e = ⊎_elim
        (λ q. inl (ap (form_copy sheet) e ∙ q.0, λ z. q.1 (sym (ap (form_code sheet) e) ∙ z)))
        (λ q. inr (q (ap (form_copy sheet) e)))
        (read n k s a b (parsed_of k s a b) e refl)

-- ---- reading a copy

module _ (sheet : Sheet) (n : ℕ) (e : Entry) (h : is_entry sheet n e ≡ true) (rest : List ℕ) where
  code_none : block_code sheet (entry_text n e ++ rest) ≡ 0
  unfolding block_code
  code_none =
      let p = entry_read sheet n e h rest in
      ap (form_code sheet) p.0 ∙ ap (entry_code sheet n) p.1 ∙ ap (λ (g : Bool). when (not g) 2) h

  codes_entry : (j : ℕ) → codes_from (suc j) sheet (entry_text n e ++ rest) ≡ 0 ∷ codes_from j sheet rest
  codes_entry j =
      let some : 0 < length (entry_text n e ++ rest) = omega (arith, length-append (entry_text n e) rest, block_count n (numbers_of e)) in
      ap (λ (t : Bool). pick t [] (block_code sheet (entry_text n e ++ rest) ∷ codes_from j sheet (rest_of (entry_text n e ++ rest)))) (ne_eqb (length (entry_text n e ++ rest)) 0 (λ z. omega arith))
      ∙ ap (λ (c : ℕ). c ∷ codes_from j sheet (rest_of (entry_text n e ++ rest))) code_none
      ∙ ap (λ (l : List ℕ). 0 ∷ codes_from j sheet l) (entry_rest sheet n e h rest)

copies_some : (k : ℕ) (sheet : Sheet) (log : List ℕ) → eqb (length log) 0 ≡ false → copies_from (suc k) sheet log ≡ block_copy sheet log ++ copies_from k sheet (rest_of log)
copies_some k sheet log e = ap (λ (t : Bool). pick t [] (block_copy sheet log ++ copies_from k sheet (rest_of log))) e

copies_none : (k : ℕ) (sheet : Sheet) (log : List ℕ) → eqb (length log) 0 ≡ true → copies_from (suc k) sheet log ≡ []
copies_none k sheet log e = ap (λ (t : Bool). pick t [] (block_copy sheet log ++ copies_from k sheet (rest_of log))) e

-- every block of the copies is an entry in range
pub copies_clean : (j k : ℕ) (sheet : Sheet) (log : List ℕ) → All Zero (codes_from j sheet (copies_from k sheet log))
copies_clean zero k sheet log = tt
copies_clean (suc j) zero sheet log = tt
copies_clean (suc j) (suc k) sheet log = ⊎_elim
    (λ e. subst (λ (l : List ℕ). All Zero (codes_from (suc j) sheet l)) (sym (copies_none k sheet log e)) tt)
    (λ e. subst (λ (l : List ℕ). All Zero (codes_from (suc j) sheet l)) (sym (copies_some k sheet log e))
    (⊎_elim
    (λ q. subst (λ (l : List ℕ). All Zero (codes_from (suc j) sheet (l ++ copies_from k sheet (rest_of log)))) (sym q.0) (copies_clean (suc j) k sheet (rest_of log)))
    (λ q. subst (λ (l : List ℕ). All Zero (codes_from (suc j) sheet (l ++ copies_from k sheet (rest_of log)))) (sym q.copy)
    (subst (All Zero) (sym (codes_entry sheet q.n q.entry q.good (copies_from k sheet (rest_of log)) j)) (refl, copies_clean j k sheet (rest_of log))))
    (block_case sheet log)))
    (test (eqb (length log) 0))

-- "its output is a log that the clerk reads without a code 1 or 2", and with the same sheet
pub fair_clean : (log : List ℕ) (s : Sheet) → sheet_of log ≡ Ok s
    → (sheet_of (fair_copy log) ≡ Ok s) × ((j : ℕ) → All Zero (codes_from j s (sheet_end (fair_copy log))))
unfolding fair_copy
fair_clean log s e =
    let good = sheet_is log s e in
    let more : List ℕ = copies_from (length log) s (sheet_end log) in
    let is : fair_from (sheet_of log) log ≡ sheet_text s ++ more = ap (λ (o : Result Sheet Refusal). fair_from o log) e in (
      ap sheet_of is ∙ sheet_read s good more,
      λ j. subst (λ (l : List ℕ). All Zero (codes_from j s l)) (sym (ap sheet_end is ∙ sheet_rest s good more)) (copies_clean j (length log) s (sheet_end log)),
    )

-- ---- a log with nothing to leave out is its own copy

no_bytes : (log : List ℕ) → length log ≡ 0 → [] ≡ log
no_bytes [] e = refl
no_bytes (b ∷ log) e = absurd (omega arith)

codes_some : (k : ℕ) (sheet : Sheet) (log : List ℕ) → eqb (length log) 0 ≡ false → codes_from (suc k) sheet log ≡ block_code sheet log ∷ codes_from k sheet (rest_of log)
codes_some k sheet log e = ap (λ (t : Bool). pick t [] (block_code sheet log ∷ codes_from k sheet (rest_of log))) e

pub copies_same : (k : ℕ) (sheet : Sheet) (log : List ℕ) → length log ≤ k → All Zero (codes_from k sheet log) → copies_from k sheet log ≡ log
copies_same zero sheet log h z = no_bytes log (omega arith)
copies_same (suc k) sheet log h z = ⊎_elim
    (λ e. copies_none k sheet log e ∙ no_bytes log (eqb-true _ _ e))
    (λ e.
    let some : 0 < length log = omega (arith, eqb-false (length log) 0 e) in
    let y : All Zero (block_code sheet log ∷ codes_from k sheet (rest_of log)) = subst (All Zero) (codes_some k sheet log e) z in
    let rec = copies_same k sheet (rest_of log) (omega (arith, rest_shorter log some)) y.1 in
    copies_some k sheet log e
    ∙ ⊎_elim
    (λ q. absurd (q.1 y.0))
    (λ q. ap (λ (l : List ℕ). l ++ copies_from k sheet (rest_of log)) q.copy ∙ ap (λ (l : List ℕ). entry_text q.n q.entry ++ l) rec ∙ sym q.back)
    (block_case sheet log))
    (test (eqb (length log) 0))

pub fair_same : (log : List ℕ) (s : Sheet) → sheet_of log ≡ Ok s → All Zero (codes_from (length log) s (sheet_end log)) → fair_copy log ≡ log
unfolding fair_copy sheet_end
fair_same log s e z =
    ap (λ (o : Result Sheet Refusal). fair_from o log) e
    ∙ ap (λ (l : List ℕ). sheet_text s ++ l) (copies_same (length log) s (sheet_end log) (after_lines_no_longer sheet_lines log) z)
    ∙ sym (sheet_back log s e)
