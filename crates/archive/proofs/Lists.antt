-- Stored entries are read back: the records of taken entries give those entries, with one replaced the list with that one replaced; and a log that is read afresh
-- is history's run of its entries. Assumes nothing.
use mathlib.Core.Path.{◌≡◌, refl, sym, ap, ap₂, ◌∙◌, subst}
use mathlib.Core.Bool.{Bool, true, false}
use mathlib.Core.List.{List, [], ◌∷◌, ◌++◌, append_assoc}
use Prim.Native.Nat.{ℕ, zero, suc, ◌+◌, ◌-◌, ◌*◌, ◌≤◌, ◌<◌}
use native.Mathlib.Omega.{arith}
use native.Mathlib.Nat.{not-suc-le-zero}
use lib.ListN.{length, length-append}
use lib.Dec.{eqb}
use borrow.Author.Tests.{eqb-true, eqb-false, eq-eqb, ne_eqb}
use Rattle.laws.specs.Tests.{pick, both}
use Rattle.paper.specs.Paper.{is_sheet}
use Rattle.paper.specs.SheetAndEntries.{numbers_fit, numbers_of}
use Rattle.paper.specs.declared.Sheet.{Sheet}
use Rattle.paper.specs.declared.Numbers.{Numbers}
use Rattle.paper.specs.declared.Entry.{Entry}
use Rattle.table.specs.Take.{code_of, next_of}
use Rattle.table.specs.declared.table.Table.{Table}
use Rattle.table.proofs.Sounds.{passed}
use Rattle.blocks.proofs.Bounds.{numbers_bounded}
use Rattle.std.specs.Prelude.{unwrap_or}
use Rattle.records.specs.Stored.{no_record, record_at, record_bytes, entry_by, entry_in, put_record}
use Rattle.records.proofs.Again.{Fits, entry_back}
use Rattle.records.proofs.Puts.{put_over}
use Rattle.fresh.specs.Reading.{replacing, played_of, played_to}
use Rattle.fresh.proofs.Counts.{next_sheet, played_step, played_next}
use Rattle.history.specs.History.{run, AllTaken}
use Rattle.archive.specs.Archive.{records_of, replaced}

pub run_sheet : (sheet : Sheet) (es : List Entry) → (run sheet es).sheet ≡ sheet
unfolding run
run_sheet sheet [] = refl
run_sheet sheet (e ∷ es) = next_sheet (run sheet es) (length es + 1) e ∙ run_sheet sheet es

-- ---- a taken entry's numbers fit a record

numbers_fit_law : (sheet : Sheet) (x : Numbers) → is_sheet sheet ≡ true → numbers_fit sheet x ≡ true → Fits x
numbers_fit_law sheet x s f = let m = numbers_bounded sheet x s f in record { kind = omega (arith, m.kind); seat = omega (arith, m.seat); b = m.b; a = omega (arith, m.a) }

abbrev pub AllFit : List Entry → Type 0
AllFit [] = Unit {0}
AllFit (e ∷ es) = Fits (numbers_of e) × AllFit es

pub all_fit : (sheet : Sheet) → is_sheet sheet ≡ true → (es : List Entry) → AllTaken sheet es → AllFit es
all_fit sheet ok [] a = tt
all_fit sheet ok (e ∷ es) a = (
  numbers_fit_law sheet (numbers_of e) ok (subst (λ (s : Sheet). numbers_fit s (numbers_of e) ≡ true) (run_sheet sheet es) (passed (run sheet es) (length es + 1) e a.0).kind),
  all_fit sheet ok es a.1,
)

-- ---- the entries at the first k places, newest first

abbrev pub entries_to : (ℕ → Entry) → ℕ → List Entry
entries_to f zero = []
entries_to f (suc k) = f k ∷ entries_to f k

pub entries_length : (f : ℕ → Entry) (k : ℕ) → length (entries_to f k) ≡ k
entries_length f zero = refl
entries_length f (suc k) = ap suc (entries_length f k)

entries_cong : (f g : ℕ → Entry) (k : ℕ) → ((i : ℕ) → i < k → f i ≡ g i) → entries_to f k ≡ entries_to g k
entries_cong f g zero h = refl
entries_cong f g (suc k) h = ap₂ ◌∷◌ (h k (omega arith)) (entries_cong f g k (λ i l. h i (omega (arith, l))))

pub records_length : (es : List Entry) → length (records_of es) ≡ 8 * length es
records_length [] = refl
records_length (e ∷ es) = length-append (records_of es) (record_bytes (numbers_of e)) ∙ omega (arith, records_length es)

pub entries_back : (es : List Entry) (rest : List ℕ) → AllFit es → entries_to (entry_in (records_of es ++ rest)) (length es) ≡ es
entries_back [] rest a = refl
entries_back (e ∷ es) rest a =
    ap (λ (l : List ℕ). entry_in l (length es) ∷ entries_to (entry_in l) (length es)) (append_assoc (records_of es) (record_bytes (numbers_of e)) rest)
    ∙ ap₂ ◌∷◌
    (ap (λ (k : ℕ). entry_by (unwrap_or (record_at (records_of es ++ (record_bytes (numbers_of e) ++ rest)) k) no_record)) (sym (records_length es)) ∙ entry_back (records_of es) rest e a.0)
    (entries_back es (record_bytes (numbers_of e) ++ rest) a.1)

-- ---- one replaced

head_or : Entry → List Entry → Entry
head_or d [] = d
head_or d (x ∷ xs) = x

tail_of : List Entry → List Entry
tail_of [] = []
tail_of (x ∷ xs) = xs

pub entries_replaced : (n : ℕ) (e : Entry) (f : ℕ → Entry) (es : List Entry) → 1 ≤ n → entries_to f (length es) ≡ es
    → entries_to (replacing (n - 1) e f) (length es) ≡ replaced n e es
unfolding head_or tail_of
entries_replaced n e f [] h q = refl
entries_replaced n e f (x ∷ es) h q = go (eqb n (m + 1)) refl (entries_replaced n e f es h tail)
  where
    m : ℕ
    m = length es

    tail : entries_to f (length es) ≡ es
    tail = ap tail_of q

    head : f (length es) ≡ x
    head = ap (head_or e) q

    go : (t : Bool) → eqb n (length es + 1) ≡ t → entries_to (replacing (n - 1) e f) (length es) ≡ replaced n e es
        → pick (eqb (length es) (n - 1)) e (f (length es)) ∷ entries_to (replacing (n - 1) e f) (length es) ≡ pick t (e ∷ es) (x ∷ replaced n e es)
    go true i r =
        let s : length es ≡ n - 1 = omega (arith, eqb-true n (length es + 1) i) in
        ap₂ ◌∷◌ (ap (λ (b : Bool). pick b e (f (length es))) (eq-eqb (length es) (n - 1) s))
        (entries_cong (replacing (n - 1) e f) f (length es) (λ j l. ap (λ (b : Bool). pick b e (f j)) (ne_eqb j (n - 1) (λ z. absurd (not-suc-le-zero {n = 0} (omega (arith, l, z, s)))))) ∙ tail)
    go false i r =
        ap₂ ◌∷◌ (ap (λ (b : Bool). pick b e (f (length es))) (ne_eqb (length es) (n - 1) (λ z. eqb-false n (length es + 1) i (omega (arith, z, h)))) ∙ head) r

pub replaced_length : (n : ℕ) (e : Entry) (es : List Entry) → length (replaced n e es) ≡ length es
replaced_length n e [] = refl
replaced_length n e (x ∷ es) = go (eqb n (length es + 1)) (replaced_length n e es)
  where
    go : (t : Bool) → length (replaced n e es) ≡ length es → length (pick t (e ∷ es) (x ∷ replaced n e es)) ≡ suc (length es)
    go true r = refl
    go false r = ap suc r

-- the log with that record
pub put_replaced : (n : ℕ) (e : Entry) (es : List Entry) (rest : List ℕ) → 1 ≤ n → n ≤ length es
    → put_record (records_of es ++ rest) (n - 1) (numbers_of e) ≡ records_of (replaced n e es) ++ rest
put_replaced n e [] rest h l = absurd (not-suc-le-zero {n = 0} (omega (arith, h, l)))
put_replaced n e (x ∷ es) rest h l = go (eqb n (length es + 1)) refl (λ (q : n ≤ length es). put_replaced n e es (record_bytes (numbers_of x) ++ rest) h q)
  where
    old : List ℕ
    old = record_bytes (numbers_of x)

    new : List ℕ
    new = record_bytes (numbers_of e)

    go : (t : Bool) → eqb n (length es + 1) ≡ t
        → (n ≤ length es → put_record (records_of es ++ (record_bytes (numbers_of x) ++ rest)) (n - 1) (numbers_of e) ≡ records_of (replaced n e es) ++ (record_bytes (numbers_of x) ++ rest))
        → put_record ((records_of es ++ record_bytes (numbers_of x)) ++ rest) (n - 1) (numbers_of e) ≡ records_of (pick t (e ∷ es) (x ∷ replaced n e es)) ++ rest
    go true i f =
        let s : n ≡ length es + 1 = eqb-true n (length es + 1) i in
        ap (λ (y : List ℕ). put_record y (n - 1) (numbers_of e)) (append_assoc (records_of es) old rest)
        ∙ put_over (records_of es) old rest new (8 * (n - 1)) (omega (arith, records_length es, s)) refl
        ∙ sym (append_assoc (records_of es) new rest)
    go false i f =
        ap (λ (y : List ℕ). put_record y (n - 1) (numbers_of e)) (append_assoc (records_of es) old rest)
        ∙ f (less (eqb-false n (length es + 1) i))
        ∙ sym (append_assoc (records_of (replaced n e es)) old rest)
      where
        less : (n ≡ length es + 1 → ⊥) → n ≤ length es
        less d = omega (arith, l, d)

-- ---- a fresh reading is history's run

pub played_run : (sheet : Sheet) (f : ℕ → Entry) (k : ℕ) → (played_to sheet f k).table ≡ run sheet (entries_to f k)
unfolding run
played_run sheet f zero = refl
played_run sheet f (suc k) =
    played_next (played_to sheet f k) (k + 1) (f k) ∙ ap (λ (t : Table). next_of t (k + 1) (f k)) (played_run sheet f k)
    ∙ ap (λ (n : ℕ). next_of (run sheet (entries_to f k)) (n + 1) (f k)) (sym (entries_length f k))

code_same : (sheet : Sheet) (f : ℕ → Entry) (k : ℕ) → code_of (played_to sheet f k).table (k + 1) (f k) ≡ code_of (run sheet (entries_to f k)) (length (entries_to f k) + 1) (f k)
code_same sheet f k =
    ap (λ (t : Table). code_of t (k + 1) (f k)) (played_run sheet f k) ∙ ap (λ (n : ℕ). code_of (run sheet (entries_to f k)) (n + 1) (f k)) (sym (entries_length f k))

pub played_all : (sheet : Sheet) (f : ℕ → Entry) (k : ℕ) → (played_to sheet f k).ok ≡ true → AllTaken sheet (entries_to f k)
played_all sheet f zero h = tt
played_all sheet f (suc k) h =
    let s = played_step (played_to sheet f k) (k + 1) (f k) h in
    (sym (code_same sheet f k) ∙ s.1, played_all sheet f k s.0)

pub all_played : (sheet : Sheet) (f : ℕ → Entry) (k : ℕ) → AllTaken sheet (entries_to f k) → (played_to sheet f k).ok ≡ true
unfolding played_of
all_played sheet f zero a = refl
all_played sheet f (suc k) a =
    ap₂ both (all_played sheet f k a.1) (eq-eqb (code_of (played_to sheet f k).table (k + 1) (f k)) 0 (code_same sheet f k ∙ a.0))
