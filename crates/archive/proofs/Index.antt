-- The index that a fresh reading writes is the rows of its entries, joined, before what lay behind them; and the rows before a corrected entry are the same ones.
-- Assumes nothing.
use mathlib.Core.Path.{◌≡◌, refl, sym, ap, ◌∙◌}
use mathlib.Core.Bool.{Bool, true, false}
use mathlib.Core.List.{List, [], ◌∷◌, ◌++◌, append_assoc, append-nil, map}
use Prim.Native.Nat.{ℕ, zero, suc, ◌+◌, ◌*◌, ◌≤◌}
use native.Mathlib.Omega.{arith}
use lib.ListN.{length, take, drop, length-append, length-drop}
use lib.Seq.{take-append_seam, drop-append_seam}
use lib.Dec.{eqb}
use Rattle.laws.specs.Tests.{pick, one}
use Rattle.paper.specs.Paper.{is_sheet}
use Rattle.paper.specs.declared.Sheet.{Sheet}
use Rattle.paper.specs.declared.Entry.{Entry}
use Rattle.chairs.specs.declared.Chair.{Chair}
use Rattle.writing.specs.AnswerSheet.{over}
use Rattle.writing.proofs.Sheets.{over_over}
use Rattle.table.specs.Take.{next_of}
use Rattle.table.specs.declared.table.Table.{Table}
use Rattle.records.specs.Bytes.{put_at}
use Rattle.records.specs.Stored.{row_bytes, put_row}
use Rattle.records.proofs.Words.{row_length}
use Rattle.records.proofs.Puts.{put_room}
use Rattle.fresh.specs.Reading.{is_hand, stack_of, index_after, rows_begun, rowed_from, index_to}
use Rattle.history.specs.History.{run, AllTaken}
use Rattle.history.proofs.Reached.{reached_standing}
use Rattle.archive.specs.Archive.{hands_in, row_if, rows_of, replaced, before}
use Rattle.archive.proofs.Lists.{entries_to, entries_length}

-- ---- bytes over a buffer

pub front_over : (bs rest : List ℕ) → bs ++ rest ≡ over bs (bs ++ rest)
front_over bs rest = ap (λ (r : List ℕ). bs ++ r) (sym (drop-append_seam bs rest))

pub over_twice : (bs l : List ℕ) {new : List ℕ} → new ≡ over bs l → new ≡ over bs new
over_twice bs l {new} e = e ∙ front_over bs (drop (length bs) l) ∙ ap (over bs) (sym e)

pub over_length : (bs l : List ℕ) → length bs ≤ length l → length (over bs l) ≡ length l
over_length bs l h = length-append bs (drop (length bs) l) ∙ omega (arith, length-drop (length bs) l, h)

-- a buffer that begins with bs has room for them
pub over_room : (bs l : List ℕ) → l ≡ over bs l → length bs ≤ length l
over_room bs l e = omega (arith, ap length e, length-append bs (drop (length bs) l))

pub put_behind : (xs bs l : List ℕ) (at : ℕ) → length xs ≡ at → at + length bs ≤ length l → put_at at bs (over xs l) ≡ over (xs ++ bs) l
put_behind xs bs l at e h =
    ap (λ (k : ℕ). put_at k bs (over xs l)) (sym e)
    ∙ put_room (length xs) bs (over xs l) (omega (arith, over_length xs l (omega (arith, e, h)), e, h))
    ∙ over_over xs bs l

-- ---- the rows

chairs_ten : (sheet : Sheet) → is_sheet sheet ≡ true → (es : List Entry) → AllTaken sheet es → length (map stack_of (run sheet es).chairs) ≡ 10
chairs_ten sheet ok es a = mapped (run sheet es).chairs ∙ (reached_standing sheet ok es a).size
  where
    mapped : (cs : List Chair) → length (map stack_of cs) ≡ length cs
    mapped [] = refl
    mapped (c ∷ cs) = ap suc (mapped cs)

row_if_length : (sheet : Sheet) → is_sheet sheet ≡ true → (es : List Entry) (e : Entry) → AllTaken sheet es → length (row_if sheet es e) ≡ 44 * one (is_hand e)
row_if_length sheet ok es e a = go (is_hand e)
  where
    go : (b : Bool) → length (pick b (row_bytes (length es + 1) (map stack_of (run sheet es).chairs)) []) ≡ 44 * one b
    go true = row_length (length es + 1) (map stack_of (run sheet es).chairs) (chairs_ten sheet ok es a)
    go false = refl

pub rows_length : (sheet : Sheet) → is_sheet sheet ≡ true → (es : List Entry) → AllTaken sheet es → length (rows_of sheet es) ≡ 44 * hands_in es
rows_length sheet ok [] a = refl
rows_length sheet ok (e ∷ es) a =
    length-append (rows_of sheet es) (row_if sheet es e) ∙ omega (arith, rows_length sheet ok es a.1, row_if_length sheet ok es e a.1)

-- one row more, where the entry opens a hand
pub row_more : (sheet : Sheet) → is_sheet sheet ≡ true → (es : List Entry) (e : Entry) (index : List ℕ) → AllTaken sheet es → 44 * (hands_in es + one (is_hand e)) ≤ length index
    → index_after (is_hand e) (hands_in es) (length es + 1) (run sheet es).chairs (over (rows_of sheet es) index) ≡ over (rows_of sheet (e ∷ es)) index
unfolding index_after
row_more sheet ok es e index a room = go (is_hand e) room
  where
    row : List ℕ
    row = row_bytes (length es + 1) (map stack_of (run sheet es).chairs)

    go : (b : Bool) → 44 * (hands_in es + one b) ≤ length index
        → pick b (put_row (over (rows_of sheet es) index) (hands_in es) (length es + 1) (map stack_of (run sheet es).chairs)) (over (rows_of sheet es) index)
        ≡ over (rows_of sheet es ++ pick b (row_bytes (length es + 1) (map stack_of (run sheet es).chairs)) []) index
    go true h =
        put_behind (rows_of sheet es) row index (44 * hands_in es) (rows_length sheet ok es a)
        (omega (arith, h, row_length (length es + 1) (map stack_of (run sheet es).chairs) (chairs_ten sheet ok es a)))
    go false h = ap (λ (r : List ℕ). over r index) (sym (append-nil (rows_of sheet es)))

-- ---- a fresh reading

rowed_run : (sheet : Sheet) (f : ℕ → Entry) (k : ℕ) → ((rowed_from (rows_begun sheet) f k).table ≡ run sheet (entries_to f k)) × ((rowed_from (rows_begun sheet) f k).hands ≡ hands_in (entries_to f k))
unfolding run
rowed_run sheet f zero = (refl, refl)
rowed_run sheet f (suc k) =
    let r = rowed_run sheet f k in (
      ap (λ (t : Table). next_of t (k + 1) (f k)) r.0 ∙ ap (λ (n : ℕ). next_of (run sheet (entries_to f k)) (n + 1) (f k)) (sym (entries_length f k)),
      ap (λ (n : ℕ). n + one (is_hand (f k))) r.1,
    )

pub index_rows : (sheet : Sheet) → is_sheet sheet ≡ true → (f : ℕ → Entry) (k : ℕ) (index : List ℕ) → AllTaken sheet (entries_to f k)
    → 44 * hands_in (entries_to f k) ≤ length index → index_to sheet f k index ≡ over (rows_of sheet (entries_to f k)) index
index_rows sheet ok f zero index a room = refl
index_rows sheet ok f (suc k) index a room =
    let r = rowed_run sheet f k in
    let es = entries_to f k in
    let less : 44 * hands_in es ≤ length index = omega (arith, room) in
    let p = rowed_from (rows_begun sheet) f k in
    ap (λ (l : List ℕ). index_after (is_hand (f k)) p.hands (k + 1) p.table.chairs l) (index_rows sheet ok f k index a.1 less)
    ∙ ap (λ (h : ℕ). index_after (is_hand (f k)) h (k + 1) p.table.chairs (over (rows_of sheet es) index)) r.1
    ∙ ap (λ (t : Table). index_after (is_hand (f k)) (hands_in es) (k + 1) t.chairs (over (rows_of sheet es) index)) r.0
    ∙ ap (λ (n : ℕ). index_after (is_hand (f k)) (hands_in es) (n + 1) (run sheet es).chairs (over (rows_of sheet es) index)) (sym (entries_length f k))
    ∙ row_more sheet ok es (f k) index a.1 room

-- ---- the rows before the n-th entry stand at the front, whatever that entry is

pub rows_before : (sheet : Sheet) (n : ℕ) (es : List Entry) → (t : List ℕ) × (rows_of sheet es ≡ rows_of sheet (before n es) ++ t)
rows_before sheet n [] = ([], refl)
rows_before sheet n (x ∷ es) = go (eqb n (length es + 1)) (rows_before sheet n es)
  where
    go : (b : Bool) → ((t : List ℕ) × (rows_of sheet es ≡ rows_of sheet (before n es) ++ t))
        → (t : List ℕ) × (rows_of sheet es ++ row_if sheet es x ≡ rows_of sheet (pick b es (before n es)) ++ t)
    go true r = (row_if sheet es x, refl)
    go false r = (r.0 ++ row_if sheet es x, ap (λ (l : List ℕ). l ++ row_if sheet es x) r.1 ∙ append_assoc (rows_of sheet (before n es)) r.0 (row_if sheet es x))

pub rows_replaced : (sheet : Sheet) (n : ℕ) (e : Entry) (es : List Entry) → (t : List ℕ) × (rows_of sheet (replaced n e es) ≡ rows_of sheet (before n es) ++ t)
rows_replaced sheet n e [] = ([], refl)
rows_replaced sheet n e (x ∷ es) = go (eqb n (length es + 1)) (rows_replaced sheet n e es)
  where
    later : List ℕ
    later = row_if sheet (replaced n e es) x

    go : (b : Bool) → ((t : List ℕ) × (rows_of sheet (replaced n e es) ≡ rows_of sheet (before n es) ++ t))
        → (t : List ℕ) × (rows_of sheet (pick b (e ∷ es) (x ∷ replaced n e es)) ≡ rows_of sheet (pick b es (before n es)) ++ t)
    go true r = (row_if sheet es e, refl)
    go false r = (r.0 ++ later, ap (λ (l : List ℕ). l ++ later) r.1 ∙ append_assoc (rows_of sheet (before n es)) r.0 later)

-- so the bytes of those rows are the same in both buffers
pub same_front : (xs t u l : List ℕ) {new : List ℕ} (k : ℕ) → length xs ≡ k → l ≡ over (xs ++ t) l → new ≡ over (xs ++ u) l → take k new ≡ take k l
same_front xs t u l {new} k e f g =
    ap (λ (m : ℕ). take m new) (sym e) ∙ ap (take (length xs)) g ∙ front u ∙ sym (front t) ∙ ap (take (length xs)) (sym f) ∙ ap (λ (m : ℕ). take m l) e
  where
    front : (v : List ℕ) → take (length xs) (over (xs ++ v) l) ≡ xs
    front v = ap (take (length xs)) (append_assoc xs v (drop (length (xs ++ v)) l)) ∙ take-append_seam xs (v ++ drop (length (xs ++ v)) l)
