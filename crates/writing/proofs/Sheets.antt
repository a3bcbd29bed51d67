-- Laws of writing into a sheet: writers one behind the other, and with too little room. Assumes nothing.
use mathlib.Core.Path.{◌≡◌, refl, sym, ◌∙◌}
use mathlib.Core.List.{List, [], ◌∷◌, ◌++◌, append_assoc}
use Prim.Native.Nat.{ℕ, suc, ◌+◌, ◌-◌, ◌≤◌, ◌<◌}
use native.Mathlib.Numerals.{add-one}
use lib.ListN.{length, take, drop, set, length-append}
use lib.Seq.{take-append_seam, drop-append_seam, drop-drop, drop-cons, set-append_seam, set_split}
use borrow.Rule.Slice.PartMut.{mid_of, put_mid}
use Rattle.std.specs.Prelude.{Ok, Err}
use Rattle.paper.specs.declared.refusal.Refusal.TheVariants.{NoRoom}
use Rattle.writing.specs.AnswerSheet.{over, Wrote, fits, sheet_after, written_of}
use borrow.Author.Tests.{le-leb, lt-leb}
use Rattle.text.proofs.Parts.{part_is, part_back}
use mathlib.Core.Bool.{true, false}

-- writing ys behind xs writes xs ++ ys
pub over_over : (xs ys l : List ℕ) → take (length xs) (over xs l) ++ over ys (drop (length xs) (over xs l)) ≡ over (xs ++ ys) l
over_over xs ys l =
    rw (take-append_seam xs (drop (length xs) l), drop-append_seam xs (drop (length xs) l), drop-drop (length ys) (length xs) l, length-append xs ys)
    (sym (append_assoc xs ys (drop (length xs + length ys) l)))

-- a writer that was lent the part behind what the writers before it wrote
pub then : {xs ys l s t : List ℕ} {a b : ℕ} → Wrote xs l s a → Wrote ys (mid_of a (length s - a) s) t b
    → Wrote (xs ++ ys) l (put_mid a (length s - a) s t) (a + b)
then {xs} {ys} {l} {s} {t} {a} {b} p q = record {
  count = rw (length-append xs ys, p.count, q.count);
  sheet = part_back a s t ∙ rw (q.sheet, part_is a s, p.sheet, p.count) (over_over xs ys l);
}

-- one byte more, by a store
pub over_set : (xs l : List ℕ) (b : ℕ) → length xs < length l → set (over xs l) (length xs) b ≡ over (xs ++ (b ∷ [])) l
over_set xs l b h =
    rw (length-append xs (b ∷ []), add-one (length xs), drop-cons l (length xs) 0)
    (set-append_seam xs _ (drop (suc (length xs)) l) b ∙ sym (append_assoc xs (b ∷ []) (drop (suc (length xs)) l)))

-- a store just behind what was written
pub push : {xs l s : List ℕ} {a : ℕ} (b : ℕ) → length xs < length l → Wrote xs l s a → Wrote (xs ++ (b ∷ [])) l (set s a b) (a + 1)
push {xs} {l} {s} {a} b h p = record {
  count = rw (length-append xs (b ∷ []), p.count);
  sheet = rw (p.sheet, p.count) (over_set xs l b h);
}

-- a first byte, by a store
pub push_first : (l : List ℕ) (b : ℕ) → 0 < length l → Wrote (b ∷ []) l (set l 0 b) 1
push_first l b h = record { count = refl; sheet = set_split l 0 b h }

-- the same bytes, said in another way
pub same_bytes : {xs ys l s : List ℕ} {a : ℕ} → ys ≡ xs → Wrote xs l s a → Wrote ys l s a
same_bytes e w = rw e w

-- ---- with and without room

pub no_room : (bs l : List ℕ) → length l < length bs → (Err NoRoom ≡ written_of bs l) × (l ≡ sheet_after bs l)
no_room bs l h =
    let e : fits bs l ≡ false = lt-leb (length bs) (length l) h in
    (rw e, rw e)

pub with_room : {bs l s : List ℕ} {r : ℕ} → length bs ≤ length l → Wrote bs l s r → (Ok r ≡ written_of bs l) × (s ≡ sheet_after bs l)
with_room {bs} {l} {s} {r} h w =
    let e : fits bs l ≡ true = le-leb (length bs) (length l) h in
    (rw (e, w.count), rw e w.sheet)
