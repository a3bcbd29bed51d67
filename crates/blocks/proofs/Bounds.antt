-- The numbers of an entry that a sheet allows are small: one of the twelve kinds, a seat of at most ten, nine digits of a, and b in a byte. Once for all kinds,
-- by their table. Assumes nothing.
use mathlib.Core.Path.{◌≡◌, refl, ◌∙◌}
use mathlib.Core.Bool.{Bool, true, false, not}
use Prim.Native.Nat.{ℕ, ◌≤◌, ◌<◌}
use native.Mathlib.Omega.{arith}
use lib.Dec.{ltb}
use borrow.Author.Tests.{ltb-true, eqb-true}
use Rattle.laws.specs.Tests.{both, either}
use Rattle.laws.proofs.Tests.{both_true}
use Rattle.laws.proofs.Rules.{all_below, below_all}
use Rattle.paper.specs.Paper.{is_sheet, between}
use Rattle.paper.specs.SheetAndEntries.{row_at, spared, ranged, spare, is_seat, least_in, in_span, makes_entry, numbers_fit}
use Rattle.paper.specs.declared.Sheet.{Sheet}
use Rattle.paper.specs.declared.Numbers.{Numbers}
use Rattle.paper.proofs.Codes.{between_in}
use Rattle.paper.proofs.Sheets.{good_ranged}
use Rattle.paper.proofs.Rows.{used_tests}

pub record Bounded (x : Numbers) : Type 0 where
  pub kind : x.kind < 12
  pub seat : x.seat ≤ 10
  pub a : x.a < 1000000000
  pub b : x.b < 256

-- a used number is at most what its range has as the greatest, and an unused one is 0
at_most : (used : Bool) (lo hi x : ℕ) → either (not used) (between lo hi x) ≡ true → spare used x ≡ true → x ≤ hi
at_most true lo hi x p q = (between_in lo hi x p).1
at_most false lo hi x p q = omega (arith, eqb-true x 0 q)

seat_most : (sheet : Sheet) (used : Bool) (x : ℕ) → either (not used) (is_seat sheet x) ≡ true → spare used x ≡ true → x ≤ sheet.seats
unfolding is_seat
seat_most sheet used x p q = at_most used 1 sheet.seats x p q

abbrev few : ℕ → Bool
few k = both (ltb (row_at k).a.most 1000000000) (ltb (row_at k).b.most 256)

all_few : all_below 12 few ≡ true
all_few = refl

pub numbers_bounded : (sheet : Sheet) (x : Numbers) → is_sheet sheet ≡ true → numbers_fit sheet x ≡ true → Bounded x
numbers_bounded sheet x s f =
    let p = both_true (makes_entry x) (ranged sheet (row_at x.kind) x) f in
    let m = both_true (ltb x.kind 12) (spared (row_at x.kind) x) p.0 in
    let row = row_at x.kind in
    let zero-sab = both_true (spare row.seat x.seat) (both (spare row.a.used x.a) (spare row.b.used x.b)) m.1 in
    let zero-ab = both_true (spare row.a.used x.a) (spare row.b.used x.b) zero-sab.1 in
    let seat-in = either (not row.seat) (is_seat sheet x.seat) in
    let a_in = either (not row.a.used) (in_span sheet.deck row.a x.a) in
    let b-in = either (not row.b.used) (in_span sheet.deck row.b x.b) in
    let in-sab = both_true seat-in (both a_in b-in) (used_tests row.seat row.a.used row.b.used (is_seat sheet x.seat) (in_span sheet.deck row.a x.a) (in_span sheet.deck row.b x.b) ∙ p.1) in
    let in-ab = both_true a_in b-in in-sab.1 in
    let kind : x.kind < 12 = ltb-true x.kind 12 m.0 in
    let few-ab = both_true (ltb row.a.most 1000000000) (ltb row.b.most 256) (below_all 12 few all_few x.kind kind) in
    let most-a : row.a.most < 1000000000 = ltb-true _ _ few-ab.0 in
    let most-b : row.b.most < 256 = ltb-true _ _ few-ab.1 in
    let seats : sheet.seats ≤ 10 = (good_ranged sheet s).seats.1 in
    let seat : x.seat ≤ sheet.seats = seat_most sheet row.seat x.seat in-sab.0 zero-sab.0 in
    let a : x.a ≤ row.a.most = at_most row.a.used (least_in sheet.deck row.a) row.a.most x.a in-ab.0 zero-ab.0 in
    let b : x.b ≤ row.b.most = at_most row.b.used (least_in sheet.deck row.b) row.b.most x.b in-ab.1 zero-ab.1 in
    record { kind = kind; seat = omega arith; a = omega arith; b = omega arith }
