-- Whole blocks that are answered one after another where they lie: one block more, and the loop over them. For any part and any room. Assumes nothing.
use mathlib.Core.Path.{◌≡◌, refl, sym, ap, subst, ◌∙◌}
use mathlib.Core.List.{List, [], ◌++◌, append_assoc, append-nil}
use mathlib.Core.Bool.{Bool, true, false}
use mathlib.Core.Logic.{⊎_elim}
use Prim.Native.Nat.{ℕ, zero, suc, ◌+◌, ◌-◌, ◌≤◌, ◌<◌}
use native.Mathlib.Omega.{arith}
use lib.ListN.{length, drop, length-append, length-drop}
use lib.Seq.{drop-drop}
use lib.Dec.{leb}
use borrow.Author.Tests.{ltb-true, le-leb, lt-leb}
use borrow.Rule.Slice.PartMut.{mid_of, put_mid}
use Rattle.laws.specs.Tests.{both}
use Rattle.laws.proofs.Tests.{test, both_true}
use Rattle.laws.proofs.Conjunction.{both_none}
use Rattle.text.specs.Line.{line_len, after_lines}
use Rattle.blocks.specs.Block.{rest_of}
use Rattle.blocks.specs.Front.{block_ended, front_of}
use Rattle.blocks.specs.declared.front.Front.{Front}
use Rattle.writing.specs.AnswerSheet.{Wrote, over}
use Rattle.writing.proofs.Sheets.{then}
use Rattle.blocks.proofs.Blocks.{rest_shorter, rest_drop}
use Rattle.text.proofs.Lines.{after_lines_no_longer}
use Rattle.table.specs.declared.table.Table.{Table}
use Rattle.table.specs.Take.{Sound}
use Rattle.desk.specs.Desk.{judged_of, block_bytes}
use Rattle.stream.specs.declared.place.RanInPlace.{RanInPlace}
use Rattle.stream.specs.InPlace.{InPlace, stopped, behind, answers_front, in_place_from, in_place_of, ran_of}

-- ---- one block more

-- a whole block has bytes
ended_some : (part : List ℕ) → block_ended part ≡ true → 0 < length part
unfolding block_ended
ended_some part e = omega (arith, after_lines_no_longer 4 part, ltb-true (line_len (after_lines 4 part)) (length (after_lines 4 part)) e)

pub front_some : (t : Table) (part : List ℕ) (room : ℕ) → answers_front t part room ≡ true → 0 < length part
front_some t part room e = ended_some part (both_true (block_ended part) (leb (length (block_bytes t part)) room) e).0

pub empty_front : (t : Table) (part : List ℕ) (room : ℕ) → length part ≤ 0 → answers_front t part room ≡ false
empty_front t part room h = ⊎_elim (λ e. absurd (omega (arith, front_some t part room e))) (λ e. e) (test (answers_front t part room))

pub from_none : (k : ℕ) (t : Table) (part : List ℕ) (room : ℕ) → answers_front t part room ≡ false → in_place_from k t part room ≡ stopped t part
from_none zero t part room e = refl
from_none (suc k) t part room e = rw e

pub from_more : (k : ℕ) (t : Table) (part : List ℕ) (room : ℕ) → answers_front t part room ≡ true → in_place_from (suc k) t part room
    ≡ behind (block_bytes t part) (in_place_from k (judged_of t part).table (rest_of part) (room - length (block_bytes t part)))
from_more k t part room e = rw e

-- a larger bound than the part is long makes no difference
bound_free : (j k : ℕ) (t : Table) (part : List ℕ) (room : ℕ) → length part ≤ j → length part ≤ k → in_place_from j t part room ≡ in_place_from k t part room
bound_free zero k t part room p q = sym (from_none k t part room (empty_front t part room p))
bound_free (suc j) zero t part room p q = from_none (suc j) t part room (empty_front t part room q)
bound_free (suc j) (suc k) t part room p q = ⊎_elim
    (λ e.
    let s = rest_shorter part (front_some t part room e) in
    from_more j t part room e
    ∙ ap (behind (block_bytes t part)) (bound_free j k (judged_of t part).table (rest_of part) (room - length (block_bytes t part)) (omega arith) (omega arith))
    ∙ sym (from_more k t part room e))
    (λ e. from_none (suc j) t part room e ∙ sym (from_none (suc k) t part room e))
    (test (answers_front t part room))

pub place_none : (t : Table) (part : List ℕ) (room : ℕ) → answers_front t part room ≡ false → in_place_of t part room ≡ stopped t part
unfolding in_place_of
place_none t part room e = from_none (length part) t part room e

pub place_more : (t : Table) (part : List ℕ) (room : ℕ) → answers_front t part room ≡ true → in_place_of t part room
    ≡ behind (block_bytes t part) (in_place_of (judged_of t part).table (rest_of part) (room - length (block_bytes t part)))
unfolding in_place_of
place_more t part room e =
    let s = rest_shorter part (front_some t part room e) in
    let m = length part - 1 in
    let n : length part ≡ suc m = omega arith in
    ap (λ (k : ℕ). in_place_from k t part room) n
    ∙ from_more m t part room e
    ∙ ap (behind (block_bytes t part)) (bound_free m (length (rest_of part)) (judged_of t part).table (rest_of part) (room - length (block_bytes t part)) (omega arith) (omega arith))

-- ---- what is left of the part

from_drop : (k : ℕ) (t : Table) (part : List ℕ) (room : ℕ) → (n : ℕ) × ((in_place_from k t part room).left ≡ drop n part)
from_drop zero t part room = (0, refl)
from_drop (suc k) t part room = ⊎_elim
    (λ e.
    let m : ℕ = length part - length (rest_of part) in
    let r = from_drop k (judged_of t part).table (rest_of part) (room - length (block_bytes t part)) in
    (m + r.0, ap (λ (p : InPlace). p.left) (from_more k t part room e) ∙ r.1 ∙ ap (drop r.0) (sym (rest_drop part)) ∙ drop-drop r.0 m part))
    (λ e. (0, ap (λ (p : InPlace). p.left) (from_none (suc k) t part room e)))
    (test (answers_front t part room))

-- some bytes were used up where a block was answered, and none else
pub uses_some : (t : Table) (part : List ℕ) (room : ℕ) → answers_front t part room ≡ true → 0 < (ran_of (in_place_of t part room) part).used
unfolding in_place_of
uses_some t part room e =
    let s = rest_shorter part (front_some t part room e) in
    let r = from_drop (length (rest_of part)) (judged_of t part).table (rest_of part) (room - length (block_bytes t part)) in
    omega (arith, ap (λ (p : InPlace). length p.left) (place_more t part room e), ap length r.1, length-drop r.0 (rest_of part))

pub uses_none : (t : Table) (part : List ℕ) (room : ℕ) → answers_front t part room ≡ false → (ran_of (in_place_of t part room) part).used ≡ 0
uses_none t part room e = omega (arith, ap (λ (p : InPlace). length p.left) (place_none t part room e))

pub behind_behind : (xs ys : List ℕ) (p : InPlace) → behind xs (behind ys p) ≡ behind (xs ++ ys) p
behind_behind xs ys p = ap (λ (bs : List ℕ). record { table = p.table; bytes = bs; left = p.left }) (sym (append_assoc xs ys p.bytes))

-- ---- the loop: what was written so far, and what is left

pub record Running (t : Table) (part out : List ℕ) (table : Table) (left now : List ℕ) (at : ℕ) : Type 0 where
  pub bs : List ℕ
  pub wrote : Wrote bs out now at
  pub within : at ≤ length out
  pub same : length now ≡ length out
  pub inside : length left ≤ length part
  pub all : in_place_of t part (length out) ≡ behind bs (in_place_of table left (length out - at))
  pub sound : Sound table

pub run_start : (t : Table) (part out : List ℕ) → Sound t → Running t part out t part out 0
run_start t part out h = record {
  bs = [];
  wrote = record { count = refl; sheet = refl };
  within = omega arith;
  same = refl;
  inside = omega arith;
  all = let e : length out - 0 ≡ length out = omega arith in rw e;
  sound = h;
}

-- the contract
abbrev pub Ends : Table → List ℕ → List ℕ → Table → ℕ → List ℕ → ℕ → Type 0
Ends t part out table used now at =
    (◌≡◌ {A = RanInPlace} (record { table = table; used = used; written = at }) (ran_of (in_place_of t part (length out)) part))
    × ((now ≡ over (in_place_of t part (length out)).bytes out) × (Sound table × (used ≤ length part) × (at ≤ length out)))

module _ {t : Table} {part out : List ℕ} {table : Table} {left now : List ℕ} {at : ℕ} (g : Running t part out table left now at) where
  -- no further block is answered
  run_ends : {used : ℕ} → answers_front table left (length out - at) ≡ false → used ≡ length part - length left → Ends t part out table used now at
  run_ends {used} z u =
      let w : Wrote (g.bs ++ []) out now at = subst (λ (x : List ℕ). Wrote x out now at) (sym (append-nil g.bs)) g.wrote in
      let q : in_place_of t part (length out) ≡ record { table = table; bytes = g.bs ++ []; left = left } =
      g.all ∙ ap (behind g.bs) (place_none table left (length out - at) z) in (
        same-ran u w.count ∙ ap (λ (p : InPlace). ran_of p part) (sym q),
        (w.sheet ∙ ap (λ (p : InPlace). over p.bytes out) (sym q), (g.sound, omega (arith, u), g.within)),
      )
    where
      same-ran : {u v m n : ℕ} → u ≡ v → m ≡ n → ◌≡◌ {A = RanInPlace} (record { table = table; used = u; written = m }) (record { table = table; used = v; written = n })
      same-ran e f = cc

  -- the part is used up
  pub run_out : {used : ℕ} → length left ≤ 0 → used ≡ length part - length left → Ends t part out table used now at
  run_out h u = run_ends (empty_front table left (length out - at) h) u

  -- the answer to the next block has no room
  pub run_full : {used : ℕ} → length out - at < length (block_bytes table left) → used ≡ length part - length left → Ends t part out table used now at
  run_full h u = run_ends (ap (both (block_ended left)) (lt-leb (length (block_bytes table left)) (length out - at) h) ∙ both_none (block_ended left)) u

  module _ {f : Front} (e : f ≡ front_of left) where
    -- what follows the block is shorter
    pub run-less : {rest : List ℕ} → rest ≡ rest_of left → 0 < length left → length rest < length left
    run-less r h = omega (arith, ap length r, rest_shorter left h)

    -- the next block is not whole
    pub run-open : {used : ℕ} → f.whole ≡ false → used ≡ length part - length left → Ends t part out table used now at
    run-open h u =
        let z : block_ended left ≡ false = sym (ap (λ (x : Front). x.whole) e) ∙ h in
        run_ends (ap (λ (x : Bool). both x (leb (length (block_bytes table left)) (length out - at))) z) u

    -- it was answered
    pub run-turn : {u : Table} {k : ℕ} {mid after rest : List ℕ} → f.whole ≡ true → length (block_bytes table left) ≤ length out - at
        → Wrote (block_bytes table left) (mid_of at (length now - at) now) mid k → after ≡ put_mid at (length now - at) now mid
        → u ≡ (judged_of table left).table → Sound u → rest ≡ rest_of left → Running t part out u rest after (at + k)
    run-turn {u} {k} {mid} {after} {rest} h fit w r tab s d =
        let bytes : List ℕ = block_bytes table left in
        let xs : List ℕ = g.bs ++ bytes in
        let more : Wrote xs out after (at + k) = subst (λ (x : List ℕ). Wrote xs out x (at + k)) (sym r) (then g.wrote w) in
        let whole : block_ended left ≡ true = sym (ap (λ (x : Front). x.whole) e) ∙ h in
        let front : answers_front table left (length out - at) ≡ true =
        ap (λ (x : Bool). both x (leb (length bytes) (length out - at))) whole ∙ le-leb (length bytes) (length out - at) fit in
        let size : k ≡ length bytes = w.count in
        let within : at + k ≤ length out = omega (arith, size, fit, g.within) in
        let m : length out - (at + k) ≡ length out - at - length bytes = omega (arith, size) in
        record {
          bs = xs;
          wrote = more;
          within = within;
          same = omega (arith, ap length more.sheet, length-append xs (drop (length xs) out), length-drop (length xs) out, more.count, within);
          inside = omega (arith, ap length d, rest_shorter left (front_some table left (length out - at) front), g.inside);
          all =
              g.all
              ∙ ap (behind g.bs) (place_more table left (length out - at) front)
              ∙ behind_behind g.bs bytes (in_place_of (judged_of table left).table (rest_of left) (length out - at - length bytes))
              ∙ ap (λ (x : Table). behind xs (in_place_of x (rest_of left) (length out - at - length bytes))) (sym tab)
              ∙ ap (λ (x : List ℕ). behind xs (in_place_of u x (length out - at - length bytes))) (sym d)
              ∙ ap (λ (x : ℕ). behind xs (in_place_of u rest x)) (sym m);
          sound = s;
        }
