-- Laws of the whole log.
use Rattle.std.specs.Prelude.{Result, Ok, Err}
use Rattle.paper.specs.declared.refusal.Refusal.TheVariants.{BadSheet, NoRoom}
use Rattle.paper.specs.declared.refusal.Refusal.{Refusal}
use Rattle.desk.specs.Log.{opened_of, blocks_from, eleven, output_from, output_of, fitting, table_in, blocks_in, answers_in, output_in, output_in_from}
use mathlib.Core.Path.{◌≡◌, refl, sym, ap, subst, ◌∙◌}
use mathlib.Core.List.{List, [], ◌++◌, append_assoc, append-nil}
use mathlib.Core.Bool.{Bool, true, false}
use Prim.Native.Nat.{ℕ, zero, suc, ◌+◌, ◌-◌, ◌≤◌, ◌<◌}
use native.Mathlib.Omega.{arith}
use lib.ListN.{length, take, drop, length-append, length-drop}
use lib.Dec.{eqb, leb}
use lib.Seq.{take_all}
use borrow.Author.Tests.{eq-eqb, ne_eqb, eqb-false, leb-true, le-leb}
use borrow.Rule.Slice.PartMut.{mid_of, put_mid}
use Rattle.laws.specs.Tests.{pick}
use Rattle.blocks.specs.Block.{rest_of}
use Rattle.writing.specs.AnswerSheet.{Wrote, over, fits, sheet_after}
use Rattle.writing.proofs.Sheets.{then}
use Rattle.text.proofs.Parts.{part_is}
use Rattle.blocks.proofs.Blocks.{rest_shorter}
use Rattle.text.proofs.Lines.{after_lines_no_longer}
use Rattle.text.specs.TableSheet.{sheet_lines, sheet_end}
use Rattle.paper.specs.declared.Sheet.{Sheet}
use Rattle.table.specs.declared.table.Table.{Table}
use Rattle.table.specs.Take.{Sound, fresh_table}
use Rattle.desk.specs.declared.Answered.{Answered}
use Rattle.desk.specs.Desk.{judged_of, block_bytes, answered_from, answered_of}

-- ---- more fuel than the log is long makes no difference

pub fuel_free : (j k : ℕ) (t : Table) (log : List ℕ) → length log ≤ j → length log ≤ k → blocks_from j t log ≡ blocks_from k t log
fuel_free zero zero t log p q = refl
fuel_free zero (suc k) t log p q = rw (eq-eqb (length log) 0 (omega arith))
fuel_free (suc j) zero t log p q = rw (eq-eqb (length log) 0 (omega arith))
fuel_free (suc j) (suc k) t log p q = go (eqb (length log) 0) refl (λ h i. fuel_free j k (judged_of t log).table (rest_of log) h i)
  where
    go : (b : Bool) → eqb (length log) 0 ≡ b
        → (length (rest_of log) ≤ j → length (rest_of log) ≤ k → blocks_from j (judged_of t log).table (rest_of log) ≡ blocks_from k (judged_of t log).table (rest_of log))
        → pick b [] (block_bytes t log ++ blocks_from j (judged_of t log).table (rest_of log)) ≡ pick b [] (block_bytes t log ++ blocks_from k (judged_of t log).table (rest_of log))
    go true e rec = refl
    go false e rec =
        let s = rest_shorter log (omega (arith, eqb-false (length log) 0 e)) in
        ap (λ (r : List ℕ). block_bytes t log ++ r) (rec (omega arith) (omega arith))

pub fuel_free_in : (j k : ℕ) (t : Table) (log : List ℕ) (room : ℕ) → length log ≤ j → length log ≤ k → blocks_in j t log room ≡ blocks_in k t log room
fuel_free_in zero zero t log room p q = refl
fuel_free_in zero (suc k) t log room p q = rw (eq-eqb (length log) 0 (omega arith))
fuel_free_in (suc j) zero t log room p q = rw (eq-eqb (length log) 0 (omega arith))
fuel_free_in (suc j) (suc k) t log room p q =
    go (eqb (length log) 0) refl (λ h i. fuel_free_in j k (table_in t log room) (rest_of log) (room - length (fitting (block_bytes t log) room)) h i)
  where
    go : (b : Bool) → eqb (length log) 0 ≡ b
        → (length (rest_of log) ≤ j → length (rest_of log) ≤ k
        → blocks_in j (table_in t log room) (rest_of log) (room - length (fitting (block_bytes t log) room))
        ≡ blocks_in k (table_in t log room) (rest_of log) (room - length (fitting (block_bytes t log) room)))
        → pick b [] (fitting (block_bytes t log) room ++ blocks_in j (table_in t log room) (rest_of log) (room - length (fitting (block_bytes t log) room)))
        ≡ pick b [] (fitting (block_bytes t log) room ++ blocks_in k (table_in t log room) (rest_of log) (room - length (fitting (block_bytes t log) room)))
    go true e rec = refl
    go false e rec =
        let s = rest_shorter log (omega (arith, eqb-false (length log) 0 e)) in
        ap (λ (r : List ℕ). fitting (block_bytes t log) room ++ r) (rec (omega arith) (omega arith))

-- ---- with room for all, all is written

pub room_enough : (k : ℕ) (t : Table) (log : List ℕ) (room : ℕ) → length (blocks_from k t log) ≤ room → blocks_in k t log room ≡ blocks_from k t log
room_enough zero t log room h = refl
room_enough (suc k) t log room h = go (eqb (length log) 0) (λ i. room_enough k (judged_of t log).table (rest_of log) (room - length (block_bytes t log)) i) h
  where
    go : (b : Bool)
        → (length (blocks_from k (judged_of t log).table (rest_of log)) ≤ room - length (block_bytes t log)
        → blocks_in k (judged_of t log).table (rest_of log) (room - length (block_bytes t log)) ≡ blocks_from k (judged_of t log).table (rest_of log))
        → length (pick b [] (block_bytes t log ++ blocks_from k (judged_of t log).table (rest_of log))) ≤ room
        → pick b [] (fitting (block_bytes t log) room ++ blocks_in k (table_in t log room) (rest_of log) (room - length (fitting (block_bytes t log) room)))
        ≡ pick b [] (block_bytes t log ++ blocks_from k (judged_of t log).table (rest_of log))
    go true rec h = refl
    go false rec h =
        let n = length-append (block_bytes t log) (blocks_from k (judged_of t log).table (rest_of log)) in
        let f : leb (length (block_bytes t log)) room ≡ true = le-leb (length (block_bytes t log)) room (omega arith) in
        rw f (ap (λ (r : List ℕ). block_bytes t log ++ r) (rec (omega arith)))

-- ---- one block more

pub answers_none : (t : Table) (log : List ℕ) (room : ℕ) → length log ≡ 0 → answers_in t log room ≡ []
unfolding answers_in
answers_none t log room e = rw e

pub answers_more : (t : Table) (log : List ℕ) (room : ℕ) → 0 < length log → answers_in t log room
    ≡ fitting (block_bytes t log) room ++ answers_in (table_in t log room) (rest_of log) (room - length (fitting (block_bytes t log) room))
unfolding answers_in
answers_more t log room h =
    let s = rest_shorter log h in
    let m = length log - 1 in
    let e : length log ≡ suc m = omega arith in
    let z : eqb (length log) 0 ≡ false = ne_eqb (length log) 0 (λ q. omega arith) in
    let room' = room - length (fitting (block_bytes t log) room) in
    ap (λ (k : ℕ). blocks_in k t log room) e
    ∙ ap (λ (b : Bool). pick b [] (fitting (block_bytes t log) room ++ blocks_in m (table_in t log room) (rest_of log) room')) z
    ∙ ap (λ (r : List ℕ). fitting (block_bytes t log) room ++ r) (fuel_free_in m (length (rest_of log)) (table_in t log room) (rest_of log) room' (omega arith) (omega arith))

-- ---- what an answer does, by its room

module _ (t : Table) (log sheet : List ℕ) where
  abbrev bytes : List ℕ
  bytes = fitting (block_bytes t log) (length sheet)

  pub answered_parts : ((answered_of t log sheet).table ≡ table_in t log (length sheet)) × Wrote bytes sheet (sheet_after (block_bytes t log) sheet) (answered_of t log sheet).written
  unfolding answered_of
  answered_parts = go (fits (block_bytes t log) sheet)
    where
      go : (b : Bool) → ((answered_from t (judged_of t log) (pick b (Ok (length (block_bytes t log))) (Err NoRoom))).table ≡ pick b (judged_of t log).table t)
          × Wrote (pick b (block_bytes t log) []) sheet (pick b (over (block_bytes t log) sheet) sheet)
          (answered_from t (judged_of t log) (pick b (Ok (length (block_bytes t log))) (Err NoRoom))).written
      go true = (refl, record { count = refl; sheet = refl })
      go false = (refl, record { count = refl; sheet = refl })

pub fitting_within : (bs : List ℕ) (room : ℕ) → length (fitting bs room) ≤ room
fitting_within bs room = go (leb (length bs) room) refl
  where
    go : (b : Bool) → leb (length bs) room ≡ b → length (pick b bs []) ≤ room
    go true e = leb-true _ _ e
    go false e = omega arith

-- a part that is the whole
pub whole_part : (l : List ℕ) → take (length l - 0) (drop 0 l) ≡ l
whole_part l = take_all (length l - 0) l (omega arith)

-- ---- the loop over a log's blocks: what was written so far, and what is left

pub record Going (t : Table) (log out : List ℕ) (table : Table) (left now : List ℕ) (at : ℕ) : Type 0 where
  pub bs : List ℕ
  pub wrote : Wrote bs out now at
  pub within : at ≤ length out
  pub same : length now ≡ length out
  pub all : bs ++ answers_in table left (length out - at) ≡ answers_in t log (length out)
  pub sound : Sound table

pub going_start : (t : Table) (log out : List ℕ) → Sound t → Going t log out t log out 0
going_start t log out r = record {
  bs = [];
  wrote = record { count = refl; sheet = refl };
  within = omega arith;
  same = refl;
  all = let e : length out - 0 ≡ length out = omega arith in rw e;
  sound = r;
}

module _ {t : Table} {log out : List ℕ} {table : Table} {left now : List ℕ} {at : ℕ} (g : Going t log out table left now at) where
  pub going_turn : {a : Answered} {mid next after : List ℕ} → 0 < length left → a ≡ answered_of table left (mid_of at (length now - at) now)
      → mid ≡ sheet_after (block_bytes table left) (mid_of at (length now - at) now) → Sound a.table → next ≡ rest_of left → after ≡ put_mid at (length now - at) now mid → length after ≡ length out
      → Going t log out a.table next after (at + a.written)
  going_turn {a} {mid} {next} {after} h e f r n p q =
      let sheet : List ℕ = mid_of at (length now - at) now in
      let room : length sheet ≡ length out - at = ap length (part_is at now) ∙ length-drop at now ∙ rw g.same in
      let parts = answered_parts table left sheet in
      let w : Wrote (fitting (block_bytes table left) (length sheet)) sheet mid a.written =
      rw (e, f) parts.1 in
      let tab : a.table ≡ table_in table left (length out - at) = ap (λ (x : Answered). x.table) e ∙ parts.0 ∙ ap (table_in table left) room in
      let two : Wrote (g.bs ++ fitting (block_bytes table left) (length sheet)) out after (at + a.written) = rw p (then g.wrote w) in
      let count : a.written ≡ length (fitting (block_bytes table left) (length out - at)) = w.count ∙ ap (λ (k : ℕ). length (fitting (block_bytes table left) k)) room in
      let fit = fitting_within (block_bytes table left) (length out - at) in
      let rest : length out - (at + a.written) ≡ length out - at - length (fitting (block_bytes table left) (length out - at)) = omega (arith, g.within) in
      record {
        bs = g.bs ++ fitting (block_bytes table left) (length out - at);
        wrote = rw room at two;
        within = omega (arith, g.within);
        same = q;
        all =
            append_assoc g.bs (fitting (block_bytes table left) (length out - at)) (answers_in a.table next (length out - (at + a.written)))
            ∙ rw (tab, n, rest) (ap (λ (x : List ℕ). g.bs ++ x) (sym (answers_more table left (length out - at) h)))
            ∙ g.all;
        sound = r;
      }

  pub going_room : {a : Answered} → a ≡ answered_of table left (mid_of at (length now - at) now) → at + a.written ≤ length out
  going_room {a} e =
      let sheet : List ℕ = mid_of at (length now - at) now in
      let room : length sheet ≡ length out - at = ap length (part_is at now) ∙ length-drop at now ∙ rw g.same in
      let parts = answered_parts table left sheet in
      let count : a.written ≡ length (fitting (block_bytes table left) (length sheet)) = ap (λ (x : Answered). x.written) e ∙ parts.1.count in
      omega (arith, g.within, fitting_within (block_bytes table left) (length sheet))

  pub going_done : length left ≡ 0 → Wrote (answers_in t log (length out)) out now at
  going_done e = subst (λ (x : List ℕ). Wrote x out now at) (sym (append-nil g.bs) ∙ ap (λ (x : List ℕ). g.bs ++ x) (sym (answers_none table left (length out - at) e)) ∙ g.all) g.wrote

-- ---- the two answers of running a log

pub run_bad : (log : List ℕ) (o : Result Sheet Refusal) (room : ℕ) → o ≡ opened_of log → {why : Refusal} → o ≡ Err why → output_in log room ≡ fitting eleven room
unfolding output_in
run_bad log o room p q = rw (← p, q)

pub run_good : (log : List ℕ) (o : Result Sheet Refusal) (s : Sheet) (room : ℕ) {t : Table} {left : List ℕ} → o ≡ opened_of log → o ≡ Ok s → t ≡ fresh_table s → left ≡ sheet_end log
    → output_in log room ≡ answers_in t left room
unfolding output_in
run_good log o s room p q e f = rw (← p, q, e, f)

pub end_within : (log : List ℕ) → length (sheet_end log) ≤ length log
unfolding sheet_end
end_within log = after_lines_no_longer sheet_lines log

-- with room for all, what is written is the output
pub run_enough : (log : List ℕ) (room : ℕ) → length (output_of log) ≤ room → output_in log room ≡ output_of log
unfolding output_in output_of answers_in
run_enough log room h = go (opened_of log) h
  where
    go : (o : Result Sheet Refusal) → length (output_from o log) ≤ room → output_in_from o log room ≡ output_from o log
    go (Err why) i = rw (le-leb 8 room i)
    go (Ok s) i =
        let e = fuel_free (length log) (length (sheet_end log)) (fresh_table s) (sheet_end log) (end_within log) (omega arith) in
        room_enough (length (sheet_end log)) (fresh_table s) (sheet_end log) room (rw e at i) ∙ sym e
