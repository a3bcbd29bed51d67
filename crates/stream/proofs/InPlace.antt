-- Whole blocks that are answered where they lie do what their bytes do one by one. For any part and any room. Assumes nothing.
use mathlib.Core.Path.{◌≡◌, refl, sym, ap, subst, ◌∙◌}
use mathlib.Core.List.{List, [], ◌∷◌, ◌++◌, append_assoc}
use mathlib.Core.Bool.{Bool, true, false}
use mathlib.Core.Logic.{⊎_elim}
use Prim.Native.Nat.{ℕ, zero, suc, ◌-◌, ◌≤◌}
use native.Mathlib.Omega.{arith}
use lib.ListN.{length, take, drop, length-append, take-append-drop}
use lib.Seq.{take-append_seam}
use lib.Dec.{eqb, leb}
use borrow.Author.Tests.{leb-true, le-leb, ne_eqb}
use Rattle.laws.specs.Tests.{pick}
use Rattle.laws.proofs.Tests.{test, both_true}
use Rattle.blocks.specs.Block.{rest_of, block_of}
use Rattle.blocks.specs.Front.{block_ended}
use Rattle.lines.specs.Kept.{nothing, Gathered, gather_of}
use Rattle.lines.proofs.Cut.{lfs}
use Rattle.lines.proofs.Whole.{five_lfs, block_reads}
use Rattle.lines.proofs.Gathers.{whole_kept}
use Rattle.table.specs.declared.table.Table.{Table}
use Rattle.desk.specs.declared.Judged.{Judged}
use Rattle.desk.specs.Desk.{judge_block, judged_of, block_bytes, judged_bytes}
use Rattle.desk.specs.Log.{table_in}
use Rattle.desk.proofs.Laws.{judged_most}
use Rattle.stream.specs.Onward.{Open, Given, and_then, code_in, answer_of, onward, any_short}
use Rattle.stream.specs.InPlace.{InPlace, answers_front, in_place_from, in_place_of, ran_of}
use Rattle.stream.proofs.Onward.{onward_append, ends_onward}
use Rattle.stream.proofs.Runs.{from_none, from_more}

-- ---- what is answered depends on the block alone
pub judged_same : (t : Table) (x y : List ℕ) → block_of x ≡ block_of y → judged_of t x ≡ judged_of t y
unfolding judged_of
judged_same t x y e = ap (judge_block t) e

pub bytes_same : (t : Table) (x y : List ℕ) → block_of x ≡ block_of y → block_bytes t x ≡ block_bytes t y
unfolding block_bytes
bytes_same t x y e = ap judged_bytes (judged_same t x y e)

-- the answer, by what was judged and by its bytes
abbrev answer_from : ℕ → Table → List ℕ → Judged → Given
answer_from room t bs j = record {
  state = Open (pick (leb (length bs) room) j.table t);
  kept = nothing;
  codes = pick (leb (length bs) room) j.code 12 ∷ [];
  bytes = pick (leb (length bs) room) bs [];
}

answer_from_law : (room : ℕ) (t : Table) (block : List ℕ) → answer_of room t block ≡ answer_from room t (block_bytes t block) (judged_of t block)
unfolding code_in
answer_from_law room t block = refl

pub answer_same : (room : ℕ) (t : Table) (x y : List ℕ) → block_of x ≡ block_of y → answer_of room t x ≡ answer_of room t y
answer_same room t x y e =
    answer_from_law room t x
    ∙ ap (λ (bs : List ℕ). answer_from room t bs (judged_of t x)) (bytes_same t x y e)
    ∙ ap (answer_from room t (block_bytes t y)) (judged_same t x y e)
    ∙ sym (answer_from_law room t y)

-- with room for it
pub answer_fits : (room : ℕ) (t : Table) (block : List ℕ) → length (block_bytes t block) ≤ room
    → answer_of room t block ≡ record { state = Open (judged_of t block).table; kept = nothing; codes = (judged_of t block).code ∷ []; bytes = block_bytes t block }
answer_fits room t block h =
    answer_from_law room t block
    ∙ ap (λ (b : Bool). record {
      state = Open (pick b (judged_of t block).table t);
      kept = nothing;
      codes = pick b (judged_of t block).code 12 ∷ [];
      bytes = pick b (block_bytes t block) [];
    }) (le-leb (length (block_bytes t block)) room h)

-- ---- one block, from its first byte to its fifth LF

abbrev first : List ℕ → Gathered
first log = gather_of 5 nothing log

module _ (room : ℕ) (t : Table) (log : List ℕ) (h : 5 ≤ lfs log) where
  abbrev front : List ℕ
  front = take (first log).used log

  pub block_onward : onward room (Open t) nothing front ≡ answer_of room t log
  block_onward =
      ends_onward room (Open t) refl nothing log (omega arith) (omega (arith, (whole_kept 4 log h).0))
      ∙ answer_same room t (first log).kept.bytes log (block_reads log h)

  pub block_rest : drop (first log).used log ≡ rest_of log
  unfolding rest_of
  block_rest = (whole_kept 4 log h).1

  -- and what follows
  pub block_further : onward room (Open t) nothing log ≡ and_then (answer_of room t log) (onward room (Open (table_in t log room)) nothing (rest_of log))
  block_further =
      ap (onward room (Open t) nothing) (sym (take-append-drop (first log).used log))
      ∙ onward_append room (Open t) nothing front (drop (first log).used log)
      ∙ ap (λ (x : Given). and_then x (onward room x.state x.kept (drop (first log).used log))) block_onward
      ∙ ap (λ (l : List ℕ). and_then (answer_of room t log) (onward room (Open (table_in t log room)) nothing l)) block_rest

-- ---- block after block

-- what bytes at the front of a part led to is what was answered in place, and no answer lacked room
pub record Placed (room : ℕ) (t : Table) (part : List ℕ) (p : InPlace) : Type 0 where
  pub front : List ℕ
  pub split : part ≡ front ++ p.left
  pub state : (onward room (Open t) nothing front).state ≡ Open p.table
  pub kept : (onward room (Open t) nothing front).kept ≡ nothing
  pub bytes : (onward room (Open t) nothing front).bytes ≡ p.bytes
  pub short : any_short (onward room (Open t) nothing front).codes ≡ false

placed_from : (k room : ℕ) (t : Table) (part : List ℕ) (left : ℕ) → left ≤ room → Placed room t part (in_place_from k t part left)
placed_from zero room t part left h = record { front = []; split = refl; state = refl; kept = refl; bytes = refl; short = refl }
placed_from (suc k) room t part left h = ⊎_elim
    (λ e.
    let bs : List ℕ = block_bytes t part in
    let f = both_true (block_ended part) (leb (length bs) left) e in
    let fit : length bs ≤ room = omega (arith, leb-true (length bs) left f.1) in
    let five : 5 ≤ lfs part = five_lfs part f.0 in
    let u : Table = (judged_of t part).table in
    let r : Placed room u (rest_of part) (in_place_from k u (rest_of part) (left - length bs)) = placed_from k room u (rest_of part) (left - length bs) (omega arith) in
    subst (Placed room t part) (sym (from_more k t part left e)) (joined room t part five fit r))
    (λ e. subst (Placed room t part) (sym (from_none (suc k) t part left e)) (record { front = []; split = refl; state = refl; kept = refl; bytes = refl; short = refl }))
    (test (answers_front t part left))
  where
    joined : (room : ℕ) (t : Table) (part : List ℕ) {p : InPlace} → 5 ≤ lfs part → length (block_bytes t part) ≤ room → Placed room (judged_of t part).table (rest_of part) p
        → Placed room t part (record { table = p.table; bytes = block_bytes t part ++ p.bytes; left = p.left })
    joined room t part {p} five fit r =
        let u : Table = (judged_of t part).table in
        let one : List ℕ = take (first part).used part in
        let rest : Given = onward room (Open u) nothing r.front in
        let both : onward room (Open t) nothing (one ++ r.front) ≡ and_then (record { state = Open u; kept = nothing; codes = (judged_of t part).code ∷ []; bytes = block_bytes t part }) rest =
        onward_append room (Open t) nothing one r.front
        ∙ ap (λ (x : Given). and_then x (onward room x.state x.kept r.front)) (block_onward room t part five ∙ answer_fits room t part fit) in
        let z : eqb (judged_of t part).code 12 ≡ false = ne_eqb (judged_of t part).code 12 (λ q. omega (arith, judged_most t part)) in
        record {
          front = one ++ r.front;
          split =
              sym (take-append-drop (first part).used part)
              ∙ ap (λ (l : List ℕ). one ++ l) (block_rest room t part five ∙ r.split)
              ∙ sym (append_assoc one r.front p.left);
          state = ap (λ (x : Given). x.state) both ∙ r.state;
          kept = ap (λ (x : Given). x.kept) both ∙ r.kept;
          bytes = ap (λ (x : Given). x.bytes) both ∙ ap (λ (l : List ℕ). block_bytes t part ++ l) r.bytes;
          short = ap (λ (x : Given). any_short x.codes) both ∙ ap (λ (b : Bool). pick b true (any_short rest.codes)) z ∙ r.short;
        }

pub placed : (room : ℕ) (t : Table) (part : List ℕ) → Placed room t part (in_place_of t part room)
unfolding in_place_of
placed room t part = placed_from (length part) room t part room (omega arith)

-- the bytes that were used up
pub placed_front : (room : ℕ) (t : Table) (part : List ℕ) → take (ran_of (in_place_of t part room) part).used part ≡ (placed room t part).front
placed_front room t part =
    let p : InPlace = in_place_of t part room in
    let f : List ℕ = (placed room t part).front in
    let s : part ≡ f ++ p.left = (placed room t part).split in
    let n : length part - length p.left ≡ length f = omega (arith, ap length s, length-append f p.left) in
    ap (λ (i : ℕ). take i part) n ∙ ap (take (length f)) s ∙ take-append_seam f p.left
