-- Change request No. 8, "how much room": a taken settle's answer has no pots; no answer of a sound table, to any bytes, has more than 27 lines or 540 bytes; and the
-- size that is reported beforehand is that of the bytes written. Assumes nothing.
use mathlib.Core.Path.{◌≡◌, refl, sym, ap, ◌∙◌}
use mathlib.Core.List.{List, [], ◌∷◌, map}
use mathlib.Core.Bool.{Bool, true, false, false≢true}
use Prim.Native.Nat.{ℕ, ◌≤◌, ◌<◌}
use native.Mathlib.Omega.{arith}
use lib.ListN.{length}
use lib.Dec.{eqb}
use borrow.Author.Tests.{le-leb, lt-leb}
use Rattle.std.specs.Prelude.{Result, Ok, Err}
use Rattle.paper.specs.declared.refusal.Refusal.{Refusal}
use Rattle.laws.specs.Tests.{pick}
use Rattle.laws.specs.Lists.{max_of}
use Rattle.laws.specs.Often.{count}
use Rattle.laws.proofs.Sums.{map_length}
use Rattle.blocks.specs.Block.{block_of}
use Rattle.blocks.specs.Entry.{parsed_of}
use Rattle.blocks.specs.declared.Block.{Block}
use Rattle.blocks.specs.declared.Block.TheVariants.{Raw, Malformed, Nothing}
use Rattle.writing.specs.AnswerSheet.{sheet_after}
use Rattle.paper.specs.declared.Entry.{Entry}
use Rattle.paper.specs.declared.Entry.TheVariants.{Sit, Leave, Hand, Hole, Fold, Check, Call, Wager, Board, Dead, Settle, Void}
use Rattle.chairs.specs.Chairs.{column_of, close_all}
use Rattle.chairs.specs.declared.Chair.{Chair}
use Rattle.pots.specs.Heights.{chips_at, contest}
use Rattle.pots.specs.Runs.{runs, keyed, pots_of}
use Rattle.pots.proofs.PotLevels.{pots_at_most}
use Rattle.table.specs.State.{with_taken}
use Rattle.table.specs.declared.table.Table.{Table}
use Rattle.table.specs.declared.table.Payout.{Payout as Paid}
use Rattle.table.specs.Settle.{totals_of, lives_of, pots_now, payout_now, no_payout, settled_to}
use Rattle.table.specs.Take.{Sound, code_of, applied_to, next_of, payout_of, payout_by}
use Rattle.table.proofs.Standing.{standing_next}
use Rattle.answers.specs.declared.Shown.{Shown}
use Rattle.answers.specs.Answer.{answer_bytes, longest}
use Rattle.answers.specs.Room.{most_lines}
use Rattle.answers.proofs.Room.{Few, answer_most, answer_lines_most, answer_lfs}
use Rattle.desk.specs.declared.Judged.{Judged}
use Rattle.desk.specs.Desk.{rows_of, shown_of, refused_at, judge_parsed, judge_block, judged_of, judged_bytes, block_bytes, answered_of, Closed}
use Rattle.desk.specs.Room.{room_of}
use Rattle.desk.proofs.Laws.{twelve_when, twelve_keeps}
use Rattle.chairs.specs.What as what

-- ---- a settle closes the hand, so no chips are left to make a pot

no_totals : (cs : List Chair) (ps : List ℕ) → max_of (map (column_of what.Total) (close_all cs ps)) ≡ 0
unfolding max_of
no_totals [] ps = refl
no_totals (c ∷ cs) [] = omega (arith, no_totals cs [])
no_totals (c ∷ cs) (p ∷ ps) = omega (arith, no_totals cs ps)

no_pots : (ts : List ℕ) (live : ℕ) → max_of ts ≡ 0 → pots_of ts live ≡ []
unfolding pots_of keyed runs
no_pots ts live e = ap (λ (n : ℕ). keyed (runs (chips_at ts) (contest ts live) 0 n)) e

by_closed : (t : Table) (n : ℕ) (e : Entry) → Closed (with_taken (applied_to t e) n) (payout_by t e)
unfolding pots_now settled_to
by_closed t n (Sit s a) = λ z. absurd (false≢true z)
by_closed t n (Leave s) = λ z. absurd (false≢true z)
by_closed t n (Hand s) = λ z. absurd (false≢true z)
by_closed t n (Hole s a b) = λ z. absurd (false≢true z)
by_closed t n (Fold s) = λ z. absurd (false≢true z)
by_closed t n (Check s) = λ z. absurd (false≢true z)
by_closed t n (Call s) = λ z. absurd (false≢true z)
by_closed t n (Wager s a) = λ z. absurd (false≢true z)
by_closed t n (Board k) = λ z. absurd (false≢true z)
by_closed t n (Dead s) = λ z. absurd (false≢true z)
by_closed t n Settle = λ z. ap length (no_pots (totals_of (settled_to t)) (lives_of (settled_to t)) (no_totals t.chairs (payout_now t).paid))
by_closed t n Void = λ z. absurd (false≢true z)

next_closed : (t : Table) (n : ℕ) (e : Entry) → Closed (next_of t n e) (payout_of t n e)
unfolding next_of payout_of
next_closed t n e = go (eqb (code_of t n e) 0)
  where
    go : (b : Bool) → Closed (pick b (with_taken (applied_to t e) n) t) (pick b (payout_by t e) no_payout)
    go true = by_closed t n e
    go false = λ z. absurd (false≢true z)

parsed_closed : (t : Table) (n : ℕ) (p : Result Entry Refusal) → Closed (judge_parsed t n p).table (judge_parsed t n p).payout
parsed_closed t n (Err why) = λ z. absurd (false≢true z)
parsed_closed t n (Ok e) = next_closed t n e

pub block_closed : (t : Table) (b : Block) → Closed (judge_block t b).table (judge_block t b).payout
block_closed t (Raw n k s a b) = parsed_closed t n (parsed_of k s a b)
block_closed t Malformed = λ z. absurd (false≢true z)
block_closed t Nothing = λ z. absurd (false≢true z)

-- whatever the bytes: where the answer to them shows a payout the table after them has no pots
pub settled_no_pots : (t : Table) (log : List ℕ) → (judged_of t log).payout.settled ≡ true → length (pots_now (judged_of t log).table) ≡ 0
unfolding judged_of
settled_no_pots t log = block_closed t (block_of log)

-- for the proofs of the functions
pub judged_closed : (t : Table) (b : Block) {j : Judged} → j ≡ judge_block t b → Closed j.table j.payout
judged_closed t b e = rw e (block_closed t b)

pub log_closed : (t : Table) (log : List ℕ) {j : Judged} → j ≡ judged_of t log → Closed j.table j.payout
log_closed t log e = rw e (settled_no_pots t log)

-- ---- at most ten rows and nine pots are shown

rows_within : (ss ps : List ℕ) → length (rows_of ss ps) ≤ length ss
rows_within [] ps = omega arith
rows_within (s ∷ ss) [] = omega arith
rows_within (s ∷ ss) (p ∷ ps) = omega (arith, rows_within ss ps)

pots_within : (t : Table) → length t.chairs ≡ 10 → length (pots_now t) ≤ 9
unfolding pots_now
pots_within t h = omega (arith, pots_at_most (totals_of t) (lives_of t), map_length (column_of what.Total) t.chairs)

now_within : (t : Table) → length t.chairs ≡ 10 → length (payout_now t).sittings ≤ 10
unfolding payout_now
now_within t h = omega (arith, map_length (column_of what.Sitting) t.chairs)

by_within : (t : Table) (e : Entry) → length t.chairs ≡ 10 → length (payout_by t e).sittings ≤ 10
by_within t (Sit s a) h = omega arith
by_within t (Leave s) h = omega arith
by_within t (Hand s) h = omega arith
by_within t (Hole s a b) h = omega arith
by_within t (Fold s) h = omega arith
by_within t (Check s) h = omega arith
by_within t (Call s) h = omega arith
by_within t (Wager s a) h = omega arith
by_within t (Board k) h = omega arith
by_within t (Dead s) h = omega arith
by_within t Settle h = now_within t h
by_within t Void h = omega arith

paid_within : (t : Table) (n : ℕ) (e : Entry) → length t.chairs ≡ 10 → length (payout_of t n e).sittings ≤ 10
unfolding payout_of
paid_within t n e h = go (eqb (code_of t n e) 0)
  where
    go : (b : Bool) → length (pick b (payout_by t e) no_payout).sittings ≤ 10
    go true = by_within t e h
    go false = omega arith

-- what is judged of a block, as it is shown
few : (n code : ℕ) (t : Table) (p : Paid) → length t.chairs ≡ 10 → length p.sittings ≤ 10 → Closed t p → Few (shown_of n code t p)
unfolding shown_of
few n code t p size rows closed = record { pots = pots_within t size; rows = omega (arith, rows, rows_within p.sittings p.paid); closed = closed }

abbrev pub FewShown : Judged → Type 0
FewShown j = Few (shown_of j.n j.code j.table j.payout)

parsed_few : (t : Table) (n : ℕ) (p : Result Entry Refusal) → Sound t → FewShown (judge_parsed t n p)
parsed_few t n (Err why) h = few n _ t no_payout h.standing.size (omega arith) (λ z. absurd (false≢true z))
parsed_few t n (Ok e) h =
    few n (code_of t n e) (next_of t n e) (payout_of t n e) (standing_next t n e h h.standing).size (paid_within t n e h.standing.size) (next_closed t n e)

block_few : (t : Table) (b : Block) → Sound t → FewShown (judge_block t b)
block_few t (Raw n k s a b) h = parsed_few t n (parsed_of k s a b) h
block_few t Malformed h = few 0 _ t no_payout h.standing.size (omega arith) (λ z. absurd (false≢true z))
block_few t Nothing h = few 0 _ t no_payout h.standing.size (omega arith) (λ z. absurd (false≢true z))

-- for the answers of a table that shares a pool
pub log_few : (t : Table) (log : List ℕ) → Sound t → FewShown (judged_of t log)
unfolding judged_of
log_few t log h = block_few t (block_of log) h

pub refused_few : (t : Table) (n code : ℕ) → Sound t → FewShown (refused_at t n code)
refused_few t n code h = few n code t no_payout h.standing.size (omega arith) (λ z. absurd (false≢true z))

judged_most : (j : Judged) → FewShown j → (count 10 (judged_bytes j) ≤ most_lines) × (length (judged_bytes j) ≤ longest)
unfolding shown_of
judged_most j f = go j.block
  where
    go : (b : Bool) → (count 10 (pick b (answer_bytes (shown_of j.n j.code j.table j.payout)) []) ≤ most_lines)
        × (length (pick b (answer_bytes (shown_of j.n j.code j.table j.payout)) []) ≤ longest)
    go true =
        let s = shown_of j.n j.code j.table j.payout in
        (omega (arith, answer_lfs s, answer_lines_most s f), answer_most s f)
    go false = (omega arith, omega arith)

module _ (t : Table) (log : List ℕ) (h : Sound t) where
  -- "no answer has more than 27 lines": as many LFs
  pub lines_most : count 10 (block_bytes t log) ≤ most_lines
  unfolding block_bytes judged_of
  lines_most = (judged_most (judge_block t (block_of log)) (block_few t (block_of log) h)).0

  -- "or 540 bytes"
  pub bytes_most : length (block_bytes t log) ≤ longest
  unfolding block_bytes judged_of
  bytes_most = (judged_most (judge_block t (block_of log)) (block_few t (block_of log) h)).1

-- ---- the size said beforehand

module _ (t : Table) (log sheet : List ℕ) where
  -- "the size reported beforehand equals the bytes written": in a sheet that has so much room
  pub room_said : room_of t log ≤ length sheet → (answered_of t log sheet).written ≡ room_of t log
  unfolding answered_of room_of
  room_said h = rw (le-leb (length (block_bytes t log)) (length sheet) h)

  -- in a shorter one nothing is written: 12, and every byte stays
  pub room_short : length sheet < room_of t log → ((answered_of t log sheet).code ≡ 12) × ((answered_of t log sheet).written ≡ 0) × (sheet_after (block_bytes t log) sheet ≡ sheet)
  unfolding answered_of room_of
  room_short h =
      let c = twelve_when t log sheet h in
      (c, rw (lt-leb (length (block_bytes t log)) (length sheet) h), twelve_keeps t log sheet c)

-- for the proof of the function that says it
pub none_said : (t : Table) (log : List ℕ) {j : Judged} → j ≡ judged_of t log → j.block ≡ false → 0 ≡ room_of t log
unfolding room_of block_bytes
none_said t log {j} e b =
    sym (ap length (ap judged_bytes (sym e) ∙ ap (λ (z : Bool). pick z (answer_bytes (shown_of j.n j.code j.table j.payout)) []) b))

pub some_said : (t : Table) (log : List ℕ) {j : Judged} {s : Shown} {r : ℕ} → j ≡ judged_of t log → j.block ≡ true → s ≡ shown_of j.n j.code j.table j.payout
    → r ≡ length (answer_bytes s) → r ≡ room_of t log
unfolding room_of block_bytes
some_said t log {j} e b q l =
    l
    ∙ ap (λ (x : Shown). length (answer_bytes x)) q
    ∙ sym (ap length (ap judged_bytes (sym e) ∙ ap (λ (z : Bool). pick z (answer_bytes (shown_of j.n j.code j.table j.payout)) []) b))
