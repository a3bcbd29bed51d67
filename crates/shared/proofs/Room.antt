-- A table that shares a pool: no answer has more than 28 lines or 560 bytes (No. 8), the size reported beforehand is that of the bytes written, and nothing of the answer but
-- the jackpot's nine digits hangs on the pool: not its length, so not code 12, nor the code, nor the table (No. 7). Assumes nothing.
use mathlib.Core.Path.{◌≡◌, refl, sym, ap, ◌∙◌}
use mathlib.Core.List.{List, []}
use mathlib.Core.Bool.{Bool, true, false}
use Prim.Native.Nat.{ℕ, ◌+◌, ◌≤◌}
use native.Mathlib.Omega.{arith}
use lib.ListN.{length, length-append}
use borrow.Author.Tests.{le-leb}
use Rattle.std.specs.Prelude.{Result, Ok, Err}
use Rattle.paper.specs.declared.refusal.Refusal.{Refusal}
use Rattle.laws.specs.Tests.{pick}
use Rattle.laws.specs.Often.{count}
use Rattle.paper.specs.RefusalNumbers.{shares_pool}
use Rattle.writing.specs.AnswerSheet.{written_of}
use Rattle.answers.specs.Answer.{answer_bytes, table_bytes, payout_bytes, longest_shared}
use Rattle.answers.specs.Room.{most_lines_shared}
use Rattle.answers.specs.declared.Shown.{Shown}
use Rattle.answers.proofs.Blocks.{payout_count, jackpot_count}
use Rattle.answers.proofs.Room.{Few, answer_most, answer_lines_most, answer_lfs}
use Rattle.table.specs.declared.table.Table.{Table}
use Rattle.table.specs.Take.{Sound}
use Rattle.pool.specs.declared.Pool.{Pool}
use Rattle.amends.specs.Righting.{is_right}
use Rattle.desk.specs.Desk.{shown_of, refused_at, judged_of}
use Rattle.desk.specs.declared.Judged.{Judged}
use Rattle.desk.proofs.Room.{FewShown, log_few, refused_few}
use Rattle.shared.specs.Shared.{corrected_number, judged_at, settled_at, with_jackpot, shown_at, judged_bytes_at, bytes_at, room_at, shared_from}

-- ---- how much room
few_at : (j : Judged) (amount : ℕ) → FewShown j → Few (shown_at j amount)
unfolding with_jackpot
few_at j amount f = record { pots = f.pots; rows = f.rows; closed = f.closed }

judged_few : (t : Table) (log : List ℕ) → Sound t → FewShown (judged_at t log)
unfolding judged_at
judged_few t log h = go (is_right log)
  where
    go : (b : Bool) → FewShown (pick b (refused_at t (corrected_number log) shares_pool) (judged_of t log))
    go true = refused_few t (corrected_number log) shares_pool h
    go false = log_few t log h

shown_most : (s : Shown) (amount : ℕ) → Few (with_jackpot amount s) → (count 10 (answer_bytes (with_jackpot amount s)) ≤ most_lines_shared) × (length (answer_bytes (with_jackpot amount s)) ≤ longest_shared)
unfolding with_jackpot
shown_most s amount f =
    let v = with_jackpot amount s in
    (omega (arith, answer_lfs v, answer_lines_most v f), answer_most v f)

judged_most : (t : Table) (p : Pool) (j : Judged) → FewShown j → (count 10 (judged_bytes_at t p j) ≤ most_lines_shared) × (length (judged_bytes_at t p j) ≤ longest_shared)
judged_most t p j f = go j.block
  where
    go : (b : Bool) → (count 10 (pick b (answer_bytes (shown_at j (settled_at t p j).jackpot)) []) ≤ most_lines_shared)
        × (length (pick b (answer_bytes (shown_at j (settled_at t p j).jackpot)) []) ≤ longest_shared)
    go true = shown_most (shown_of j.n j.code j.table j.payout) (settled_at t p j).jackpot (few_at j (settled_at t p j).jackpot f)
    go false = (omega arith, omega arith)

module _ (t : Table) (p : Pool) (log : List ℕ) (h : Sound t) where
  -- "the bound is 28 lines": as many LFs
  pub shared_lines_most : count 10 (bytes_at t p log) ≤ most_lines_shared
  unfolding bytes_at
  shared_lines_most = (judged_most t p (judged_at t log) (judged_few t log h)).0

  -- "and 560 bytes"
  pub shared_bytes_most : length (bytes_at t p log) ≤ longest_shared
  unfolding bytes_at
  shared_bytes_most = (judged_most t p (judged_at t log) (judged_few t log h)).1

-- "the size reported beforehand equals the bytes written": in a sheet that has so much room
pub shared_room_said : (t : Table) (p : Pool) (log sheet : List ℕ) → room_at t p log ≤ length sheet
    → (shared_from t p (judged_at t log) (written_of (bytes_at t p log) sheet)).written ≡ room_at t p log
unfolding room_at
shared_room_said t p log sheet h = rw (le-leb (length (bytes_at t p log)) (length sheet) h)

-- ---- whatever the pool holds
same_length : (s : Shown) (a b : ℕ) → length (answer_bytes (with_jackpot a s)) ≡ length (answer_bytes (with_jackpot b s))
unfolding answer_bytes with_jackpot table_bytes
same_length s a b =
    let u = with_jackpot a s in
    let v = with_jackpot b s in
    length-append (table_bytes u) (pick s.settled (payout_bytes u.payout) [])
    ∙ ap (λ (n : ℕ). length (table_bytes u) + n) (go s.settled)
    ∙ sym (length-append (table_bytes v) (pick s.settled (payout_bytes v.payout) []))
  where
    go : (z : Bool) → length (pick z (payout_bytes (with_jackpot a s).payout) []) ≡ length (pick z (payout_bytes (with_jackpot b s).payout) [])
    go true =
        let u = (with_jackpot a s).payout in
        let v = (with_jackpot b s).payout in
        omega (arith, payout_count u, payout_count v, jackpot_count u.jackpot, jackpot_count v.jackpot)
    go false = refl

-- its answer has the same length, so the same blocks have no room
pub same_room : (t : Table) (p q : Pool) (log : List ℕ) → room_at t p log ≡ room_at t q log
unfolding room_at bytes_at
same_room t p q log = go (judged_at t log) (judged_at t log).block
  where
    go : (j : Judged) (b : Bool) → length (pick b (answer_bytes (shown_at j (settled_at t p j).jackpot)) []) ≡ length (pick b (answer_bytes (shown_at j (settled_at t q j).jackpot)) [])
    go j true = same_length (shown_of j.n j.code j.table j.payout) (settled_at t p j).jackpot (settled_at t q j).jackpot
    go j false = refl

-- the code and the table are those of the table's own judgement
pub code_apart : (t : Table) (p q : Pool) (j : Judged) (w : Result ℕ Refusal) → (shared_from t p j w).code ≡ (shared_from t q j w).code
code_apart t p q j (Ok k) = refl
code_apart t p q j (Err why) = refl

pub table_apart : (t : Table) (p q : Pool) (j : Judged) (w : Result ℕ Refusal) → (shared_from t p j w).table ≡ (shared_from t q j w).table
table_apart t p q j (Ok k) = refl
table_apart t p q j (Err why) = refl
