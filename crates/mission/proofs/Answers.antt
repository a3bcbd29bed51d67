-- Demand 1: every block gets an answer with a number of document 01; after any but 0 the table and the count are those before; with 12 every byte of the
-- answer sheet is kept, and 12 is given exactly where the sheet is too short. For every table, log and sheet. Assumes nothing.
use Prim.Native.Nat.{ℕ, suc, ◌≤◌, ◌<◌}
use mathlib.Core.Bool.{Bool, true, false}
use mathlib.Core.Path.{◌≡◌, refl, ap}
use mathlib.Core.List.{List, ◌++◌}
use mathlib.Core.Logic.{◌⊎◌, inl, inr}
use native.Mathlib.Omega.{arith}
use lib.ListN.{length}
use lib.Dec.{leb}
use borrow.Author.Tests.{ne_eqb, leb-false}
use Rattle.std.specs.Prelude.{Ok, Err}
use Rattle.paper.specs.declared.refusal.Refusal.TheVariants.{NoRoom}
use Rattle.laws.specs.Tests.{pick}
use Rattle.blocks.specs.Block.{rest_of}
use Rattle.writing.specs.AnswerSheet.{fits, over, sheet_after}
use Rattle.table.specs.declared.table.Table.{Table}
use Rattle.desk.specs.Desk.{judged_of, block_bytes, answered_from, answered_of}
use Rattle.desk.specs.Log.{blocks_from}
use Rattle.desk.proofs.Laws.{judged_most, refusal_keeps, twelve_keeps, twelve_when}

module _ (t : Table) (log sheet : List ℕ) where
  -- a number of the paper: 0 to 10, or 12 in their place
  pub codes : ((answered_of t log sheet).code ≤ 10) ⊎ ((answered_of t log sheet).code ≡ 12)
  unfolding answered_of
  codes = go (fits (block_bytes t log) sheet)
    where
      go : (b : Bool) → ((answered_from t (judged_of t log) (pick b (Ok (length (block_bytes t log))) (Err NoRoom))).code ≤ 10)
          ⊎ ((answered_from t (judged_of t log) (pick b (Ok (length (block_bytes t log))) (Err NoRoom))).code ≡ 12)
      go true = inl (judged_most t log)
      go false = inr refl

  -- a refusal leaves the table as it was, and the count of taken entries
  pub refused_keeps : ((answered_of t log sheet).code ≡ 0 → ⊥) → ((answered_of t log sheet).table ≡ t) × ((answered_of t log sheet).table.taken ≡ t.taken)
  refused_keeps h = let e = refusal_keeps t log sheet h in (e, ap (λ (u : Table). u.taken) e)

  -- an answer sheet too short for its block keeps every byte, and gets 12; one that is long enough does not
  pub short_sheet : length sheet < length (block_bytes t log) → ((answered_of t log sheet).code ≡ 12) × (sheet_after (block_bytes t log) sheet ≡ sheet)
  short_sheet h = let e = twelve_when t log sheet h in (e, twelve_keeps t log sheet e)

  pub long_sheet : length (block_bytes t log) ≤ length sheet → ((answered_of t log sheet).code ≡ (judged_of t log).code) × (sheet_after (block_bytes t log) sheet ≡ over (block_bytes t log) sheet)
  unfolding answered_of
  long_sheet h = go (fits (block_bytes t log) sheet) refl
    where
      go : (b : Bool) → fits (block_bytes t log) sheet ≡ b
          → ((answered_from t (judged_of t log) (pick b (Ok (length (block_bytes t log))) (Err NoRoom))).code ≡ (judged_of t log).code) × (pick b (over (block_bytes t log) sheet) sheet ≡ over (block_bytes t log) sheet)
      go true e = (refl, refl)
      go false e = absurd (omega (arith, h, borrow-short e))
        where
          borrow-short : leb (length (block_bytes t log)) (length sheet) ≡ false → length sheet < length (block_bytes t log)
          borrow-short q = leb-false (length (block_bytes t log)) (length sheet) q

-- where bytes are left there is a block, and its answer comes first; the answers to what follows it come behind, from the table after it
pub block_answered : (k : ℕ) (t : Table) (log : List ℕ) → 0 < length log → blocks_from (suc k) t log ≡ block_bytes t log ++ blocks_from k (judged_of t log).table (rest_of log)
block_answered k t log h = rw (ne_eqb (length log) 0 (λ z. omega arith))
