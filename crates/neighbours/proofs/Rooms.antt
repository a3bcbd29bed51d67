-- Request No. 7: "so the same lengths and 12s". Two tables that share a pool, each block answered in a lent sheet of any size: whatever the other table's calls, the pools and
-- the order are, the same calls at a table give the same codes, 12 too, the same tables and the same bytes in the lent sheets but for the jackpot's number
-- (`alone_rooms`). For any calls. Assumes nothing.
use Prim.Native.Nat.{ℕ}
use mathlib.Core.Bool.{Bool, true, false}
use mathlib.Core.Path.{◌≡◌, refl, sym, ap, ap₂, ◌∙◌}
use mathlib.Core.List.{List, [], ◌∷◌, ◌++◌}
use lib.ListN.{length, drop}
use lib.Dec.{leb}
use Rattle.std.specs.Prelude.{Result, Ok, Err}
use Rattle.paper.specs.declared.refusal.Refusal.TheVariants.{NoRoom}
use Rattle.paper.specs.declared.refusal.Refusal.{Refusal}
use Rattle.laws.specs.Tests.{pick}
use Rattle.writing.specs.AnswerSheet.{sheet_after, written_of}
use Rattle.table.specs.declared.table.Table.{Table}
use Rattle.pool.specs.declared.Pool.{Pool}
use Rattle.desk.specs.declared.Judged.{Judged}
use Rattle.shared.specs.Shared.{judged_at, bytes_at, room_at, shared_from}
use Rattle.shared.proofs.Room.{same_room, code_apart, table_apart}
use Rattle.pairs.specs.Alone.{same_table}
use Rattle.neighbours.specs.Blanked.{blanked_in, blanked}
use Rattle.neighbours.specs.Lent.{Call, answered_at, Gives, gives_at, calls_at, given_by}
use Rattle.neighbours.proofs.Blanks.{blanked_append}
use Rattle.neighbours.proofs.Answers.{answer_ended, blanked_at}

-- ---- one call, whatever the pool holds

module _ (t : Table) (p q : Pool) (log sheet : List ℕ) where
  same_length : length (bytes_at t p log) ≡ length (bytes_at t q log)
  unfolding room_at
  same_length = same_room t p q log

  same_written : written_of (bytes_at t p log) sheet ≡ written_of (bytes_at t q log) sheet
  same_written = ap (λ (n : ℕ). pick (leb n (length sheet)) (Ok n) (Err NoRoom)) same_length

  behind : (r : Pool) (rest : List ℕ) → blanked (bytes_at t r log ++ rest) ≡ blanked (bytes_at t r log) ++ blanked rest
  behind r rest = blanked_append [] (bytes_at t r log) rest ∙ ap (λ (l : List ℕ). blanked (bytes_at t r log) ++ blanked_in l rest) (answer_ended t r log)

  over_same : blanked (bytes_at t p log ++ drop (length (bytes_at t p log)) sheet) ≡ blanked (bytes_at t q log ++ drop (length (bytes_at t q log)) sheet)
  over_same =
      behind p (drop (length (bytes_at t p log)) sheet)
      ∙ ap₂ (λ (l : List ℕ) (n : ℕ). l ++ blanked (drop n sheet)) (blanked_at t p q log) same_length
      ∙ sym (behind q (drop (length (bytes_at t q log)) sheet))

  same_sheet : blanked (sheet_after (bytes_at t p log) sheet) ≡ blanked (sheet_after (bytes_at t q log) sheet)
  same_sheet =
      ap (λ (n : ℕ). blanked (pick (leb n (length sheet)) (bytes_at t p log ++ drop (length (bytes_at t p log)) sheet) sheet)) same_length
      ∙ go (leb (length (bytes_at t q log)) (length sheet))
    where
      go : (b : Bool) → blanked (pick b (bytes_at t p log ++ drop (length (bytes_at t p log)) sheet) sheet) ≡ blanked (pick b (bytes_at t q log ++ drop (length (bytes_at t q log)) sheet) sheet)
      go true = over_same
      go false = refl

written_apart : (t : Table) (p q : Pool) (j : Judged) (w : Result ℕ Refusal) → (shared_from t p j w).written ≡ (shared_from t q j w).written
written_apart t p q j (Ok k) = refl
written_apart t p q j (Err why) = refl

call_same : (t : Table) (p q : Pool) (x : Call) → gives_at t p x ≡ gives_at t q x
call_same t p q x =
    let j : Judged = judged_at t x.log in
    let w : Result ℕ Refusal = written_of (bytes_at t p x.log) x.sheet in
    let v : Result ℕ Refusal = written_of (bytes_at t q x.log) x.sheet in
    let e : w ≡ v = same_written t p q x.log x.sheet in
    let l : List ℕ = blanked (sheet_after (bytes_at t p x.log) x.sheet) in
    ap (λ (c : ℕ). record { code = c; table = (shared_from t p j w).table; written = (shared_from t p j w).written; sheet = l }) (code_apart t p q j w)
    ∙ ap (λ (u : Table). record { code = (shared_from t q j w).code; table = u; written = (shared_from t p j w).written; sheet = l }) (table_apart t p q j w)
    ∙ ap (λ (n : ℕ). record { code = (shared_from t q j w).code; table = (shared_from t q j w).table; written = n; sheet = l }) (written_apart t p q j w)
    ∙ ap (λ (z : Result ℕ Refusal). record { code = (shared_from t q j z).code; table = (shared_from t q j z).table; written = (shared_from t q j z).written; sheet = l }) e
    ∙ ap (λ (m : List ℕ). record { code = (shared_from t q j v).code; table = (shared_from t q j v).table; written = (shared_from t q j v).written; sheet = m }) (same_sheet t p q x.log x.sheet)

-- ---- all calls

-- at one table alone, with a pool that nothing is asked of
abbrev any_pool : Pool
any_pool = record { held = 0 }

abbrev gives_alone : Table → List Call → List Gives
gives_alone t [] = []
gives_alone t (x ∷ xs) = gives_at t any_pool x ∷ gives_alone (gives_at t any_pool x).table xs

given_alone : (second : Bool) (t u : Table) (p : Pool) (xs : List Call) → given_by second t u p xs ≡ gives_alone t (calls_at second xs)
given_alone second t u p [] = refl
given_alone second t u p (x ∷ xs) =
    go (same_table second x.second) (given_alone second (answered_at t p x).table u (answered_at t p x).pool xs) (given_alone second t (answered_at u p x).table (answered_at u p x).pool xs)
  where
    go : (b : Bool)
        → given_by second (answered_at t p x).table u (answered_at t p x).pool xs ≡ gives_alone (gives_at t p x).table (calls_at second xs)
        → given_by second t (answered_at u p x).table (answered_at u p x).pool xs ≡ gives_alone t (calls_at second xs)
        → pick b (gives_at t p x ∷ given_by second (answered_at t p x).table u (answered_at t p x).pool xs) (given_by second t (answered_at u p x).table (answered_at u p x).pool xs)
        ≡ gives_alone t (pick b (x ∷ calls_at second xs) (calls_at second xs))
    go true e f = ap (λ (l : List Gives). gives_at t p x ∷ l) e ∙ ap (λ (g : Gives). g ∷ gives_alone g.table (calls_at second xs)) (call_same t p any_pool x)
    go false e f = f

-- two lists of calls with the same calls at a table
pub alone_rooms : (second : Bool) (t u v : Table) (p q : Pool) (xs ys : List Call) → calls_at second xs ≡ calls_at second ys → given_by second t u p xs ≡ given_by second t v q ys
alone_rooms second t u v p q xs ys e = given_alone second t u p xs ∙ ap (gives_alone t) e ∙ sym (given_alone second t v q ys)
