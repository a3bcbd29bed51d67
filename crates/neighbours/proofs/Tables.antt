-- A table of two, piece after piece: what it becomes and, with the jackpot's number blanked, what it answers hang on its own pieces alone (`table_run`, `answers_run`). For
-- any pieces whose opening is not refused, in any order. Assumes nothing.
use Prim.Native.Nat.{ℕ}
use mathlib.Core.Bool.{Bool, true, false, not, true≢false}
use mathlib.Core.Path.{◌≡◌, refl, sym, ap, ap₂, subst, ◌∙◌}
use mathlib.Core.List.{List, [], ◌∷◌, ◌++◌, map, map-append}
use mathlib.Core.Logic.{⊎_elim}
use lib.ListN.{length, length-set}
use lib.Dec.{eqb}
use Rattle.std.specs.Prelude.{Option, Some, None, Result, Ok, Err}
use Rattle.paper.specs.declared.Sheet.{Sheet}
use Rattle.paper.specs.declared.refusal.Refusal.{Refusal}
use Rattle.laws.specs.Tests.{pick, both}
use Rattle.laws.proofs.Tests.{test}
use Rattle.paper.specs.RefusalNumbers.{taken}
use Rattle.text.specs.Line.{line_number}
use Rattle.text.specs.TableSheet.{sheet_of}
use Rattle.table.specs.declared.table.Table.{Table}
use Rattle.table.specs.Take.{fresh_table}
use Rattle.pool.specs.Jackpot.{opened_with}
use Rattle.pool.specs.declared.Pool.{Pool}
use Rattle.shared.specs.Shared.{judged_at, bytes_at}
use Rattle.frames.specs.declared.Due.{Due}
use Rattle.frames.specs.Frames.{is_pool, in_opening, Piece, Whole, Cut, OfNone, Missing}
use Rattle.couple.specs.declared.Pair.{Pair}
use Rattle.couple.specs.Couple.{is_second, table_at, with_table, Given, still, refused, pool_key, pool_done, sheet_done}
use Rattle.pairs.specs.Pairs.{answered, cut_lines, whole_done, piece_done, piece_in, ran}
use Rattle.pairs.specs.Alone.{same_table}
use Rattle.pairs.proofs.Runs.{ran_shut}
use Rattle.pairs.proofs.Alone.{put_back}
use Rattle.neighbours.specs.Blanked.{blanked}
use Rattle.neighbours.specs.Keyed.{is_of, keyed_in, answer_to, answers_in}
use Rattle.neighbours.proofs.Answers.{blanked_at}

-- ---- an opening that is not refused

pub still_open : (only : ℕ) (p : Pair) (xs : List Piece) → (ran only p xs).pair.shut ≡ false → p.shut ≡ false
still_open only p xs h =
    ⊎_elim (λ (e : p.shut ≡ true). absurd (true≢false (sym (ap (λ (g : Given). g.pair.shut) (ran_shut only p xs e) ∙ e) ∙ h))) (λ (e : p.shut ≡ false). e) (test p.shut)

pub open_in : (only : ℕ) (p : Pair) (x : Piece) → p.shut ≡ false → piece_in only p x ≡ piece_done only p x
unfolding piece_in
open_in only p x e = ap (λ (b : Bool). pick b (still p) (piece_done only p x)) e

-- the line `pool` by what its number is
abbrev pub pool_by : Pair → ℕ → Bool → Given
pool_by p v b = pick b (still (record { shut = p.shut; tables = p.tables; pool = (opened_with v).pool; house = p.house })) (refused p)

-- ---- its own pieces

-- the pool is not asked for what the answer is but for the jackpot's number: any pool will do
abbrev any_pool : Pool
any_pool = record { held = 0 }

abbrev pub sheet_table : Table → Result Sheet Refusal → Table
sheet_table t (Ok s) = fresh_table s
sheet_table t (Err why) = t

abbrev pub table_to : Table → Piece → Table
table_to t (Whole due lines) = pick (in_opening due) (sheet_table t (sheet_of lines)) (judged_at t lines).table
table_to t (Cut due) = (judged_at t cut_lines).table
table_to t OfNone = t
table_to t Missing = t

abbrev pub table_runs : Table → List Piece → Table
table_runs t [] = t
table_runs t (x ∷ xs) = table_runs (table_to t x) xs

abbrev blank_to : Table → Piece → List (List ℕ)
blank_to t (Whole due lines) = pick (in_opening due) [] (blanked (bytes_at t any_pool lines) ∷ [])
blank_to t (Cut due) = blanked (bytes_at t any_pool cut_lines) ∷ []
blank_to t OfNone = []
blank_to t Missing = []

abbrev pub blank_runs : Table → List Piece → List (List ℕ)
blank_runs t [] = []
blank_runs t (x ∷ xs) = blank_to t x ++ blank_runs (table_to t x) xs

-- a piece that is left out
table_pick : (b : Bool) (t : Table) (x : Piece) (xs : List Piece) → table_runs (pick b (table_to t x) t) xs ≡ table_runs t (pick b (x ∷ xs) xs)
table_pick true t x xs = refl
table_pick false t x xs = refl

blank_pick : (b : Bool) (t : Table) (x : Piece) (xs : List Piece) → pick b (blank_to t x) [] ++ blank_runs (pick b (table_to t x) t) xs ≡ blank_runs t (pick b (x ∷ xs) xs)
blank_pick true t x xs = refl
blank_pick false t x xs = refl

-- ---- one piece: the table

-- at the table that is asked for
at_own : (f : Table → Table) (ts : List Table) (second due : Bool) → length ts ≡ 2
    → table_at (with_table ts due (f (table_at ts due))) second ≡ pick (same_table second due) (f (table_at ts second)) (table_at ts second)
at_own f ts second due n = put_back ts due second (f (table_at ts due)) n ∙ go second due
  where
    go : (u v : Bool) → pick (same_table u v) (f (table_at ts v)) (table_at ts u) ≡ pick (same_table u v) (f (table_at ts u)) (table_at ts u)
    go true true = refl
    go true false = refl
    go false true = refl
    go false false = refl

module _ (p : Pair) (n : length p.tables ≡ 2) (second : Bool) where
  abbrev Leads : Bool → (Table → Table) → Given → Type 0
  Leads own f g = (table_at g.pair.tables second ≡ pick own (f (table_at p.tables second)) (table_at p.tables second)) × (length g.pair.tables ≡ 2)

  leads_same : (own : Bool) → pick own (table_at p.tables second) (table_at p.tables second) ≡ table_at p.tables second
  leads_same true = refl
  leads_same false = refl

  leads_answer : (due : Due) (lines : List ℕ) → Leads (same_table second (is_second due)) (λ t. (judged_at t lines).table) (answered 0 p due lines)
  leads_answer due lines = (
    at_own (λ t. (judged_at t lines).table) p.tables second (is_second due) n,
    length-set p.tables (pick (is_second due) 1 0) (judged_at (table_at p.tables (is_second due)) lines).table ∙ n,
  )

  leads_pool : (f : Table → Table) (x : Option ℕ) → Leads false f (pool_done p x)
  leads_pool f (Some v) = go (eqb (opened_with v).code taken)
    where
      go : (b : Bool) → Leads false f (pool_by p v b)
      go true = (refl, n)
      go false = (refl, n)
  leads_pool f None = (refl, n)

  leads_sheet : (due : Due) (x : Result Sheet Refusal) → Leads (same_table second (is_second due)) (λ t. sheet_table t x) (sheet_done p due x)
  leads_sheet due (Ok s) = (at_own (λ t. fresh_table s) p.tables second (is_second due) n, length-set p.tables (pick (is_second due) 1 0) (fresh_table s) ∙ n)
  leads_sheet due (Err why) = (sym (leads_same (same_table second (is_second due))), n)

  leads_whole : (due : Due) (lines : List ℕ) → Leads (is_of second (Whole due lines)) (λ t. table_to t (Whole due lines)) (whole_done 0 p due lines)
  unfolding whole_done
  leads_whole due lines = go (is_pool due) (in_opening due)
    where
      go : (a b : Bool) → Leads (pick a false (same_table second (is_second due))) (λ t. pick b (sheet_table t (sheet_of lines)) (judged_at t lines).table)
          (pick a (pool_done p (line_number pool_key lines)) (pick b (sheet_done p due (sheet_of lines)) (answered 0 p due lines)))
      go true b = leads_pool (λ t. pick b (sheet_table t (sheet_of lines)) (judged_at t lines).table) (line_number pool_key lines)
      go false true = leads_sheet due (sheet_of lines)
      go false false = leads_answer due lines

  leads : (x : Piece) → Leads (is_of second x) (λ t. table_to t x) (piece_done 0 p x)
  leads (Whole due lines) = leads_whole due lines
  leads (Cut due) = leads_answer due cut_lines
  leads OfNone = (refl, n)
  leads Missing = (refl, n)

  pub leads_in : (x : Piece) → p.shut ≡ false → Leads (is_of second x) (λ t. table_to t x) (piece_in 0 p x)
  leads_in x o = subst (Leads (is_of second x) (λ t. table_to t x)) (sym (open_in 0 p x o)) (leads x)

-- ---- one piece: its answer

module _ (p : Pair) (second : Bool) where
  blank_own : (lines : List ℕ) (due : Bool) → map blanked (pick (same_table second due) (bytes_at (table_at p.tables due) p.pool lines ∷ []) [])
      ≡ pick (same_table second due) (blanked (bytes_at (table_at p.tables second) any_pool lines) ∷ []) []
  blank_own lines due = go second due
    where
      one : (t : Table) → map blanked (bytes_at t p.pool lines ∷ []) ≡ blanked (bytes_at t any_pool lines) ∷ []
      one t = ap (λ (l : List ℕ). l ∷ []) (blanked_at t p.pool any_pool lines)

      go : (u v : Bool) → map blanked (pick (same_table u v) (bytes_at (table_at p.tables v) p.pool lines ∷ []) [])
          ≡ pick (same_table u v) (blanked (bytes_at (table_at p.tables u) any_pool lines) ∷ []) []
      go true true = one (table_at p.tables true)
      go true false = refl
      go false true = refl
      go false false = one (table_at p.tables false)

  blank_whole : (due : Due) (lines : List ℕ) → map blanked (pick (is_of second (Whole due lines)) (answer_to p (Whole due lines)) [])
      ≡ pick (is_of second (Whole due lines)) (blank_to (table_at p.tables second) (Whole due lines)) []
  blank_whole due lines = go (is_pool due) (in_opening due) (same_table second (is_second due)) (blank_own lines (is_second due))
    where
      go : (a b c : Bool) → map blanked (pick c (bytes_at (table_at p.tables (is_second due)) p.pool lines ∷ []) [])
          ≡ pick c (blanked (bytes_at (table_at p.tables second) any_pool lines) ∷ []) []
          → map blanked (pick (pick a false c) (pick b [] (bytes_at (table_at p.tables (is_second due)) p.pool lines ∷ [])) [])
          ≡ pick (pick a false c) (pick b [] (blanked (bytes_at (table_at p.tables second) any_pool lines) ∷ [])) []
      go true b c e = refl
      go false true true e = refl
      go false true false e = refl
      go false false c e = e

  blank_piece : (x : Piece) → map blanked (pick (is_of second x) (answer_to p x) []) ≡ pick (is_of second x) (blank_to (table_at p.tables second) x) []
  blank_piece (Whole due lines) = blank_whole due lines
  blank_piece (Cut due) = blank_own cut_lines (is_second due)
  blank_piece OfNone = refl
  blank_piece Missing = refl

  pub blank_in : (x : Piece) → p.shut ≡ false
      → map blanked (pick (both (not p.shut) (is_of second x)) (answer_to p x) []) ≡ pick (is_of second x) (blank_to (table_at p.tables second) x) []
  blank_in x o = ap (λ (z : Bool). map blanked (pick (both (not z) (is_of second x)) (answer_to p x) [])) o ∙ blank_piece x

-- ---- all pieces

pub table_run : (second : Bool) (p : Pair) (xs : List Piece) → length p.tables ≡ 2 → (ran 0 p xs).pair.shut ≡ false
    → table_at (ran 0 p xs).pair.tables second ≡ table_runs (table_at p.tables second) (keyed_in second xs)
table_run second p [] n h = refl
table_run second p (x ∷ xs) n h =
    let t : Table = table_at p.tables second in
    let s = leads_in p n second x (still_open 0 p (x ∷ xs) h) in
    table_run second (piece_in 0 p x).pair xs s.1 h
    ∙ ap (λ (u : Table). table_runs u (keyed_in second xs)) s.0
    ∙ table_pick (is_of second x) t x (keyed_in second xs)

pub answers_run : (second : Bool) (p : Pair) (xs : List Piece) → length p.tables ≡ 2 → (ran 0 p xs).pair.shut ≡ false
    → map blanked (answers_in second p xs) ≡ blank_runs (table_at p.tables second) (keyed_in second xs)
answers_run second p [] n h = refl
answers_run second p (x ∷ xs) n h =
    let t : Table = table_at p.tables second in
    let o : p.shut ≡ false = still_open 0 p (x ∷ xs) h in
    let s = leads_in p n second x o in
    map-append blanked (pick (both (not p.shut) (is_of second x)) (answer_to p x) []) (answers_in second (piece_in 0 p x).pair xs)
    ∙ ap₂ (λ (l m : List (List ℕ)). l ++ m) (blank_in p second x o) (answers_run second (piece_in 0 p x).pair xs s.1 h ∙ ap (λ (u : Table). blank_runs u (keyed_in second xs)) s.0)
    ∙ blank_pick (is_of second x) t x (keyed_in second xs)
