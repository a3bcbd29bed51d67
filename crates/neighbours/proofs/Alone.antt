-- Request No. 7, `alone`, over whole inputs: "Whatever table A does, table B's codes, turns, marks and pots are the same, its stacks and all other lines too; only the
-- `jackpot` number may differ". Two inputs with good openings in which the same sheet and the same blocks are keyed at a table, whatever the pool opens with, whatever is keyed
-- at the other table and between the tables, and in whatever order the tables come: that table ends the same (`alone_over`); each of its answers is the same but for the
-- jackpot's number (`alone_answers`), so it is as long (`alone_lengths`); and so are the bytes that `--table` shows (`alone_screen`), which are those answers one behind the
-- other (`screen_is`). Assumes nothing.
use Prim.Native.Nat.{ℕ}
use mathlib.Core.Bool.{Bool, true, false, not, true≢false, false≢true}
use mathlib.Core.Path.{◌≡◌, refl, sym, ap, ap₂, ◌∙◌}
use mathlib.Core.List.{List, [], ◌∷◌, ◌++◌, map, append_assoc, append-nil}
use mathlib.Core.Logic.{◌⊎◌, inl, inr}
use lib.ListN.{length}
use lib.Dec.{eqb}
use Rattle.std.specs.Prelude.{Option, Some, None, Result, Ok, Err}
use Rattle.paper.specs.declared.Sheet.{Sheet}
use Rattle.paper.specs.declared.refusal.Refusal.{Refusal}
use Rattle.laws.specs.Tests.{pick, both}
use Rattle.laws.specs.Lists.{All, whole}
use Rattle.laws.proofs.Tests.{test, both_true}
use Rattle.paper.specs.RefusalNumbers.{taken}
use Rattle.text.specs.Line.{line_number, number_line}
use Rattle.text.specs.TableSheet.{sheet_of}
use Rattle.table.specs.declared.table.Table.{Table}
use Rattle.pool.specs.Jackpot.{opened_with}
use Rattle.shared.specs.Shared.{bytes_at}
use Rattle.frames.specs.declared.Which.TheVariants.{First, Second}
use Rattle.frames.specs.declared.Due.{Due}
use Rattle.frames.specs.declared.Due.TheVariants as dues
use Rattle.frames.specs.Frames.{is_pool, in_opening, Piece, Whole, Cut, OfNone, Missing, pieces_of}
use Rattle.couple.specs.declared.Pair.{Pair}
use Rattle.couple.specs.Couple.{is_second, table_at, start_of, shown_bytes, last_bytes, Given, still, pool_key, house_key, pool_done, sheet_done}
use Rattle.pairs.specs.Pairs.{answered, cut_lines, whole_done, piece_done, piece_in, ran, output_of}
use Rattle.pairs.specs.Alone.{same_table}
use Rattle.neighbours.specs.Blanked.{blanked_in, blanked}
use Rattle.neighbours.specs.Keyed.{is_of, keyed_at, is_shut, table_over, answer_to, answers_in, answers_at, screen_of}
use Rattle.neighbours.proofs.Blanks.{line_after, blanked_append, blanked_length}
use Rattle.neighbours.proofs.Answers.{answer_ended}
use Rattle.neighbours.proofs.Order.{of_table, same_part, same_is, is_due, behind, in_order, pieces_ordered}
use Rattle.neighbours.proofs.Tables.{still_open, open_in, pool_by, table_runs, blank_runs, table_run, answers_run}

-- ---- what is shown changes nothing of the pair

pub pair_same : (only : ℕ) (p : Pair) (x : Piece) → (piece_in only p x).pair ≡ (piece_in 0 p x).pair
unfolding piece_in whole_done
pair_same only p x = go p.shut x
  where
    go : (b : Bool) (y : Piece) → (pick b (still p) (piece_done only p y)).pair ≡ (pick b (still p) (piece_done 0 p y)).pair
    go true y = refl
    go false (Whole due lines) = at (is_pool due) (in_opening due)
      where
        at : (a c : Bool) → (pick a (pool_done p (line_number pool_key lines)) (pick c (sheet_done p due (sheet_of lines)) (answered only p due lines))).pair
            ≡ (pick a (pool_done p (line_number pool_key lines)) (pick c (sheet_done p due (sheet_of lines)) (answered 0 p due lines))).pair
        at true c = refl
        at false true = refl
        at false false = refl
    go false (Cut due) = refl
    go false OfNone = refl
    go false Missing = refl

-- ---- what a table's screen shows of one piece

abbrev Shows : Bool → List ℕ → Due → Type 0
Shows second answer due = shown_bytes (screen_of second) due answer ≡ whole (pick (same_table second (is_second due)) (answer ∷ []) [])

shows_first : (second : Bool) (answer : List ℕ) → Shows second answer (dues.Block First)
unfolding shown_bytes
shows_first true answer = refl
shows_first false answer = sym (append-nil answer)

shows_second : (second : Bool) (answer : List ℕ) → Shows second answer (dues.Block Second)
unfolding shown_bytes
shows_second true answer = sym (append-nil answer)
shows_second false answer = refl

shows : (second : Bool) (answer : List ℕ) (due : Due) → of_table due ≡ true → Shows second answer due
shows second answer dues.Pool h = absurd (false≢true h)
shows second answer (dues.Sheet w) h = absurd (false≢true h)
shows second answer dues.Table h = absurd (false≢true h)
shows second answer dues.Stray h = absurd (false≢true h)
shows second answer (dues.Block First) h = shows_first second answer
shows second answer (dues.Block Second) h = shows_second second answer

none_shown : (second : Bool) (answer : List ℕ) → shown_bytes (screen_of second) dues.Stray answer ≡ []
unfolding shown_bytes
none_shown true answer = refl
none_shown false answer = refl

-- an opening that is not refused says nothing
pool_silent : (p : Pair) (x : Option ℕ) → (pool_done p x).pair.shut ≡ false → (pool_done p x).bytes ≡ []
pool_silent p (Some v) = go (eqb (opened_with v).code taken)
  where
    go : (b : Bool) → (pool_by p v b).pair.shut ≡ false → (pool_by p v b).bytes ≡ []
    go true h = refl
    go false h = absurd (true≢false h)
pool_silent p None = λ h. absurd (true≢false h)

sheet_silent : (p : Pair) (due : Due) (x : Result Sheet Refusal) → (sheet_done p due x).pair.shut ≡ false → (sheet_done p due x).bytes ≡ []
sheet_silent p due (Ok s) h = refl
sheet_silent p due (Err why) h = absurd (true≢false h)

-- a block is one of table 1 or table 2
whole_of : (due d : Due) (lines : List ℕ) → is_due due (Whole d lines) ≡ true → in_opening d ≡ false → of_table d ≡ true
whole_of due d lines h l = go (test (in_opening due))
  where
    go : (in_opening due ≡ true) ⊎ (in_opening due ≡ false) → of_table d ≡ true
    go (inl e) =
        let q : d ≡ due = same_is d due (sym (ap (λ (z : Bool). pick z (same_part d due) (of_table d)) e) ∙ h) in
        absurd (true≢false (sym (ap in_opening q ∙ e) ∙ l))
    go (inr e) = sym (ap (λ (z : Bool). pick z (same_part d due) (of_table d)) e) ∙ h

cut_of : (due d : Due) → is_due due (Cut d) ≡ true → of_table d ≡ true
cut_of due d h = go (test (in_opening due))
  where
    go : (in_opening due ≡ true) ⊎ (in_opening due ≡ false) → of_table d ≡ true
    go (inl e) = absurd (false≢true (sym (ap (λ (z : Bool). pick z false (of_table d)) e) ∙ h))
    go (inr e) = sym (ap (λ (z : Bool). pick z false (of_table d)) e) ∙ h

module _ (second : Bool) (p : Pair) where
  abbrev shown : Piece → Type 0
  shown x = (piece_done (screen_of second) p x).bytes ≡ whole (pick (is_of second x) (answer_to p x) [])

  abbrev whole_by : Due → List ℕ → Bool → Bool → Given
  whole_by d lines a b = pick a (pool_done p (line_number pool_key lines)) (pick b (sheet_done p d (sheet_of lines)) (answered (screen_of second) p d lines))

  none : (c : Bool) → [] ≡ whole (pick c [] [])
  none true = refl
  none false = refl

  screen_whole : (d : Due) (lines : List ℕ) → (in_opening d ≡ false → of_table d ≡ true) → (piece_done (screen_of second) p (Whole d lines)).pair.shut ≡ false → shown (Whole d lines)
  unfolding whole_done
  screen_whole d lines f = go (is_pool d) (in_opening d) f
    where
      go : (a b : Bool) → (b ≡ false → of_table d ≡ true) → (whole_by d lines a b).pair.shut ≡ false
          → (whole_by d lines a b).bytes ≡ whole (pick (pick a false (same_table second (is_second d))) (pick b [] (bytes_at (table_at p.tables (is_second d)) p.pool lines ∷ [])) [])
      go true b e h = pool_silent p (line_number pool_key lines) h
      go false true e h = sheet_silent p d (sheet_of lines) h ∙ none (same_table second (is_second d))
      go false false e h = shows second (bytes_at (table_at p.tables (is_second d)) p.pool lines) d (e refl)

  screen_piece : (due : Due) (x : Piece) → is_due due x ≡ true → (piece_done (screen_of second) p x).pair.shut ≡ false → shown x
  screen_piece due (Whole d lines) i h = screen_whole d lines (whole_of due d lines i) h
  screen_piece due (Cut d) i h = shows second (bytes_at (table_at p.tables (is_second d)) p.pool cut_lines) d (cut_of due d i)
  screen_piece due OfNone i h = none_shown second _
  screen_piece due Missing i h = absurd (true≢false h)

  screen_in : (due : Due) (x : Piece) → is_due due x ≡ true → p.shut ≡ false → (piece_in 0 p x).pair.shut ≡ false
      → (piece_in (screen_of second) p x).bytes ≡ whole (pick (both (not p.shut) (is_of second x)) (answer_to p x) [])
  screen_in due x i o h =
      let e = open_in (screen_of second) p x o in
      ap (λ (g : Given). g.bytes) e
      ∙ screen_piece due x i (sym (ap (λ (g : Given). g.pair.shut) e) ∙ ap (λ (q : Pair). q.shut) (pair_same (screen_of second) p x) ∙ h)
      ∙ sym (ap (λ (z : Bool). whole (pick (both (not z) (is_of second x)) (answer_to p x) [])) o)

-- ---- all pieces

whole_append : (xs ys : List (List ℕ)) → whole (xs ++ ys) ≡ whole xs ++ whole ys
whole_append [] ys = refl
whole_append (x ∷ xs) ys = ap (λ (l : List ℕ). x ++ l) (whole_append xs ys) ∙ sym (append_assoc x (whole xs) (whole ys))

screen_run : (second : Bool) (p : Pair) (xs : List Piece) (due : Due) → in_order due xs ≡ true → (ran 0 p xs).pair.shut ≡ false
    → (ran (screen_of second) p xs).bytes ≡ whole (answers_in second p xs)
screen_run second p [] due i h = refl
screen_run second p (x ∷ xs) due i h =
    let k : ℕ = screen_of second in
    let j = both_true (is_due due x) (in_order (behind due) xs) i in
    let q : Pair = (piece_in 0 p x).pair in
    ap (λ (r : Pair). (piece_in k p x).bytes ++ (ran k r xs).bytes) (pair_same k p x)
    ∙ ap₂ (λ (l m : List ℕ). l ++ m) (screen_in second p due x j.0 (still_open 0 p (x ∷ xs) h) (still_open 0 q xs h)) (screen_run second q xs (behind due) j.1 h)
    ∙ sym (whole_append (pick (both (not p.shut) (is_of second x)) (answer_to p x) []) (answers_in second q xs))

last_none : (second : Bool) (p : Pair) → last_bytes (screen_of second) p ≡ []
unfolding last_bytes
last_none second p = go second p.shut
  where
    go : (u b : Bool) → pick b [] (pick (eqb (screen_of u) 0) (number_line pool_key p.pool.held ++ number_line house_key p.house) []) ≡ []
    go u true = refl
    go true false = refl
    go false false = refl

-- what `--table` shows is that table's answers one behind the other
pub screen_is : (second : Bool) (input : List ℕ) → is_shut input ≡ false → output_of (screen_of second) input ≡ whole (answers_at second input)
screen_is second input h =
    let x : Given = ran (screen_of second) start_of (pieces_of input) in
    ap (λ (l : List ℕ). x.bytes ++ l) (last_none second x.pair) ∙ append-nil x.bytes ∙ screen_run second start_of (pieces_of input) dues.Pool (pieces_ordered input) h

-- ---- blanked, answer by answer

abbrev Ended : List ℕ → Type 0
Ended bs = line_after [] bs ≡ []

ended_append : (xs ys : List (List ℕ)) → All Ended xs → All Ended ys → All Ended (xs ++ ys)
ended_append [] ys a b = b
ended_append (x ∷ xs) ys a b = (a.0, ended_append xs ys a.1 b)

ended_pick : (b : Bool) (xs : List (List ℕ)) → All Ended xs → All Ended (pick b xs [])
ended_pick true xs h = h
ended_pick false xs h = tt

ended_to : (p : Pair) (x : Piece) → All Ended (answer_to p x)
ended_to p (Whole due lines) = go (in_opening due)
  where
    go : (b : Bool) → All Ended (pick b [] (bytes_at (table_at p.tables (is_second due)) p.pool lines ∷ []))
    go true = tt
    go false = (answer_ended (table_at p.tables (is_second due)) p.pool lines, tt)
ended_to p (Cut due) = (answer_ended (table_at p.tables (is_second due)) p.pool cut_lines, tt)
ended_to p OfNone = tt
ended_to p Missing = tt

answers_ended : (second : Bool) (p : Pair) (xs : List Piece) → All Ended (answers_in second p xs)
answers_ended second p [] = tt
answers_ended second p (x ∷ xs) =
    ended_append (pick (both (not p.shut) (is_of second x)) (answer_to p x) []) (answers_in second (piece_in 0 p x).pair xs)
    (ended_pick (both (not p.shut) (is_of second x)) (answer_to p x) (ended_to p x))
    (answers_ended second (piece_in 0 p x).pair xs)

blanked_whole : (xs : List (List ℕ)) → All Ended xs → blanked (whole xs) ≡ whole (map blanked xs)
blanked_whole [] h = refl
blanked_whole (x ∷ xs) h =
    blanked_append [] x (whole xs)
    ∙ ap (λ (l : List ℕ). blanked x ++ l) (ap (λ (l : List ℕ). blanked_in l (whole xs)) h.0 ∙ blanked_whole xs h.1)

lengths : (xs : List (List ℕ)) → map length (map blanked xs) ≡ map length xs
lengths [] = refl
lengths (x ∷ xs) = ap₂ (λ (k : ℕ) (l : List ℕ). k ∷ l) (blanked_length [] x) (lengths xs)

-- ---- whatever the other table does

module _ (second : Bool) (x y : List ℕ) (a : is_shut x ≡ false) (b : is_shut y ≡ false) (same : keyed_at second x ≡ keyed_at second y) where
  abbrev fresh : Table
  fresh = table_at start_of.tables second

  pub alone_over : table_over second x ≡ table_over second y
  alone_over = table_run second start_of (pieces_of x) refl a ∙ ap (table_runs fresh) same ∙ sym (table_run second start_of (pieces_of y) refl b)

  pub alone_answers : map blanked (answers_at second x) ≡ map blanked (answers_at second y)
  alone_answers = answers_run second start_of (pieces_of x) refl a ∙ ap (blank_runs fresh) same ∙ sym (answers_run second start_of (pieces_of y) refl b)

  pub alone_lengths : map length (answers_at second x) ≡ map length (answers_at second y)
  alone_lengths = sym (lengths (answers_at second x)) ∙ ap (map length) alone_answers ∙ lengths (answers_at second y)

  pub alone_screen : blanked (output_of (screen_of second) x) ≡ blanked (output_of (screen_of second) y)
  alone_screen =
      ap blanked (screen_is second x a) ∙ blanked_whole (answers_at second x) (answers_ended second start_of (pieces_of x))
      ∙ ap whole alone_answers
      ∙ sym (ap blanked (screen_is second y b) ∙ blanked_whole (answers_at second y) (answers_ended second start_of (pieces_of y)))

  pub alone_size : length (output_of (screen_of second) x) ≡ length (output_of (screen_of second) y)
  alone_size = sym (blanked_length [] (output_of (screen_of second) x)) ∙ ap length alone_screen ∙ blanked_length [] (output_of (screen_of second) y)
