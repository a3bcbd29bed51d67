-- Request No. 7: "Whatever table A does, table B's codes, turns, marks and pots are the same, its stacks and all other lines too". What a table becomes depends on its own
-- blocks alone: not on the other table's, not on the pool, not on lines of no table. For any pieces behind the opening, in any order. Assumes nothing.
use Prim.Native.Nat.{ℕ}
use mathlib.Core.Bool.{Bool, true, false, false≢true}
use mathlib.Core.Path.{◌≡◌, refl, sym, ap, subst, ◌∙◌}
use mathlib.Core.List.{List, [], ◌∷◌, ◌++◌}
use native.Mathlib.Omega.{arith}
use lib.ListN.{length, length-set}
use lib.Seq.{get_or-set_same, get_or-set_other}
use Rattle.laws.specs.Tests.{pick}
use Rattle.laws.proofs.Tests.{both_true}
use Rattle.paper.specs.Paper.{stand_in}
use Rattle.table.specs.declared.table.Table.{Table}
use Rattle.table.specs.Take.{fresh_table}
use Rattle.shared.specs.Shared.{judged_at}
use Rattle.frames.specs.declared.Due.{Due}
use Rattle.frames.specs.declared.Due.TheVariants as due_as
use Rattle.frames.specs.Frames.{Piece, Whole, Cut, OfNone, Missing}
use Rattle.couple.specs.declared.Pair.{Pair}
use Rattle.couple.specs.Couple.{is_second, table_at, with_table, Given}
use Rattle.pairs.specs.Pairs.{answered, cut_lines, whole_done, piece_done, piece_in, ran}
use Rattle.pairs.specs.Alone.{same_table, own, own_lines, table_run, is_block, all_blocks}

-- the tables, and that the opening was not bad
abbrev Two : Pair → Type 0
Two p = (p.shut ≡ false) × (length p.tables ≡ 2)

-- a table put back: itself or the other
pub put_back : (ts : List Table) (due u : Bool) (t : Table) → length ts ≡ 2 → table_at (with_table ts due t) u ≡ pick (same_table u due) t (table_at ts u)
put_back ts true true t n = get_or-set_same ts 1 t (fresh_table stand_in) (omega (arith, n))
put_back ts true false t n = get_or-set_other ts 1 0 t (fresh_table stand_in) (λ e. omega arith)
put_back ts false true t n = get_or-set_other ts 0 1 t (fresh_table stand_in) (λ e. omega arith)
put_back ts false false t n = get_or-set_same ts 0 t (fresh_table stand_in) (omega (arith, n))

own_run : (second due : Bool) (p : Pair) (t : Table) (lines : List ℕ) → t ≡ table_at p.tables due → pick (same_table second due) (judged_at t lines).table (table_at p.tables second)
    ≡ table_run (table_at p.tables second) (pick (same_table second due) (lines ∷ []) [])
own_run true true p t lines e = ap (λ (x : Table). (judged_at x lines).table) e
own_run true false p t lines e = refl
own_run false true p t lines e = refl
own_run false false p t lines e = ap (λ (x : Table). (judged_at x lines).table) e

-- a table that answers: its table, the other's as it was, and still two
answers : (only : ℕ) (p : Pair) (due : Due) (lines : List ℕ) (second : Bool) → Two p
    → (table_at (answered only p due lines).pair.tables second ≡ table_run (table_at p.tables second) (pick (same_table second (is_second due)) (lines ∷ []) [])) × Two (answered only p due lines).pair
answers only p due lines second h =
    let t : Table = table_at p.tables (is_second due) in (
      put_back p.tables (is_second due) second (judged_at t lines).table h.1 ∙ own_run second (is_second due) p t lines refl,
      (h.0, length-set p.tables (pick (is_second due) 1 0) (judged_at t lines).table ∙ h.1),
    )

whole_is : (only : ℕ) (p : Pair) (due : Due) (lines : List ℕ) → is_block (Whole due lines) ≡ true → whole_done only p due lines ≡ answered only p due lines
unfolding whole_done
whole_is only p due_as.Pool lines b = absurd (false≢true b)
whole_is only p (due_as.Sheet t) lines b = absurd (false≢true b)
whole_is only p due_as.Table lines b = refl
whole_is only p due_as.Stray lines b = refl
whole_is only p (due_as.Block t) lines b = refl

-- one piece
piece_alone : (only : ℕ) (p : Pair) (x : Piece) (second : Bool) → Two p → is_block x ≡ true
    → (table_at (piece_done only p x).pair.tables second ≡ table_run (table_at p.tables second) (own second x)) × Two (piece_done only p x).pair
piece_alone only p (Whole due lines) second h b =
    subst (λ (g : Given). (table_at g.pair.tables second ≡ table_run (table_at p.tables second) (own second (Whole due lines))) × Two g.pair) (sym (whole_is only p due lines b))
    (answers only p due lines second h)
piece_alone only p (Cut due) second h b = answers only p due cut_lines second h
piece_alone only p OfNone second h b = (refl, h)
piece_alone only p Missing second h b = absurd (false≢true b)

run_append : (t : Table) (xs ys : List (List ℕ)) → table_run t (xs ++ ys) ≡ table_run (table_run t xs) ys
run_append t [] ys = refl
run_append t (x ∷ xs) ys = run_append (judged_at t x).table xs ys

piece_open : (only : ℕ) (p : Pair) (x : Piece) → p.shut ≡ false → piece_in only p x ≡ piece_done only p x
unfolding piece_in
piece_open only p x e = ap (λ (b : Bool). pick b (record { pair = p; bytes = [] }) (piece_done only p x)) e

-- a table after any pieces is the table after its own lines
pub alone_table : (only : ℕ) (p : Pair) (xs : List Piece) (second : Bool) → p.shut ≡ false → length p.tables ≡ 2 → all_blocks xs ≡ true
    → table_at (ran only p xs).pair.tables second ≡ table_run (table_at p.tables second) (own_lines second xs)
alone_table only p [] second s n b = refl
alone_table only p (x ∷ xs) second s n b =
    let q = both_true (is_block x) (all_blocks xs) b in
    let y : Given = piece_in only p x in
    let h = subst (λ (g : Given). (table_at g.pair.tables second ≡ table_run (table_at p.tables second) (own second x)) × Two g.pair) (sym (piece_open only p x s))
    (piece_alone only p x second (s, n) q.0) in
    alone_table only y.pair xs second h.1.0 h.1.1 q.1
    ∙ ap (λ (t : Table). table_run t (own_lines second xs)) h.0
    ∙ sym (run_append (table_at p.tables second) (own second x) (own_lines second xs))

-- two interleavings with the same lines of a table, any pools, any blocks of the other table: the same table
pub alone : (only : ℕ) (p q : Pair) (xs ys : List Piece) (second : Bool) → p.shut ≡ false → q.shut ≡ false → length p.tables ≡ 2 → length q.tables ≡ 2
    → all_blocks xs ≡ true → all_blocks ys ≡ true → table_at p.tables second ≡ table_at q.tables second → own_lines second xs ≡ own_lines second ys
    → table_at (ran only p xs).pair.tables second ≡ table_at (ran only q ys).pair.tables second
alone only p q xs ys second s r n m b c e f =
    alone_table only p xs second s n b
    ∙ ap (λ (t : Table). table_run t (own_lines second xs)) e
    ∙ ap (table_run (table_at q.tables second)) f
    ∙ sym (alone_table only q ys second r m c)
