-- Request No. 7, the books over a whole input with a good opening: the pair's pool at its end is that after all settled hands of the two tables (`pool_over`), its house
-- all parts that went to the house, while they are at most 999,999,999 (`house_least`); and the opening and all drops are the jackpot payments, the parts that went to the
-- house and that pool (`input_books`, by `pool_books`). For any bytes. Assumes nothing.
use Prim.Native.Nat.{ℕ, ◌+◌, ◌≤◌, ◌<◌, min}
use mathlib.Core.Bool.{Bool, true, false, true≢false, false≢true}
use mathlib.Core.Path.{◌≡◌, refl, sym, ap, ap₂, subst, ◌∙◌}
use mathlib.Core.List.{List, [], ◌∷◌, ◌++◌, append-nil}
use mathlib.Core.Logic.{◌⊎◌, inl, inr, ⊎_elim}
use native.Mathlib.Omega.{arith}
use lib.Dec.{eqb}
use borrow.Author.Tests.{eqb-true}
use Rattle.std.specs.Prelude.{Option, Some, None, Result, Ok, Err}
use Rattle.paper.specs.declared.Sheet.{Sheet}
use Rattle.paper.specs.declared.refusal.Refusal.{Refusal}
use Rattle.laws.specs.Tests.{pick}
use Rattle.laws.proofs.Tests.{test, both_true}
use Rattle.laws.proofs.Sums.{le_or_lt}
use Rattle.paper.specs.RefusalNumbers.{taken}
use Rattle.text.specs.Line.{line_number}
use Rattle.text.specs.TableSheet.{sheet_of, value_in}
use Rattle.table.specs.declared.table.Table.{Table}
use Rattle.royal.specs.Royal.{royal_now}
use Rattle.pool.specs.Jackpot.{most, fits_in, fed_by, settled_pool, opened_with, no_hand}
use Rattle.pool.specs.Evening.{Which, table1, table2, Played, pool_after, drops_of, wins_of, house_parts}
use Rattle.pool.specs.declared.Pool.{Pool}
use Rattle.pool.specs.declared.Hand.{Hand}
use Rattle.pool.specs.declared.Settled.{Settled}
use Rattle.pool.proofs.Hands.{no_hand_law, opening_bad, opening_good, opening_most}
use Rattle.pool.proofs.Books.{pool_books}
use Rattle.desk.specs.declared.Judged.{Judged}
use Rattle.shared.specs.Shared.{judged_at, hand_of}
use Rattle.frames.specs.declared.Which.TheVariants.{First, Second}
use Rattle.frames.specs.declared.Due.{Due}
use Rattle.frames.specs.declared.Due.TheVariants as dues
use Rattle.frames.specs.Frames.{is_pool, in_opening, Piece, Whole, Cut, OfNone, Missing, pieces_of}
use Rattle.couple.specs.declared.Pair.{Pair}
use Rattle.couple.specs.Couple.{is_second, table_at, start_of, Given, pool_key, pool_done, sheet_done}
use Rattle.pairs.specs.Pairs.{answered, cut_lines, whole_done, piece_done, piece_in, ran}
use Rattle.neighbours.specs.Keyed.{is_shut}
use Rattle.neighbours.specs.Hands.{pool_said, opening_in, opening_of, pool_of, which_of, played_by, played_to, hands_in, hands_of}
use Rattle.neighbours.proofs.Order.{of_table, same_part, same_is, is_due, behind, in_order, pieces_ordered}
use Rattle.neighbours.proofs.Tables.{still_open, open_in, pool_by}

-- ---- hands one behind the other

after_append : (p : Pool) (hs gs : List Played) → pool_after p (hs ++ gs) ≡ pool_after (pool_after p gs) hs
unfolding pool_after
after_append p [] gs = refl
after_append p (h ∷ hs) gs = ap (λ (q : Pool). (settled_pool q h.hand).pool) (after_append p hs gs)

parts_append : (p : Pool) (hs gs : List Played) → house_parts p (hs ++ gs) ≡ house_parts p gs + house_parts (pool_after p gs) hs
unfolding house_parts
parts_append p [] gs = omega arith
parts_append p (h ∷ hs) gs = omega (arith, parts_append p hs gs, ap (λ (q : Pool). (settled_pool q h.hand).house) (after_append p hs gs))

-- ---- one piece

-- the pool and the house after the hands of a piece
abbrev Feeds : Pair → List Played → Given → Type 0
Feeds p hs g = (g.pair.pool ≡ pool_after p.pool hs) × (g.pair.house ≡ fed_by p.house (house_parts p.pool hs))

feeds_none : (house : ℕ) → house ≡ fed_by house 0
unfolding fed_by fits_in
feeds_none house = omega arith

feeds_still : (p : Pair) (g : Given) → g.pair.pool ≡ p.pool → g.pair.house ≡ p.house → Feeds p [] g
unfolding pool_after house_parts
feeds_still p g e f = (e, f ∙ feeds_none p.house)

-- a block that settles no hand feeds nothing
one_hand : (q : Pool) (k : Which) (h : Hand) (b : Bool) → ((settled_pool q (pick b h no_hand)).pool ≡ pool_after q (pick b (record { at = k; hand = h } ∷ []) []))
    × ((settled_pool q (pick b h no_hand)).house ≡ house_parts q (pick b (record { at = k; hand = h } ∷ []) []))
unfolding pool_after house_parts
one_hand q k h true = (refl, omega arith)
one_hand q k h false = (ap (λ (s : Settled). s.pool) (no_hand_law q), ap (λ (s : Settled). s.house) (no_hand_law q))

feeds_answer : (p : Pair) (due : Due) (lines : List ℕ) → Feeds p (played_by p due lines) (answered 0 p due lines)
unfolding hand_of
feeds_answer p due lines =
    let t : Table = table_at p.tables (is_second due) in
    let j : Judged = judged_at t lines in
    let h : Hand = record { drop = j.payout.drop; royal = royal_now t } in
    let s = one_hand p.pool (which_of (is_second due)) h j.payout.settled in
    (s.0, ap (fed_by p.house) s.1)

feeds_sheet : (p : Pair) (due : Due) (x : Result Sheet Refusal) → Feeds p [] (sheet_done p due x)
feeds_sheet p due (Ok s) = feeds_still p (sheet_done p due (Ok s)) refl refl
feeds_sheet p due (Err why) = feeds_still p (sheet_done p due (Err why)) refl refl

feeds_whole : (p : Pair) (due : Due) (lines : List ℕ) → is_pool due ≡ false → Feeds p (played_to p (Whole due lines)) (whole_done 0 p due lines)
unfolding whole_done
feeds_whole p due lines n =
    subst (λ (z : Bool). Feeds p (played_to p (Whole due lines)) (pick z (pool_done p (line_number pool_key lines)) (pick (in_opening due) (sheet_done p due (sheet_of lines)) (answered 0 p due lines))))
    (sym n) (go (in_opening due))
  where
    go : (b : Bool) → Feeds p (pick b [] (played_by p due lines)) (pick b (sheet_done p due (sheet_of lines)) (answered 0 p due lines))
    go true = feeds_sheet p due (sheet_of lines)
    go false = feeds_answer p due lines

-- behind the line `pool` no piece is one
not_pool : (due d : Due) (lines : List ℕ) → is_pool due ≡ false → is_due due (Whole d lines) ≡ true → is_pool d ≡ false
not_pool due d lines l i = go (test (in_opening due))
  where
    block_not : (e : Due) → of_table e ≡ true → is_pool e ≡ false
    block_not dues.Pool h = absurd (false≢true h)
    block_not (dues.Sheet w) h = refl
    block_not dues.Table h = refl
    block_not dues.Stray h = refl
    block_not (dues.Block w) h = refl

    go : (in_opening due ≡ true) ⊎ (in_opening due ≡ false) → is_pool d ≡ false
    go (inl e) =
        let q : d ≡ due = same_is d due (sym (ap (λ (z : Bool). pick z (same_part d due) (of_table d)) e) ∙ i) in
        ap is_pool q ∙ l
    go (inr e) =
        let q : of_table d ≡ true = sym (ap (λ (z : Bool). pick z (same_part d due) (of_table d)) e) ∙ i in
        block_not d q

feeds : (p : Pair) (due : Due) (x : Piece) → is_pool due ≡ false → is_due due x ≡ true → Feeds p (played_to p x) (piece_done 0 p x)
feeds p due (Whole d lines) l i = feeds_whole p d lines (not_pool due d lines l i)
feeds p due (Cut d) l i = feeds_answer p d cut_lines
feeds p due OfNone l i = feeds_still p (piece_done 0 p OfNone) refl refl
feeds p due Missing l i = feeds_still p (piece_done 0 p Missing) refl refl

feeds_in : (p : Pair) (due : Due) (x : Piece) → is_pool due ≡ false → is_due due x ≡ true → p.shut ≡ false → Feeds p (pick p.shut [] (played_to p x)) (piece_in 0 p x)
feeds_in p due x l i o =
    subst (λ (z : Bool). Feeds p (pick z [] (played_to p x)) (piece_in 0 p x)) (sym o) (subst (Feeds p (played_to p x)) (sym (open_in 0 p x o)) (feeds p due x l i))

-- ---- all pieces behind the line `pool`

behind_not : (due : Due) → is_pool (behind due) ≡ false
behind_not dues.Pool = refl
behind_not (dues.Sheet First) = refl
behind_not (dues.Sheet Second) = refl
behind_not dues.Table = refl
behind_not dues.Stray = refl
behind_not (dues.Block w) = refl

-- at most so much is kept for the house
house_more : (house sum part : ℕ) → house ≡ min most sum → fed_by house part ≡ min most (sum + part)
unfolding fed_by fits_in
house_more house sum part e = omega (arith, e)

feeds_run : (p : Pair) (xs : List Piece) (due : Due) (sum : ℕ) → is_pool due ≡ false → in_order due xs ≡ true → (ran 0 p xs).pair.shut ≡ false → p.house ≡ min most sum
    → ((ran 0 p xs).pair.pool ≡ pool_after p.pool (hands_in p xs)) × ((ran 0 p xs).pair.house ≡ min most (sum + house_parts p.pool (hands_in p xs)))
unfolding pool_after house_parts
feeds_run p [] due sum l i h e = (refl, omega (arith, e))
feeds_run p (x ∷ xs) due sum l i h e =
    let j = both_true (is_due due x) (in_order (behind due) xs) i in
    let q : Pair = (piece_in 0 p x).pair in
    let gs : List Played = pick p.shut [] (played_to p x) in
    let hs : List Played = hands_in q xs in
    let s = feeds_in p due x l j.0 (still_open 0 p (x ∷ xs) h) in
    let part : ℕ = house_parts p.pool gs in
    let r = feeds_run q xs (behind due) (sum + part) (behind_not due) j.1 h (s.1 ∙ house_more p.house sum part e) in
    let v : sum + part + house_parts (pool_after p.pool gs) hs ≡ sum + house_parts p.pool (hs ++ gs) = omega (arith, parts_append p.pool hs gs) in (
      r.0 ∙ ap (λ (w : Pool). pool_after w hs) s.0 ∙ sym (after_append p.pool hs gs),
      r.1 ∙ ap (λ (w : Pool). min most (sum + part + house_parts w hs)) s.0 ∙ ap (min most) v,
    )

-- ---- the line `pool`

pool_opens : (p : Pair) (x : Option ℕ) → (pool_done p x).pair.shut ≡ false
    → ((pool_done p x).pair.pool ≡ (opened_with (value_in x)).pool) × ((pool_done p x).pair.house ≡ p.house) × ((opened_with (value_in x)).code ≡ taken)
pool_opens p (Some v) h = go (test (eqb (opened_with v).code taken)) h
  where
    go : (eqb (opened_with v).code taken ≡ true) ⊎ (eqb (opened_with v).code taken ≡ false) → (pool_by p v (eqb (opened_with v).code taken)).pair.shut ≡ false
        → ((pool_by p v (eqb (opened_with v).code taken)).pair.pool ≡ (opened_with v).pool) × ((pool_by p v (eqb (opened_with v).code taken)).pair.house ≡ p.house) × ((opened_with v).code ≡ taken)
    go (inl e) k = (ap (λ (b : Bool). (pool_by p v b).pair.pool) e, ap (λ (b : Bool). (pool_by p v b).pair.house) e, eqb-true (opened_with v).code taken e)
    go (inr e) k = absurd (true≢false (sym (ap (λ (b : Bool). (pool_by p v b).pair.shut) e) ∙ k))
pool_opens p None h = absurd (true≢false h)

opened_held : (v : ℕ) → (opened_with v).code ≡ taken → (opened_with v).pool.held ≡ v
opened_held v e =
    ⊎_elim
    (λ (a : v ≤ most). rw (opening_good v a))
    (λ (a : most < v). absurd (omega (arith, opening_bad v a, e)))
    (le_or_lt v most)

abbrev Books : List Piece → Type 0
Books xs =
    let q : Pool = (opened_with (opening_in xs)).pool in
    let g : Given = ran 0 start_of xs in
    (g.pair.pool ≡ pool_after q (hands_in start_of xs)) × (g.pair.house ≡ min most (house_parts q (hands_in start_of xs))) × (q.held ≡ opening_in xs)

-- nothing before the line `pool`
books_none : Books []
unfolding pool_after house_parts
books_none =
    let e : (opened_with 0).pool ≡ record { held = 0 } = rw (opening_good 0 (omega arith)) in
    (sym e, refl, ap (λ (q : Pool). q.held) e)

books_on : (x : Piece) (xs : List Piece) (v : ℕ) → pool_said x ≡ v → pick start_of.shut [] (played_to start_of x) ≡ [] → in_order (dues.Sheet First) xs ≡ true → (ran 0 start_of (x ∷ xs)).pair.shut ≡ false
    → ((piece_in 0 start_of x).pair.pool ≡ (opened_with v).pool) × ((piece_in 0 start_of x).pair.house ≡ 0) × ((opened_with v).code ≡ taken) → Books (x ∷ xs)
books_on x xs v s n i h f =
    let q : Pair = (piece_in 0 start_of x).pair in
    let hs : List Played = hands_in q xs in
    let e : hands_in start_of (x ∷ xs) ≡ hs = ap (λ (l : List Played). hs ++ l) n ∙ append-nil hs in
    let w : q.pool ≡ (opened_with (pool_said x)).pool = f.0 ∙ ap (λ (k : ℕ). (opened_with k).pool) (sym s) in
    let z : 0 + house_parts q.pool hs ≡ house_parts q.pool hs = omega arith in
    let r = feeds_run q xs (dues.Sheet First) 0 refl i h f.1 in (
      r.0 ∙ ap₂ pool_after w (sym e),
      r.1 ∙ ap (min most) z ∙ ap₂ (λ (c : Pool) (l : List Played). min most (house_parts c l)) w (sym e),
      opened_held (pool_said x) (ap (λ (k : ℕ). (opened_with k).code) s ∙ f.2),
    )

books_whole : (d : Due) (lines : List ℕ) (xs : List Piece) → d ≡ dues.Pool → in_order (dues.Sheet First) xs ≡ true → (ran 0 start_of (Whole d lines ∷ xs)).pair.shut ≡ false → Books (Whole d lines ∷ xs)
unfolding whole_done
books_whole d lines xs e i h =
    let x : Option ℕ = line_number pool_key lines in
    let z : piece_in 0 start_of (Whole d lines) ≡ pool_done start_of x = open_in 0 start_of (Whole d lines) refl ∙ ap (λ (k : Due). whole_done 0 start_of k lines) e in
    let o = still_open 0 (piece_in 0 start_of (Whole d lines)).pair xs h in
    let f = pool_opens start_of x (sym (ap (λ (g : Given). g.pair.shut) z) ∙ o) in
    books_on (Whole d lines) xs (value_in x) refl (ap (λ (k : Due). pick (in_opening k) [] (played_by start_of d lines)) e) i h
    (ap (λ (g : Given). g.pair.pool) z ∙ f.0, ap (λ (g : Given). g.pair.house) z ∙ f.1, f.2)

books : (xs : List Piece) → in_order dues.Pool xs ≡ true → (ran 0 start_of xs).pair.shut ≡ false → Books xs
books [] i h = books_none
books (Whole d lines ∷ xs) i h =
    let j = both_true (is_pool d) (in_order (dues.Sheet First) xs) i in
    books_whole d lines xs (same_is d dues.Pool j.0) j.1 h
books (Cut d ∷ xs) i h = absurd (false≢true i)
books (OfNone ∷ xs) i h = absurd (false≢true i)
books (Missing ∷ xs) i h = absurd (true≢false (sym (ap (λ (g : Given). g.pair.shut) (open_in 0 start_of Missing refl)) ∙ still_open 0 (piece_in 0 start_of Missing).pair xs h))

-- ---- a whole input

module _ (input : List ℕ) (h : is_shut input ≡ false) where
  abbrev run : Given
  run = ran 0 start_of (pieces_of input)

  pub pool_over : run.pair.pool ≡ pool_after (pool_of input) (hands_of input)
  pool_over = (books (pieces_of input) (pieces_ordered input) h).0

  pub house_least : run.pair.house ≡ min most (house_parts (pool_of input) (hands_of input))
  house_least = (books (pieces_of input) (pieces_ordered input) h).1

  -- "Pool opening plus all drops equals jackpot payments, the parts that went to the house, and the pool"; and the pool never exceeds the most
  pub input_books : (opening_of input + (drops_of table1 (hands_of input) + drops_of table2 (hands_of input))
      ≡ wins_of table1 (pool_of input) (hands_of input) + wins_of table2 (pool_of input) (hands_of input) + house_parts (pool_of input) (hands_of input) + (pool_after (pool_of input) (hands_of input)).held)
      × ((pool_after (pool_of input) (hands_of input)).held ≤ most)
  input_books =
      let s = pool_books (pool_of input) (hands_of input) (opening_most (opening_of input)) in
      (ap (λ (n : ℕ). n + (drops_of table1 (hands_of input) + drops_of table2 (hands_of input))) (sym (books (pieces_of input) (pieces_ordered input) h).2) ∙ s.0, s.1)
