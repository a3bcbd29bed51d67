-- Request No. 7, "`house` fits nine digits": over a whole input each table drops at most 333,333,333 (`drops_most`), so `house=` says all parts that went to the house
-- (`house_over`), and the last two lines of `pair` are these numbers (`last_lines`). For any bytes with a good opening. Assumes nothing.
use Prim.Native.Nat.{ℕ, ◌+◌, ◌≤◌}
use mathlib.Core.Bool.{Bool, true, false, false≢true}
use mathlib.Core.Path.{◌≡◌, refl, sym, ap, ap₂, subst, ◌∙◌}
use mathlib.Core.List.{List, [], ◌∷◌, ◌++◌}
use mathlib.Core.Logic.{◌⊎◌, inl, inr}
use native.Mathlib.Omega.{arith}
use lib.ListN.{length}
use Rattle.std.specs.Prelude.{Result, Ok, Err}
use Rattle.paper.specs.declared.refusal.Refusal.{Refusal}
use Rattle.laws.specs.Tests.{pick}
use Rattle.laws.proofs.Tests.{test, both_true}
use Rattle.paper.specs.Paper.{stand_in}
use Rattle.paper.specs.declared.Sheet.{Sheet}
use Rattle.paper.proofs.Sheets.{good_ranged}
use Rattle.text.specs.Line.{number_line}
use Rattle.text.specs.TableSheet.{sheet_of}
use Rattle.text.proofs.SheetLaws.{sheet_is}
use Rattle.table.specs.declared.table.Table.{Table}
use Rattle.table.specs.Take.{fresh_table}
use Rattle.royal.specs.Royal.{royal_now}
use Rattle.pool.specs.Jackpot.{most, house_of, settled_pool}
use Rattle.pool.specs.Evening.{Which, table1, table2, is_at, Played, pool_after, drops_of, house_parts}
use Rattle.pool.specs.declared.Pool.{Pool}
use Rattle.pool.specs.declared.Hand.{Hand}
use Rattle.desk.specs.declared.Judged.{Judged}
use Rattle.shared.specs.Shared.{judged_at}
use Rattle.frames.specs.declared.Due.{Due}
use Rattle.frames.specs.declared.Due.TheVariants as dues
use Rattle.frames.specs.Frames.{is_pool, in_opening, Piece, Whole, Cut, OfNone, Missing, pieces_of}
use Rattle.couple.specs.declared.Pair.{Pair}
use Rattle.couple.specs.Couple.{is_second, table_at, start_of, last_bytes, Given, pool_key, house_key}
use Rattle.pairs.specs.Pairs.{cut_lines, piece_in, ran, output_of}
use Rattle.pairs.specs.Alone.{same_table}
use Rattle.neighbours.specs.Keyed.{is_shut, is_of}
use Rattle.neighbours.specs.Hands.{pool_of, which_of, settled_by, played_by, played_to, hands_in, hands_of}
use Rattle.neighbours.proofs.Order.{of_table, same_part, same_is, is_due, behind, in_order, pieces_ordered}
use Rattle.neighbours.proofs.Tables.{still_open, sheet_table, table_to, leads_in}
use Rattle.neighbours.proofs.Drops.{Few, few_less, few_same, few_sum, few_judged}
use Rattle.neighbours.proofs.Books.{pool_over, house_least}

-- ---- a block

drop_one : (k at : Which) (d : ℕ) (r b : Bool) → drops_of k (pick b (record { at = at; hand = record { drop = d; royal = r } } ∷ []) []) ≤ d
unfolding drops_of
drop_one k at d r true = go (is_at k at)
  where
    go : (z : Bool) → pick z d 0 + 0 ≤ d
    go true = omega arith
    go false = omega arith
drop_one k at d r false = omega arith

drop_other : (k at : Which) (d : ℕ) (r b : Bool) → is_at k at ≡ false → drops_of k (pick b (record { at = at; hand = record { drop = d; royal = r } } ∷ []) []) ≡ 0
unfolding drops_of
drop_other k at d r true e = ap (λ (z : Bool). pick z d 0 + 0) e
drop_other k at d r false e = refl

few_own : (t : Table) (k : Which) (lines : List ℕ) (sum : ℕ) → Few t sum
    → Few (judged_at t lines).table (sum + drops_of k (pick (judged_at t lines).payout.settled (record { at = k; hand = record { drop = (judged_at t lines).payout.drop; royal = royal_now t } } ∷ []) []))
few_own t k lines sum f =
    let j : Judged = judged_at t lines in
    let d : ℕ = drops_of k (pick j.payout.settled (record { at = k; hand = record { drop = j.payout.drop; royal = royal_now t } } ∷ []) []) in
    let l : d ≤ j.payout.drop = drop_one k k j.payout.drop (royal_now t) j.payout.settled in
    few_less j.table (sum + j.payout.drop) (sum + d) (omega (arith, l)) (few_judged t lines sum f)

few_other : (t : Table) (k at : Which) (j : Judged) (u : Table) (sum : ℕ) → is_at k at ≡ false → Few t sum
    → Few t (sum + drops_of k (pick j.payout.settled (record { at = at; hand = record { drop = j.payout.drop; royal = royal_now u } } ∷ []) []))
few_other t k at j u sum e f = few_less t sum _ (omega (arith, drop_other k at j.payout.drop (royal_now u) j.payout.settled e)) f

few_answer : (second v : Bool) (ts : List Table) (lines : List ℕ) (sum : ℕ) → Few (table_at ts second) sum
    → Few (pick (same_table second v) (judged_at (table_at ts second) lines).table (table_at ts second)) (sum + drops_of (which_of second) (settled_by v (table_at ts v) (judged_at (table_at ts v) lines)))
few_answer true true ts lines sum f = few_own (table_at ts true) table2 lines sum f
few_answer true false ts lines sum f = few_other (table_at ts true) table2 table1 (judged_at (table_at ts false) lines) (table_at ts false) sum refl f
few_answer false true ts lines sum f = few_other (table_at ts false) table1 table2 (judged_at (table_at ts true) lines) (table_at ts true) sum refl f
few_answer false false ts lines sum f = few_own (table_at ts false) table1 lines sum f

-- ---- the opening

few_fresh : (s : Sheet) → s.drop ≤ 1000 → Few (fresh_table s) 0
few_fresh s m = record { drops = omega arith; taken = omega arith; most = m }

few_sheet : (t : Table) (lines : List ℕ) (x : Result Sheet Refusal) (sum : ℕ) → sheet_of lines ≡ x → sum ≡ 0 → Few t sum → Few (sheet_table t x) sum
few_sheet t lines (Ok s) sum e z f = subst (Few (fresh_table s)) (sym z) (few_fresh s (good_ranged s (sheet_is lines s e)).drop)
few_sheet t lines (Err why) sum e z f = f

-- a sheet is due in the opening, a block behind it
block_late : (d : Due) → of_table d ≡ true → in_opening d ≡ false
block_late dues.Pool h = absurd (false≢true h)
block_late (dues.Sheet w) h = absurd (false≢true h)
block_late dues.Table h = refl
block_late dues.Stray h = refl
block_late (dues.Block w) h = refl

early : (due d : Due) (lines : List ℕ) → is_due due (Whole d lines) ≡ true → in_opening d ≡ true → in_opening due ≡ true
early due d lines i l = go (test (in_opening due))
  where
    go : (in_opening due ≡ true) ⊎ (in_opening due ≡ false) → in_opening due ≡ true
    go (inl e) = e
    go (inr e) = absurd (false≢true (sym (block_late d (sym (ap (λ (z : Bool). pick z (same_part d due) (of_table d)) e) ∙ i)) ∙ l))

late_not : (d : Due) → in_opening d ≡ false → is_pool d ≡ false
late_not dues.Pool h = h
late_not (dues.Sheet w) h = refl
late_not dues.Table h = refl
late_not dues.Stray h = refl
late_not (dues.Block w) h = refl

-- ---- one piece

module _ (second : Bool) (p : Pair) (sum : ℕ) (f : Few (table_at p.tables second) sum) where
  abbrev t : Table
  t = table_at p.tables second

  abbrev After : Piece → Type 0
  After x = Few (pick (is_of second x) (table_to t x) t) (sum + drops_of (which_of second) (played_to p x))

  few_still : (x : Piece) → is_of second x ≡ false → played_to p x ≡ [] → After x
  unfolding drops_of
  few_still x e n =
      subst (λ (hs : List Played). Few (pick (is_of second x) (table_to t x) t) (sum + drops_of (which_of second) hs)) (sym n)
      (subst (λ (b : Bool). Few (pick b (table_to t x) t) (sum + 0)) (sym e) (few_same t sum f))

  abbrev Got : Due → List ℕ → Bool → Bool → Type 0
  Got d lines a b =
      Few (pick (pick a false (same_table second (is_second d))) (pick b (sheet_table t (sheet_of lines)) (judged_at t lines).table) t)
      (sum + drops_of (which_of second) (pick b [] (played_by p d lines)))

  few_opens : (lines : List ℕ) (a c : Bool) → sum ≡ 0 → Few (pick (pick a false c) (sheet_table t (sheet_of lines)) t) (sum + 0)
  few_opens lines true c e = few_same t sum f
  few_opens lines false true e = few_same (sheet_table t (sheet_of lines)) sum (few_sheet t lines (sheet_of lines) sum refl e f)
  few_opens lines false false e = few_same t sum f

  few_whole : (d : Due) (lines : List ℕ) → (in_opening d ≡ true → sum ≡ 0) → After (Whole d lines)
  unfolding drops_of
  few_whole d lines z = go (test (in_opening d))
    where
      go : (in_opening d ≡ true) ⊎ (in_opening d ≡ false) → Got d lines (is_pool d) (in_opening d)
      go (inl e) = subst (Got d lines (is_pool d)) (sym e) (few_opens lines (is_pool d) (same_table second (is_second d)) (z e))
      go (inr e) =
          subst (Got d lines (is_pool d)) (sym e)
          (subst (λ (a : Bool). Got d lines a false) (sym (late_not d e)) (few_answer second (is_second d) p.tables lines sum f))

  few_piece : (due : Due) (x : Piece) → is_due due x ≡ true → (in_opening due ≡ true → sum ≡ 0) → After x
  few_piece due (Whole d lines) i z = few_whole d lines (λ e. z (early due d lines i e))
  few_piece due (Cut d) i z = few_answer second (is_second d) p.tables cut_lines sum f
  few_piece due OfNone i z = few_still OfNone refl refl
  few_piece due Missing i z = few_still Missing refl refl

-- ---- all pieces

drops_append : (k : Which) (hs gs : List Played) → drops_of k (hs ++ gs) ≡ drops_of k hs + drops_of k gs
unfolding drops_of
drops_append k [] gs = omega arith
drops_append k (h ∷ hs) gs = omega (arith, drops_append k hs gs)

-- in the opening no hand is settled
none_early : (p : Pair) (due : Due) (x : Piece) → is_due due x ≡ true → in_opening due ≡ true → played_to p x ≡ []
none_early p due (Whole d lines) i l =
    let q : d ≡ due = same_is d due (sym (ap (λ (z : Bool). pick z (same_part d due) (of_table d)) l) ∙ i) in
    ap (λ (z : Bool). pick z [] (played_by p d lines)) (ap in_opening q ∙ l)
none_early p due (Cut d) i l = absurd (false≢true (sym (ap (λ (z : Bool). pick z false (of_table d)) l) ∙ i))
none_early p due OfNone i l = refl
none_early p due Missing i l = refl

behind_early : (due : Due) → in_opening (behind due) ≡ true → in_opening due ≡ true
behind_early dues.Pool l = refl
behind_early (dues.Sheet w) l = refl
behind_early dues.Table l = l
behind_early dues.Stray l = l
behind_early (dues.Block w) l = l

drops_run : (second : Bool) (p : Pair) (xs : List Piece) (due : Due) (sum : ℕ) → length p.tables ≡ 2 → in_order due xs ≡ true → (ran 0 p xs).pair.shut ≡ false → (in_opening due ≡ true → sum ≡ 0)
    → Few (table_at p.tables second) sum → sum + drops_of (which_of second) (hands_in p xs) ≤ 333333333
unfolding drops_of
drops_run second p [] due sum n i h z f = omega (arith, few_sum (table_at p.tables second) sum f)
drops_run second p (x ∷ xs) due sum n i h z f =
    let j = both_true (is_due due x) (in_order (behind due) xs) i in
    let o : p.shut ≡ false = still_open 0 p (x ∷ xs) h in
    let q : Pair = (piece_in 0 p x).pair in
    let k : Which = which_of second in
    let gs : List Played = pick p.shut [] (played_to p x) in
    let e : gs ≡ played_to p x = ap (λ (b : Bool). pick b [] (played_to p x)) o in
    let s = leads_in p n second x o in
    let g : Few (table_at q.tables second) (sum + drops_of k gs) =
    subst (λ (t : Table). Few t (sum + drops_of k gs)) (sym s.0)
    (subst (λ (l : List Played). Few (pick (is_of second x) (table_to (table_at p.tables second) x) (table_at p.tables second)) (sum + drops_of k l)) (sym e) (few_piece second p sum f due x j.0 z)) in
    let w : in_opening (behind due) ≡ true → sum + drops_of k gs ≡ 0 =
    λ l. omega (arith, z (behind_early due l), ap (drops_of k) (e ∙ none_early p due x j.0 (behind_early due l))) in
    let r = drops_run second q xs (behind due) (sum + drops_of k gs) s.1 j.1 h w g in
    omega (arith, r, drops_append k (hands_in q xs) gs)

-- ---- a whole input

-- of a drop no more than it goes to the house
part_most : (p : Pool) (h : Hand) → (settled_pool p h).house ≤ h.drop
unfolding settled_pool house_of
part_most p h = omega arith

at_one : (k : Which) (x : ℕ) → pick (is_at table1 k) x 0 + pick (is_at table2 k) x 0 ≡ x
at_one table1 x = omega arith
at_one table2 x = omega arith

parts_most : (p : Pool) (hs : List Played) → house_parts p hs ≤ drops_of table1 hs + drops_of table2 hs
unfolding house_parts drops_of
parts_most p [] = omega arith
parts_most p (h ∷ hs) = omega (arith, parts_most p hs, part_most (pool_after p hs) h.hand, at_one h.at h.hand.drop)

module _ (input : List ℕ) (h : is_shut input ≡ false) where
  pub drops_most : (second : Bool) → drops_of (which_of second) (hands_of input) ≤ 333333333
  drops_most second = omega (arith, drops_run second start_of (pieces_of input) dues.Pool 0 refl (pieces_ordered input) h (λ l. refl) (start second))
    where
      start : (b : Bool) → Few (table_at start_of.tables b) 0
      start true = few_fresh stand_in (omega arith)
      start false = few_fresh stand_in (omega arith)

  abbrev run : Given
  run = ran 0 start_of (pieces_of input)

  pub house_over : run.pair.house ≡ house_parts (pool_of input) (hands_of input)
  house_over =
      house_least input h
      ∙ (let s : house_parts (pool_of input) (hands_of input) ≤ most = omega (arith, parts_most (pool_of input) (hands_of input), drops_most true, drops_most false) in omega (arith, s))

  pub last_lines : output_of 0 input
      ≡ run.bytes ++ (number_line pool_key (pool_after (pool_of input) (hands_of input)).held ++ number_line house_key (house_parts (pool_of input) (hands_of input)))
  unfolding last_bytes
  last_lines =
      ap (λ (l : List ℕ). run.bytes ++ l)
      (ap (λ (b : Bool). pick b [] (number_line pool_key run.pair.pool.held ++ number_line house_key run.pair.house)) h
      ∙ ap₂ (λ (q : Pool) (n : ℕ). number_line pool_key q.held ++ number_line house_key n) (pool_over input h) house_over)
