-- Laws of the desk: what is shown is small, a refusal changes nothing, 12 keeps every byte. Assumes nothing.
use mathlib.Core.Path.{◌≡◌, refl, sym, ap, subst, ◌∙◌}
use mathlib.Core.List.{List, [], ◌∷◌, ◌++◌, map}
use mathlib.Core.Bool.{Bool, true, false}
use mathlib.Core.Logic.{⊎_elim}
use Prim.Native.Nat.{ℕ, zero, suc, ◌+◌, ◌-◌, ◌≤◌, ◌<◌, ◌^◌}
use native.Mathlib.Numerals.{add-one}
use native.Mathlib.Omega.{arith}
use lib.ListN.{length, get_or, replicate, take, drop, set, drop_of_length-le}
use lib.Seq.{drop-cons, take_all}
use lib.Dec.{eqb}
use borrow.Author.Tests.{le-leb, lt-leb, ne_eqb}
use Rattle.std.specs.Prelude.{Option, Some, None, Result, Ok, Err}
use Rattle.paper.specs.declared.refusal.Refusal.TheVariants.{NoRoom}
use Rattle.paper.specs.declared.refusal.Refusal.{Refusal}
use Rattle.laws.specs.Tests.{pick}
use Rattle.text.specs.Line.{line_number, after_line, value_of}
use Rattle.blocks.specs.Block.{block_of, block_from, line_kind}
use Rattle.blocks.specs.Entry.{parsed_of}
use Rattle.writing.specs.AnswerSheet.{fits, written_of, sheet_after, over}
use Rattle.blocks.specs.Codes.{code_of_block}
use Rattle.text.proofs.Numbers.{number_back}
use Rattle.blocks.specs.declared.Block.{Block}
use Rattle.blocks.specs.declared.Block.TheVariants.{Raw, Malformed, Nothing}
use Rattle.paper.specs.declared.Entry.{Entry}
use Rattle.paper.specs.declared.Entry.TheVariants.{Sit, Leave, Hand, Hole, Fold, Check, Call, Wager, Board, Dead, Settle, Void}
use Rattle.chairs.specs.Chairs.{column_of, Numbered}
use Rattle.laws.specs.Lists.{All, sum_of}
use Rattle.chairs.specs.declared.Chair.{Chair}
use Rattle.table.specs.Settle.{totals_of, lives_of, here_of, scores_of, due_now, pots_now, back_now, payout_now, no_payout, commission_of}
use Rattle.table.specs.Take.{Sound, code_of, payout_of, payout_by}
use Rattle.table.proofs.Laws.{totals_within, paid_at, due_small, sheet_rate}
use Rattle.table.proofs.Refusals.{codes, refused_same}
use Rattle.table.specs.declared.table.Table.{Table}
use Rattle.table.specs.declared.table.Payout.{Payout as Paid}
use Rattle.pots.specs.Heights.{back_of}
use Rattle.pots.specs.Runs.{pot_sum, pots_of, padded}
use Rattle.pots.specs.declared.Pot.{Pot}
use Rattle.pots.specs.declared.Pots.{Pots}
use Rattle.pots.proofs.PotLevels.{pots_and_back}
use Rattle.laws.proofs.Places.{store_front}
use Rattle.pots.proofs.Hands.{none_lost, map_length, paid_and_unclaimed}
use Rattle.answers.specs.declared.PaidRow.{PaidRow}
use Rattle.answers.specs.declared.ShownPayout.{ShownPayout}
use Rattle.answers.specs.declared.Shown.{Shown}
use Rattle.answers.specs.Answer.{SmallPaidRow, SmallShown, answer_bytes}
use Rattle.desk.specs.declared.Judged.{Judged}
use Rattle.desk.specs.declared.Answered.{Answered}
use Rattle.desk.specs.Desk.{rows_of, payout_shown, shown_of, no_block, judge_parsed, judge_block, judged_of, judged_bytes, block_bytes, answered_from, answered_of, number_of_block, SmallPaid, Closed}
use Rattle.chairs.specs.What as what

-- ---- rows of sittings and what they are paid, one by one

abbrev row_at : List ℕ → List ℕ → ℕ → PaidRow
row_at ss ps i = record { sitting = get_or ss i 0; paid = get_or ps i 0 }

pub rows_turn : (a all : List PaidRow) (ss ps : List ℕ) (i : ℕ) → i < length a → i < length ss → i < length ps
    → take i a ++ rows_of (drop i ss) (drop i ps) ≡ all → take (i + 1) (set a i (row_at ss ps i)) ++ rows_of (drop (i + 1) ss) (drop (i + 1) ps) ≡ all
rows_turn a all ss ps i l m n e =
    let q : row_at ss ps i ∷ rows_of (drop (i + 1) ss) (drop (i + 1) ps) ≡ rows_of (drop i ss) (drop i ps) =
    rw (add-one i, drop-cons ss i 0 m, drop-cons ps i 0 n) in
    store_front a i (row_at ss ps i) (rows_of (drop (i + 1) ss) (drop (i + 1) ps)) l ∙ ap (λ (k : List PaidRow). take i a ++ k) q ∙ e

pub rows_done : (a all : List PaidRow) (ss ps : List ℕ) (i : ℕ) → length a ≤ i → length ss ≤ i → take i a ++ rows_of (drop i ss) (drop i ps) ≡ all → a ≡ all
rows_done a all ss ps i l m e =
    sym (take_all i a l) ∙ sym (nil (take i a)) ∙ ap (λ (k : List PaidRow). take i a ++ k) (sym (ap (λ (k : List ℕ). rows_of k (drop i ps)) (drop_of_length-le ss m))) ∙ e
  where
    nil : (b : List PaidRow) → b ++ [] ≡ b
    nil [] = refl
    nil (x ∷ b) = ap (λ (k : List PaidRow). x ∷ k) (nil b)

-- ---- a padded list of pots has no larger pot than their sum

abbrev none : Pot
none = record { amount = 0; who = 0 }

none_in : (m k : ℕ) → get_or (replicate m none) k none ≡ none
none_in zero k = refl
none_in (suc m) zero = refl
none_in (suc m) (suc k) = none_in m k

pots_within : (ps : List Pot) (m k : ℕ) → (get_or (ps ++ replicate m none) k none).amount ≤ pot_sum ps
unfolding pot_sum
pots_within [] m k = let e : (get_or (replicate m none) k none).amount ≡ 0 = ap (λ (p : Pot). p.amount) (none_in m k) in omega arith
pots_within (p ∷ ps) m zero = omega arith
pots_within (p ∷ ps) m (suc k) = omega (arith, pots_within ps m k)

padded_within : (n : ℕ) (ps : List Pot) (k : ℕ) → (get_or (padded n ps) k none).amount ≤ pot_sum ps
unfolding padded
padded_within n ps k = pots_within ps (n - length ps) k

-- ---- a number that was read is below 10 ^ 9

from_small : (n k s a b : Option ℕ) → ((v : ℕ) → n ≡ Some v → v < 10 ^ 9) → number_of_block (block_from n k s a b) < 10 ^ 9
from_small None k s a b h = omega arith
from_small (Some n) None s a b h = omega arith
from_small (Some n) (Some k) None a b h = omega arith
from_small (Some n) (Some k) (Some s) None b h = omega arith
from_small (Some n) (Some k) (Some s) (Some a) None h = omega arith
from_small (Some n) (Some k) (Some s) (Some a) (Some b) h = h n refl

pub block_small : (log : List ℕ) → number_of_block (block_of log) < 10 ^ 9
unfolding block_of
block_small log = go (eqb (length log) 0)
  where
    go : (t : Bool) → number_of_block (pick t Nothing (block_from
        (line_number (110 ∷ []) log)
        (line_kind (after_line log))
        (line_number (115 ∷ 101 ∷ 97 ∷ 116 ∷ []) (after_line (after_line log)))
        (line_number (97 ∷ []) (after_line (after_line (after_line log))))
        (line_number (98 ∷ []) (after_line (after_line (after_line (after_line log))))))) < 10 ^ 9
    go true = omega arith
    go false = from_small (line_number (110 ∷ []) log) _ _ _ _ (λ v e. (number_back (value_of (110 ∷ []) log) v e).1)

-- ---- what is paid is small

zeros : (n k : ℕ) → get_or (replicate n 0) k 0 < 10 ^ 9
zeros zero k = omega arith
zeros (suc n) zero = omega arith
zeros (suc n) (suc k) = zeros n k

pub small_none : SmallPaid no_payout
small_none = record { fee = omega arith; sittings = zeros 10; paid = zeros 10; unclaimed = omega arith }

numbers_small : (n : ℕ) (cs : List Chair) (k : ℕ) → All (Numbered n) cs → get_or (map (column_of what.Sitting) cs) k 0 ≤ n
numbers_small n [] k a = omega arith
numbers_small n (c ∷ cs) zero a = a.0.dealt
numbers_small n (c ∷ cs) (suc k) a = numbers_small n cs k a.1

totals_small : (t : Table) → Sound t → sum_of (totals_of t) ≤ 100000000
totals_small t h = omega (arith, totals_within t.chairs, h.payable.chips)

fee_small : (t : Table) → Sound t → (payout_now t).fee ≤ 100000000
unfolding payout_now
fee_small t h =
    let ls = map_length (λ (c : Chair). column_of what.Total c) t.chairs in
    omega (
      arith,
      totals_small t h,
      none_lost (totals_of t) (lives_of t) (scores_of t) (commission_of t) t.play.puck
          (map_length _ t.chairs ∙ sym ls)
          (omega (arith, sheet_rate t.sheet h.payable.sheet)),
    )

small_now : (t : Table) → Sound t → SmallPaid (payout_now t)
unfolding payout_now
small_now t h =
    record {
      fee = omega (arith, fee_small t h);
      sittings = λ k. omega (arith, numbers_small t.sittings t.chairs k h.numbered, h.sittings, h.taken);
      paid = λ k. omega (arith, paid_at t h.payable k);
      unclaimed = omega (arith, due_small t h.payable, paid_and_unclaimed (due_now t) (here_of t));
    }

small_by : (t : Table) (e : Entry) → Sound t → SmallPaid (payout_by t e)
small_by t (Sit s a) h = small_none
small_by t (Leave s) h = small_none
small_by t (Hand s) h = small_none
small_by t (Hole s a b) h = small_none
small_by t (Fold s) h = small_none
small_by t (Check s) h = small_none
small_by t (Call s) h = small_none
small_by t (Wager s a) h = small_none
small_by t (Board k) h = small_none
small_by t (Dead s) h = small_none
small_by t Settle h = small_now t h
small_by t Void h = small_none

pub small_payout : (t : Table) (n : ℕ) (e : Entry) → Sound t → SmallPaid (payout_of t n e)
unfolding payout_of
small_payout t n e h = go (eqb (code_of t n e) 0)
  where
    go : (b : Bool) → SmallPaid (pick b (payout_by t e) no_payout)
    go true = small_by t e h
    go false = small_none

-- ---- a refusal changes nothing

parsed_same : (t : Table) (n : ℕ) (p : Result Entry Refusal) → ((judge_parsed t n p).code ≡ 0 → ⊥) → (judge_parsed t n p).table ≡ t
parsed_same t n (Err why) h = refl
parsed_same t n (Ok e) h = refused_same t n e h

pub block_same : (t : Table) (b : Block) → ((judge_block t b).code ≡ 0 → ⊥) → (judge_block t b).table ≡ t
block_same t (Raw n k s a b) h = parsed_same t n (parsed_of k s a b) h
block_same t Malformed h = refl
block_same t Nothing h = refl

pub judged_same : (t : Table) (log : List ℕ) → ((judged_of t log).code ≡ 0 → ⊥) → (judged_of t log).table ≡ t
unfolding judged_of
judged_same t log h = block_same t (block_of log) h

answered_same : (t : Table) (j : Judged) (w : Result ℕ Refusal) → ((j.code ≡ 0 → ⊥) → j.table ≡ t) → ((answered_from t j w).code ≡ 0 → ⊥) → (answered_from t j w).table ≡ t
answered_same t j (Ok k) q h = q h
answered_same t j (Err why) q h = refl

-- after any code but 0 the table is the one before, and so is the count of taken entries, which is a field of it
pub refusal_keeps : (t : Table) (log sheet : List ℕ) → ((answered_of t log sheet).code ≡ 0 → ⊥) → (answered_of t log sheet).table ≡ t
unfolding answered_of
refusal_keeps t log sheet h = answered_same t (judged_of t log) (written_of (block_bytes t log) sheet) (judged_same t log) h

-- ---- 12 is given exactly where the sheet is too short, and then keeps every byte

code_most : (t : Table) (n : ℕ) (e : Entry) → code_of t n e ≤ 10
code_most t n e = ⊎_elim (λ z. omega arith) (λ z. z.1) (codes t n e)

parsed_most : (t : Table) (n : ℕ) (p : Result Entry Refusal) → (judge_parsed t n p).code ≤ 10
parsed_most t n (Err why) = omega arith
parsed_most t n (Ok e) = code_most t n e

block_most : (t : Table) (b : Block) → (judge_block t b).code ≤ 10
block_most t (Raw n k s a b) = parsed_most t n (parsed_of k s a b)
block_most t Malformed = omega arith
block_most t Nothing = omega arith

pub judged_most : (t : Table) (log : List ℕ) → (judged_of t log).code ≤ 10
unfolding judged_of
judged_most t log = block_most t (block_of log)

pub twelve_keeps : (t : Table) (log sheet : List ℕ) → (answered_of t log sheet).code ≡ 12 → sheet_after (block_bytes t log) sheet ≡ sheet
unfolding answered_of
twelve_keeps t log sheet h = go (fits (block_bytes t log) sheet) h
  where
    go : (b : Bool) → (answered_from t (judged_of t log) (pick b (Ok (length (block_bytes t log))) (Err NoRoom))).code ≡ 12 → pick b (over (block_bytes t log) sheet) sheet ≡ sheet
    go false e = refl
    go true e = absurd (omega (arith, judged_most t log, e))

-- and it is given exactly then
pub twelve_when : (t : Table) (log sheet : List ℕ) → (length sheet < length (block_bytes t log)) → (answered_of t log sheet).code ≡ 12
unfolding answered_of
twelve_when t log sheet h = rw (lt-leb (length (block_bytes t log)) (length sheet) h)

-- ---- where there are bytes there is a block

from_some : (t : Table) (n k s a b : Option ℕ) → (judge_block t (block_from n k s a b)).block ≡ true
from_some t None k s a b = refl
from_some t (Some n) None s a b = refl
from_some t (Some n) (Some k) None a b = refl
from_some t (Some n) (Some k) (Some s) None b = refl
from_some t (Some n) (Some k) (Some s) (Some a) None = refl
from_some t (Some n) (Some k) (Some s) (Some a) (Some b) = go (parsed_of k s a b)
  where
    go : (p : Result Entry Refusal) → (judge_parsed t n p).block ≡ true
    go (Err why) = refl
    go (Ok e) = refl

pub some_block : (t : Table) (log : List ℕ) → 0 < length log → (judged_of t log).block ≡ true
unfolding judged_of block_of
some_block t log h =
    ap (λ (z : Bool). (judge_block t (pick z Nothing (read log))).block) (ne_eqb (length log) 0 (λ z. omega arith))
    ∙ from_some t (line_number (110 ∷ []) log) (line_kind (after_line log)) (line_number (115 ∷ 101 ∷ 97 ∷ 116 ∷ []) (after_line (after_line log)))
    (line_number (97 ∷ []) (after_line (after_line (after_line log)))) (line_number (98 ∷ []) (after_line (after_line (after_line (after_line log)))))
  where
    read : List ℕ → Block
    read l =
        block_from
        (line_number (110 ∷ []) l)
        (line_kind (after_line l))
        (line_number (115 ∷ 101 ∷ 97 ∷ 116 ∷ []) (after_line (after_line l)))
        (line_number (97 ∷ []) (after_line (after_line (after_line l))))
        (line_number (98 ∷ []) (after_line (after_line (after_line (after_line l)))))

-- and its answer shows what was judged
pub some_bytes : (t : Table) (log : List ℕ) → 0 < length log
    → block_bytes t log ≡ answer_bytes (shown_of (judged_of t log).n (judged_of t log).code (judged_of t log).table (judged_of t log).payout)
unfolding block_bytes
some_bytes t log h =
    ap (λ (z : Bool). pick z (answer_bytes (shown_of (judged_of t log).n (judged_of t log).code (judged_of t log).table (judged_of t log).payout)) []) (some_block t log h)

-- ---- no bytes fit any sheet, and leave it as it is

nothing_fits : (sheet : List ℕ) → fits [] sheet ≡ true
nothing_fits sheet = le-leb 0 (length sheet) (omega arith)

pub writes_none : (sheet : List ℕ) → written_of [] sheet ≡ Ok 0
writes_none sheet = ap (λ (b : Bool). pick b (Ok 0) (Err NoRoom)) (nothing_fits sheet)

pub keeps_all : (sheet : List ℕ) → sheet_after [] sheet ≡ sheet
keeps_all sheet = ap (λ (b : Bool). pick b (over [] sheet) sheet) (nothing_fits sheet)

-- "No bytes left means no block": the caller is told, nothing is written, and the table and every byte of the sheet are as they were
pub nothing_answered : (t : Table) (sheet : List ℕ)
    → (answered_of t [] sheet ≡ record { block = false; code = code_of_block Nothing; table = t; written = 0 }) × (sheet_after (block_bytes t []) sheet ≡ sheet)
unfolding answered_of block_bytes judged_of block_of
nothing_answered t sheet = (ap (answered_from t (no_block t)) (writes_none sheet), keeps_all sheet)

rows_small : (ss ps : List ℕ) (k : ℕ) → ((i : ℕ) → get_or ss i 0 < 10 ^ 9) → ((i : ℕ) → get_or ps i 0 < 10 ^ 9) → SmallPaidRow (get_or (rows_of ss ps) k (record { sitting = 0; paid = 0 }))
rows_small [] ps k h q = record { sitting = omega arith; paid = omega arith }
rows_small (s ∷ ss) [] k h q = record { sitting = omega arith; paid = omega arith }
rows_small (s ∷ ss) (p ∷ ps) zero h q = record { sitting = h 0; paid = q 0 }
rows_small (s ∷ ss) (p ∷ ps) (suc k) h q = rows_small ss ps k (λ i. h (suc i)) (λ i. q (suc i))

shown_small : (n code : ℕ) (t : Table) (p : Paid) → Sound t → n < 10 ^ 9 → code < 256 → SmallPaid p → length (pots_now t) ≤ 9 → Closed t p → SmallShown (shown_of n code t p)
unfolding shown_of pots_now back_now
shown_small n code t p r a b w d z =
    let ts = totals_of t in
    let live = lives_of t in
    let s : sum_of ts ≤ 100000000 = totals_small t r in
    let all : pot_sum (pots_of ts live) + back_of ts live ≡ sum_of ts = pots_and_back ts live in
    record {
      n = a;
      code = omega arith;
      turn = omega (arith, r.turn);
      mark = omega (arith, r.mark);
      count = d;
      pots = λ k. omega (arith, padded_within 9 (pots_of ts live) k, all);
      closed = z;
      back = omega arith;
      payout = record { fee = w.fee; jackpot = omega arith; rows = λ k. rows_small p.sittings p.paid k w.sittings w.paid; unclaimed = w.unclaimed };
    }

pub made_shown : (n code : ℕ) (t : Table) (p : Paid) {ps : Pots} {back k : ℕ} {po : ShownPayout}
    → (ps.n ≡ length (pots_now t)) × (ps.list ≡ padded 9 (pots_now t)) × (ps.n ≤ 9)
    → back ≡ back_now t → po ≡ payout_shown p → (k ≡ code) × (k < 256) → Sound t → n < 10 ^ 9 → SmallPaid p → Closed t p
    → (◌≡◌ {A = Shown} (record { n = n; code = k; turn = t.play.turn; mark = t.play.mark; pots = ps; back = back; settled = p.settled; payout = po }) (shown_of n code t p))
    × SmallShown (record { n = n; code = k; turn = t.play.turn; mark = t.play.mark; pots = ps; back = back; settled = p.settled; payout = po })
unfolding shown_of
made_shown n code t p {ps} {back} {k} {po} v b o kc r h w z =
    let e : ◌≡◌ {A = Shown} (record { n = n; code = k; turn = t.play.turn; mark = t.play.mark; pots = ps; back = back; settled = p.settled; payout = po }) (shown_of n code t p) =
    rw (kc.0, o, b) (ap (λ (z : Pots). record { n = n; code = code; turn = t.play.turn; mark = t.play.mark; pots = z; back = back_now t; settled = p.settled; payout = payout_shown p }) (pots-eq ps v.0 v.1)) in
    (e, subst SmallShown (sym e) (shown_small n code t p r h (omega arith) w (omega arith) z))
  where
    pots-eq : (z : Pots) {a : ℕ} {f : List Pot} → z.n ≡ a → z.list ≡ f → z ≡ record { n = a; list = f }
    pots-eq z e f = rw (e, f)

pub answered_is : (t : Table) (k : Judged) (sheet : List ℕ) {j : Judged} {s : Shown} {w : Result ℕ Refusal} {r : Answered} {out : List ℕ}
    → j ≡ k → j.block ≡ true → s ≡ shown_of j.n j.code j.table j.payout → w ≡ written_of (answer_bytes s) sheet → out ≡ sheet_after (answer_bytes s) sheet
    → r ≡ answered_from t j w → Sound r.table
    → (r ≡ answered_from t k (written_of (judged_bytes k) sheet)) × ((out ≡ sheet_after (judged_bytes k) sheet) × Sound r.table)
answered_is t k sheet {j} {s} {w} {r} {out} p o q e f g h =
    let shown : answer_bytes s ≡ judged_bytes j =
    ap answer_bytes q ∙ sym (ap (λ (z : Bool). pick z (answer_bytes (shown_of j.n j.code j.table j.payout)) []) o) in
    let b : answer_bytes s ≡ judged_bytes k = shown ∙ ap judged_bytes p in
    let e' : w ≡ written_of (judged_bytes k) sheet = e ∙ ap (λ (x : List ℕ). written_of x sheet) b in
    let f' : out ≡ sheet_after (judged_bytes k) sheet = f ∙ ap (λ (x : List ℕ). sheet_after x sheet) b in
    (g ∙ ap (λ (x : Judged). answered_from t x w) p ∙ ap (answered_from t k) e', (f', h))

-- where there is no block nothing is written
pub none_answered : (t : Table) (k : Judged) (sheet : List ℕ) {j : Judged} → j ≡ k → j.block ≡ false → Sound j.table
    → (◌≡◌ {A = Answered} (record { block = false; code = j.code; table = j.table; written = 0 }) (answered_from t k (written_of (judged_bytes k) sheet)))
    × ((sheet ≡ sheet_after (judged_bytes k) sheet) × Sound j.table)
none_answered t k sheet {j} p o h =
    let none : judged_bytes k ≡ [] =
    ap judged_bytes (sym p) ∙ ap (λ (z : Bool). pick z (answer_bytes (shown_of j.n j.code j.table j.payout)) []) o in
    let said : ◌≡◌ {A = Answered} (record { block = false; code = j.code; table = j.table; written = 0 }) (answered_from t j (Ok 0)) =
    ap (λ (z : Bool). record { block = z; code = j.code; table = j.table; written = 0 }) (sym o) in (
      said ∙ ap (λ (x : Judged). answered_from t x (Ok 0)) p ∙ ap (answered_from t k) (sym (writes_none sheet) ∙ ap (λ (x : List ℕ). written_of x sheet) (sym none)),
      (sym (keeps_all sheet) ∙ ap (λ (x : List ℕ). sheet_after x sheet) (sym none), h),
    )

-- what is answered to a block that was read is what the log that it was read from is answered
pub read_answered : (t : Table) (log sheet : List ℕ) {b : Block} → b ≡ block_of log
    → (answered_from t (judge_block t b) (written_of (judged_bytes (judge_block t b)) sheet) ≡ answered_of t log sheet) × (judged_bytes (judge_block t b) ≡ block_bytes t log)
unfolding answered_of block_bytes judged_of
read_answered t log sheet e =
    (ap (λ (x : Block). answered_from t (judge_block t x) (written_of (judged_bytes (judge_block t x)) sheet)) e, ap (λ (x : Block). judged_bytes (judge_block t x)) e)
