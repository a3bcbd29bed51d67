-- A hand that drops takes at least three entries, `hand`, `board` and `settle`, and drops at most 1,000: so a table of a million entries drops at most 333,333,333 (`Few`,
-- `few_judged`). For any blocks at any table. Assumes nothing.
use Prim.Native.Nat.{ℕ, ◌+◌, ◌*◌, ◌≤◌}
use mathlib.Core.Bool.{Bool, true, false}
use mathlib.Core.Path.{◌≡◌, refl, sym, ap, subst}
use mathlib.Core.List.{List}
use mathlib.Core.Logic.{◌⊎◌, inl, inr}
use native.Mathlib.Omega.{arith}
use lib.Dec.{eqb}
use borrow.Author.Tests.{eqb-true}
use Rattle.std.specs.Prelude.{Result, Ok, Err}
use Rattle.paper.specs.declared.refusal.Refusal.{Refusal}
use Rattle.laws.specs.Tests.{pick, one}
use Rattle.laws.proofs.Tests.{test}
use Rattle.paper.specs.declared.Entry.{Entry}
use Rattle.paper.specs.declared.Entry.TheVariants.{Sit, Leave, Hand, Hole, Fold, Check, Call, Wager, Board, Dead, Settle, Void}
use Rattle.paper.specs.RefusalNumbers.{shares_pool}
use Rattle.pots.specs.Runs.{pots_of}
use Rattle.pots.specs.Hand.{drop_of}
use Rattle.pots.proofs.Drops.{drop_most, drop_none}
use Rattle.blocks.specs.declared.Block.{Block}
use Rattle.blocks.specs.declared.Block.TheVariants.{Raw, Malformed, Nothing}
use Rattle.blocks.specs.Block.{block_of}
use Rattle.blocks.specs.Entry.{parsed_of}
use Rattle.table.specs.Take.{kind_code, applied_to, payout_by, code_of, next_of, payout_of}
use Rattle.table.specs.State.{with_taken}
use Rattle.table.specs.Sittings.{sat_to, left_to}
use Rattle.table.specs.Opening.{posted_to, opened_to}
use Rattle.table.specs.Dealing.{held_to, boarded_to}
use Rattle.table.specs.Betting.{after_act, folded_to, checked_to, called_to, wagered_to, dead_to}
use Rattle.table.specs.Settle.{totals_of, lives_of, commission_of, payout_now, no_payout, settled_to}
use Rattle.table.specs.declared.table.Table.{Table}
use Rattle.table.proofs.Codes.{board_open}
use Rattle.table.proofs.Standing.{sheet_applied}
use Rattle.table.proofs.Sounds.{Passed, passed}
use Rattle.desk.specs.Desk.{refused_at, judge_parsed, judge_block, judged_of}
use Rattle.amends.specs.Righting.{is_right}
use Rattle.shared.specs.Shared.{corrected_number, judged_at}

-- how many of the three are taken of the open hand
abbrev stage : Table → ℕ
stage t = pick (eqb t.board.count 0) (one t.play.opened) 2

-- so much was dropped at this table so far
pub record Few (t : Table) (sum : ℕ) : Type 0 where
  pub drops : 3 * sum + 1000 * stage t ≤ 1000 * t.taken
  pub taken : t.taken ≤ 1000000
  pub most : t.sheet.drop ≤ 1000

pub few_less : (t : Table) (sum less : ℕ) → less ≤ sum → Few t sum → Few t less
few_less t sum less l f = record { drops = omega (arith, f.drops); taken = f.taken; most = f.most }

pub few_sum : (t : Table) (sum : ℕ) → Few t sum → sum ≤ 333333333
few_sum t sum f = omega (arith, f.drops, f.taken)

-- ---- one entry

stage_most : (t : Table) → stage t ≤ 2
stage_most t = go (eqb t.board.count 0) t.play.opened
  where
    go : (a b : Bool) → pick a (one b) 2 ≤ 2
    go true true = omega arith
    go true false = omega arith
    go false b = omega arith

stage_open : (t : Table) → t.play.opened ≡ true → 1 ≤ stage t
stage_open t e = go (eqb t.board.count 0) t.play.opened e
  where
    go : (a b : Bool) → b ≡ true → 1 ≤ pick a (one b) 2
    go true b e = omega (arith, ap one e)
    go false b e = omega arith

stage_hand : (t : Table) (s : ℕ) → stage (opened_to t s) ≤ stage t + 1
unfolding opened_to posted_to
stage_hand t s = go (eqb t.board.count 0) t.play.opened
  where
    go : (a b : Bool) → pick a (one true) 2 ≤ pick a (one b) 2 + 1
    go true b = omega arith
    go false b = omega arith

-- a settle: none is left, and where no board card lies nothing is dropped
settle_drop : (t : Table) → t.sheet.drop ≤ 1000 → 3 * (payout_now t).drop + 1000 * stage (settled_to t) ≤ 1000 * stage t + 1000
unfolding payout_now settled_to
settle_drop t m =
    let ps = pots_of (totals_of t) (lives_of t) in
    let d : ℕ = drop_of (commission_of t) ps in
    let l : d ≤ t.sheet.drop = drop_most (commission_of t) ps in
    go t.board.count d l (λ e. drop_none (commission_of t) ps e) (test (eqb t.board.count 0))
  where
    go : (n d : ℕ) → d ≤ t.sheet.drop → (n ≡ 0 → d ≡ 0) → (eqb n 0 ≡ true) ⊎ (eqb n 0 ≡ false) → 3 * d + 1000 * 0 ≤ 1000 * pick (eqb n 0) (one t.play.opened) 2 + 1000
    go n d l z (inl e) = omega (arith, z (eqb-true n 0 e))
    go n d l z (inr e) = omega (arith, l, m, ap (λ (b : Bool). pick b (one t.play.opened) 2) e)

-- where neither the board nor whether a hand is open changes
abbrev Next : Table → Entry → Type 0
Next t e = 3 * (payout_by t e).drop + 1000 * stage (applied_to t e) ≤ 1000 * stage t + 1000

next_same : (t u : Table) → stage u ≡ stage t → 3 * 0 + 1000 * stage u ≤ 1000 * stage t + 1000
next_same t u e = omega (arith, e)

next_applied : (t : Table) (e : Entry) → t.sheet.drop ≤ 1000 → kind_code t e ≡ 0 → Next t e
unfolding sat_to left_to held_to folded_to checked_to called_to wagered_to dead_to after_act
next_applied t (Sit s a) m h = next_same t (sat_to t s a) refl
next_applied t (Leave s) m h = next_same t (left_to t s) refl
next_applied t (Hand s) m h = omega (arith, stage_hand t s)
next_applied t (Hole s a b) m h = next_same t (held_to t s a b) refl
next_applied t (Fold s) m h = next_same t (folded_to t s) refl
next_applied t (Check s) m h = next_same t (checked_to t s) refl
next_applied t (Call s) m h = next_same t (called_to t s) refl
next_applied t (Wager s a) m h = next_same t (wagered_to t s a) refl
next_applied t (Board k) m h = omega (arith, stage_most (boarded_to t k), stage_open t (board_open t k h))
next_applied t (Dead s) m h = next_same t (dead_to t s) refl
next_applied t Settle m h = settle_drop t m
next_applied t Void m h = next_same t t refl

few_next : (t : Table) (n : ℕ) (e : Entry) (sum : ℕ) → Few t sum → Few (next_of t n e) (sum + (payout_of t n e).drop)
unfolding next_of payout_of
few_next t n e sum f = go (eqb (code_of t n e) 0) (λ z. eqb-true (code_of t n e) 0 z)
  where
    yes : code_of t n e ≡ 0 → Few (with_taken (applied_to t e) n) (sum + (payout_by t e).drop)
    yes h =
        let q : Passed t n e = passed t n e h in
        record {
          drops = omega (arith, f.drops, next_applied t e f.most q.moment, q.next);
          taken = q.range;
          most = subst (λ (s : _). s.drop ≤ 1000) (sym (sheet_applied t e)) f.most;
        }

    go : (b : Bool) → (b ≡ true → code_of t n e ≡ 0) → Few (pick b (with_taken (applied_to t e) n) t) (sum + (pick b (payout_by t e) no_payout).drop)
    go true x = yes (x refl)
    go false x = few_less t sum (sum + 0) (omega arith) f

-- ---- one block

pub few_same : (t : Table) (sum : ℕ) → Few t sum → Few t (sum + 0)
few_same t sum f = few_less t sum (sum + 0) (omega arith) f

few_parsed : (t : Table) (n : ℕ) (p : Result Entry Refusal) (sum : ℕ) → Few t sum → Few (judge_parsed t n p).table (sum + (judge_parsed t n p).payout.drop)
few_parsed t n (Ok e) sum f = few_next t n e sum f
few_parsed t n (Err why) sum f = few_same t sum f

few_block : (t : Table) (b : Block) (sum : ℕ) → Few t sum → Few (judge_block t b).table (sum + (judge_block t b).payout.drop)
few_block t (Raw n kind seat a b) sum f = few_parsed t n (parsed_of kind seat a b) sum f
few_block t Malformed sum f = few_same t sum f
few_block t Nothing sum f = few_same t sum f

pub few_judged : (t : Table) (log : List ℕ) (sum : ℕ) → Few t sum → Few (judged_at t log).table (sum + (judged_at t log).payout.drop)
unfolding judged_at judged_of
few_judged t log sum f = go (is_right log)
  where
    go : (b : Bool) → Few (pick b (refused_at t (corrected_number log) shares_pool) (judge_block t (block_of log))).table
        (sum + (pick b (refused_at t (corrected_number log) shares_pool) (judge_block t (block_of log))).payout.drop)
    go true = few_same t sum f
    go false = few_block t (block_of log) sum f
