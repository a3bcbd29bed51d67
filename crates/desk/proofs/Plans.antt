-- What a table says to the plan of a block, the plan's own code first, is what the desk judges; the numbers of it are small. For any table and any block.
-- Assumes nothing.
use mathlib.Core.Path.{◌≡◌, refl, sym, ap, subst, ◌∙◌}
use mathlib.Core.Bool.{Bool, true, false, not}
use Prim.Native.Nat.{ℕ, suc, ◌+◌, ◌<◌, ◌^◌}
use native.Mathlib.Omega.{arith}
use lib.Dec.{eqb}
use Rattle.std.specs.Prelude.{Result, Ok, Err}
use Rattle.paper.specs.declared.refusal.Refusal.{Refusal}
use Rattle.paper.specs.Paper.{out_of_range, not_next, wrong_moment, when, or_else, in_range}
use Rattle.paper.specs.declared.Entry.{Entry}
use Rattle.paper.specs.declared.Entry.TheVariants.{Void}
use Rattle.blocks.specs.Entry.{parsed_of}
use Rattle.blocks.specs.declared.Block.{Block}
use Rattle.blocks.specs.declared.Block.TheVariants.{Raw, Malformed, Nothing}
use Rattle.table.specs.Settle.{no_payout}
use Rattle.table.specs.Take.{Sound, code_of, payout_of, taken_of}
use Rattle.table.specs.declared.table.Table.{Table}
use Rattle.table.specs.declared.table.Payout.{Payout as Paid}
use Rattle.table.specs.declared.table.Taken.{Taken}
use Rattle.table.proofs.Refusals.{refused_same, refused_unpaid}
use Rattle.desk.specs.declared.Judged.{Judged}
use Rattle.desk.specs.declared.Planned.{Planned}
use Rattle.desk.specs.Desk.{judge_parsed, judge_block, number_of_block, SmallPaid}
use Rattle.desk.specs.Plans.{no_entry, plan_parsed, plan_of, judged_by}
use Rattle.desk.proofs.Laws.{small_payout}

-- ---- every table refuses a void

void_refused : (t : Table) (n : ℕ) → code_of t n Void ≡ 0 → ⊥
unfolding code_of
void_refused t n h = go (not (in_range t.sheet n Void)) (not (eqb (t.taken + 1) n)) h
  where
    go : (a b : Bool) → or_else (when a out_of_range) (or_else (when b not_next) wrong_moment) ≡ 0 → ⊥
    go true b e = omega (arith, e)
    go false true e = omega (arith, e)
    go false false e = omega (arith, e)

void_taken : (t : Table) (n : ℕ) → taken_of t n Void ≡ record { code = code_of t n Void; table = t; payout = no_payout }
unfolding taken_of
void_taken t n =
    ap (λ (u : Table). record { code = code_of t n Void; table = u; payout = payout_of t n Void }) (refused_same t n Void (void_refused t n))
    ∙ ap (λ (p : Paid). record { code = code_of t n Void; table = t; payout = p }) (refused_unpaid t n Void (void_refused t n))

-- so what has its code already is refused with it, a block or none
void_judged : (t : Table) (block : Bool) (n code : ℕ)
    → judged_by (no_entry block n (suc code)) (taken_of t n Void) ≡ record { block = block; n = n; code = suc code; table = t; payout = no_payout }
void_judged t block n code = ap (judged_by (no_entry block n (suc code))) (void_taken t n)

-- ---- what is judged

parsed_judged : (t : Table) (n : ℕ) (p : Result Entry Refusal) → judged_by (plan_parsed n p) (taken_of t (plan_parsed n p).n (plan_parsed n p).entry) ≡ judge_parsed t n p
unfolding taken_of
parsed_judged t n (Err why) = void_judged t true n 1
parsed_judged t n (Ok e) = refl

block_judged : (t : Table) (b : Block) → judged_by (plan_of b) (taken_of t (plan_of b).n (plan_of b).entry) ≡ judge_block t b
block_judged t (Raw n k s a b) = parsed_judged t n (parsed_of k s a b)
block_judged t Malformed = void_judged t true 0 0
block_judged t Nothing = void_judged t false 0 0

pub plan_judged : (t : Table) (b : Block) {p : Planned} {k : Taken} {code : ℕ} → p ≡ plan_of b → k ≡ taken_of t p.n p.entry → code ≡ or_else p.code k.code
    → ◌≡◌ {A = Judged} (record { block = p.block; n = p.n; code = code; table = k.table; payout = k.payout }) (judge_block t b)
plan_judged t b {p} {k} e q r =
    ap (λ (c : ℕ). record { block = p.block; n = p.n; code = c; table = k.table; payout = k.payout }) r
    ∙ ap (judged_by p) q
    ∙ ap (λ (x : Planned). judged_by x (taken_of t x.n x.entry)) e
    ∙ block_judged t b

-- ---- its numbers

parsed_number : (n : ℕ) (p : Result Entry Refusal) → (plan_parsed n p).n ≡ n
parsed_number n (Err why) = refl
parsed_number n (Ok e) = refl

block_number : (b : Block) → (plan_of b).n ≡ number_of_block b
block_number (Raw n k s a b) = parsed_number n (parsed_of k s a b)
block_number Malformed = refl
block_number Nothing = refl

pub plan_number : (b : Block) {p : Planned} → p ≡ plan_of b → number_of_block b < 10 ^ 9 → p.n < 10 ^ 9
plan_number b e h = subst (λ (n : ℕ). n < 10 ^ 9) (sym (ap (λ (x : Planned). x.n) e ∙ block_number b)) h

pub plan_paid : (t : Table) (n : ℕ) (e : Entry) {k : Taken} → Sound t → k ≡ taken_of t n e → SmallPaid k.payout
unfolding taken_of
plan_paid t n e h q = subst SmallPaid (sym (ap (λ (x : Taken). x.payout) q)) (small_payout t n e h)

-- ---- for the proofs of `judge_block` and `plan`

pub judged_small : (t : Table) (b : Block) {p : Planned} {k : Taken} {code : ℕ} → Sound t → number_of_block b < 10 ^ 9 → p ≡ plan_of b
    → (k ≡ taken_of t p.n p.entry) × Sound k.table → code ≡ or_else p.code k.code
    → (◌≡◌ {A = Judged} (record { block = p.block; n = p.n; code = code; table = k.table; payout = k.payout }) (judge_block t b)) × Sound k.table × SmallPaid k.payout × (p.n < 10 ^ 9)
judged_small t b {p} h m e f r = (plan_judged t b e f.0 r, f.1, plan_paid t p.n p.entry h f.0, plan_number b e m)

pub plan_raw : (b : Block) {n k s a c : ℕ} {p : Result Entry Refusal} {r : Planned} → b ≡ Raw n k s a c → p ≡ parsed_of k s a c → r ≡ plan_parsed n p → r ≡ plan_of b
plan_raw b {n} q e f = f ∙ ap (plan_parsed n) e ∙ ap plan_of (sym q)
