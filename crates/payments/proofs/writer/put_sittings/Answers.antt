-- `payments::writer::put_sittings` meets its contract: each sitting with its part of the proposal. Assumes nothing.
use Rattle.payments.proofs.Cutting.{part_within, part_most, part_long, sittings_turn}
use Rattle.payments.proofs.SmallRows.{take_each, drop_each}
use Rattle.payments.specs.Payments.{sittings_text}
use Rattle.writing.specs.AnswerSheet.{Wrote}
use borrow.Rule.Slice.PartMut.{mid_len}
use borrow.Author.Rules.{rules}
use native.Mathlib.Omega.{arith}
use lib.ListN.{drop}
use Prim.Native.Nat.{ℕ, ◌+◌, ◌-◌, ◌*◌, ◌<◌, ◌^◌}
use mathlib.Core.Path.{◌≡◌, refl, subst}
use Rattle.payments.proofs.writer.put_sittings.Goals as goal

pub loop-s-init : goal.loop-s-init
loop-s-init c = (refl, record { count = refl; sheet = refl }, omega arith)

pub overflow_mul-from : goal.overflow_mul-from
overflow_mul-from c = omega (arith, part_most c.args.n c.args.rows c.loop-s.s c.loop-s-test.true c.requires.0 c.requires.1)

pub overflow_add-from : goal.overflow_add-from
overflow_add-from c = omega (arith, part_most c.args.n c.args.rows c.loop-s.s c.loop-s-test.true c.requires.0 c.requires.1)

pub slice_bounds-put_sitting-count : goal.slice_bounds-put_sitting-count
slice_bounds-put_sitting-count c = omega (arith, c.requires.0, c.requires.5, c.loop-s.invariant.0, c.loop-s.invariant.2, c.loop-s-test.true)

pub slice_bounds-put_sitting-start : goal.slice_bounds-put_sitting-start
slice_bounds-put_sitting-start c = omega (arith, c.requires.0, c.requires.5, c.loop-s.invariant.0, c.loop-s.invariant.2, c.loop-s-test.true)

pub offset_bounds-gives-from : goal.offset_bounds-gives-from
offset_bounds-gives-from c = omega (arith, part_most c.args.n c.args.rows c.loop-s.s c.loop-s-test.true c.requires.0 c.requires.1)

pub slice_bounds-put_sitting-count-in-loop-s : goal.slice_bounds-put_sitting-count-in-loop-s
slice_bounds-put_sitting-count-in-loop-s c = omega (arith, part_most c.args.n c.args.rows c.loop-s.s c.loop-s-test.true c.requires.0 c.requires.1)

pub slice_bounds-put_sitting-start-in-loop-s : goal.slice_bounds-put_sitting-start-in-loop-s
slice_bounds-put_sitting-start-in-loop-s c = omega (arith, c.requires.4, part_within c.args.n c.args.rows c.loop-s.s c.loop-s-test.true)

pub slice_bounds-put_sitting-end-in-loop-s : goal.slice_bounds-put_sitting-end-in-loop-s
slice_bounds-put_sitting-end-in-loop-s c = omega (arith, c.requires.4, part_within c.args.n c.args.rows c.loop-s.s c.loop-s-test.true)

pub put_sitting-at-requires : goal.put_sitting-at-requires
put_sitting-at-requires c = let k = c.loop-s.s * c.args.rows in
    (c.requires.2 c.loop-s.s, omega (arith, c.requires.1, mid_len k (k + c.args.rows) c.args.gives.now (omega (arith, c.requires.4, part_within c.args.n c.args.rows c.loop-s.s c.loop-s-test.true)), part_long k c.args.rows), take_each (λ (t : ℕ). t < 10 ^ 9) 0 (k + c.args.rows - k) (drop k c.args.gives.now) (drop_each (λ (t : ℕ). t < 10 ^ 9) 0 k c.args.gives.now c.requires.3), omega (arith, c.requires.0, c.requires.5, c.loop-s.invariant.0, c.loop-s.invariant.2, c.loop-s-test.true))

pub overflow_add-at : goal.overflow_add-at
overflow_add-at c = omega (arith, c.requires.0, c.loop-s.invariant.2, c.put_sitting-at.ensures.1)

pub loop-s-preserved : goal.loop-s-preserved
loop-s-preserved c = (search rules, sittings_turn c.args.sittings c.args.rows c.args.gives.now c.loop-s.s (c.loop-s.s * c.args.rows) _ refl refl c.loop-s.invariant.1 c.put_sitting-at.ensures.0, omega (arith, c.loop-s.invariant.2, c.put_sitting-at.ensures.1))

pub returns : goal.returns
returns c = let e : c.loop-s.s ≡ c.args.n = omega (arith, c.loop-s-test.false) in
    (subst (λ (k : ℕ). Wrote (sittings_text k c.args.sittings c.args.rows c.args.gives.now) c.args.out.now c.loop-s.out c.loop-s.at) e c.loop-s.invariant.1, omega (arith, c.requires.0, c.loop-s.invariant.2))
