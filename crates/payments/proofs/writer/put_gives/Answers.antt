-- `payments::writer::put_gives` meets its contract: the lines of a sitting's part, one behind the other. Assumes nothing.
use Rattle.payments.specs.Payments.{give_text}
use Rattle.answers.proofs.Blocks.{joined_more}
use Rattle.answers.specs.Answer.{joined}
use Rattle.writing.proofs.Sheets.{then}
use Rattle.writing.specs.AnswerSheet.{Wrote}
use borrow.Author.Rules.{rules}
use native.Mathlib.Omega.{arith}
use lib.Seq.{take_all}
use lib.ListN.{length}
use Prim.Native.Nat.{ℕ, ◌≤◌}
use mathlib.Core.List.{List}
use mathlib.Core.Path.{refl, subst}
use Rattle.payments.proofs.writer.put_gives.Goals as goal

pub loop-n-init : goal.loop-n-init
loop-n-init c = (refl, record { count = refl; sheet = refl }, omega arith)

pub slice_bounds-put_give-count : goal.slice_bounds-put_give-count
slice_bounds-put_give-count c = omega (arith, c.requires.2, c.loop-n.invariant.0, c.loop-n.invariant.2, c.loop-n-test.true)

pub slice_bounds-put_give-start : goal.slice_bounds-put_give-start
slice_bounds-put_give-start c = omega (arith, c.requires.2, c.loop-n.invariant.0, c.loop-n.invariant.2, c.loop-n-test.true)

pub put_give-at-requires : goal.put_give-at-requires
put_give-at-requires c = (c.requires.1 c.loop-n.n-index, omega (arith, c.requires.2, c.loop-n.invariant.0, c.loop-n.invariant.2, c.loop-n-test.true))

pub overflow_add-at : goal.overflow_add-at
overflow_add-at c = omega (arith, c.requires.0, c.loop-n.invariant.2, c.put_give-at.ensures.1)

pub loop-n-preserved : goal.loop-n-preserved
loop-n-preserved c = (search rules, rw (joined_more give_text c.args.part.now 0 c.loop-n.n-index (omega (arith, c.loop-n-test.true))) (then c.loop-n.invariant.1 c.put_give-at.ensures.0), omega (arith, c.loop-n.invariant.2, c.put_give-at.ensures.1))

pub returns : goal.returns
returns c = let over : length c.args.part.now ≤ c.loop-n.n-index = omega arith in
    (subst (λ (t : List ℕ). Wrote (joined give_text t) c.args.out.now c.loop-n.out c.loop-n.at) (take_all c.loop-n.n-index c.args.part.now over) c.loop-n.invariant.1, omega (arith, c.loop-n.invariant.2))
