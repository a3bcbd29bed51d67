-- `put_words` meets its contract.
use Rattle.packed.proofs.Rows.{going_start, going_at, going_turn, going_done}
use Rattle.text.proofs.Parts.{part_is}
use lib.ListN.{length, length-drop}
use mathlib.Core.Path.{◌≡◌, refl, ap}
use Prim.Native.Nat.{ℕ, ◌*◌}
use native.Mathlib.Omega.{arith}
use borrow.Author.Rules.{rules}
use Rattle.packed.proofs.put_words.Goals as goal

pub loop-w-init : goal.loop-w-init
loop-w-init c = going_start _ _ _ _

pub slice_bounds-put_word-count : goal.slice_bounds-put_word-count
slice_bounds-put_word-count c = omega (arith, going_at c.loop-w.invariant 4 (λ (w : ℕ). refl) (omega arith), c.loop-w.invariant.same, c.requires)

pub slice_bounds-put_word-start : goal.slice_bounds-put_word-start
slice_bounds-put_word-start c = omega (arith, going_at c.loop-w.invariant 4 (λ (w : ℕ). refl) (omega arith), c.loop-w.invariant.same, c.requires)

pub put_word-at-requires : goal.put_word-at-requires
put_word-at-requires c = let e = going_at c.loop-w.invariant 4 (λ (w : ℕ). refl) (omega arith) in omega (arith, ap length (part_is c.loop-w.at c.loop-w.buffer), length-drop c.loop-w.at c.loop-w.buffer, e, c.loop-w.invariant.same, c.requires)

pub overflow_add-at : goal.overflow_add-at
overflow_add-at c = omega (arith, going_at c.loop-w.invariant 4 (λ (w : ℕ). refl) (omega arith), c.put_word-at.ensures.wrote.count, c.loop-w.invariant.same, c.requires)

pub loop-w-preserved : goal.loop-w-preserved
loop-w-preserved c = going_turn c.loop-w.invariant 0 (omega arith) c.put_word-at.ensures.wrote c.put_word-at.ensures.small refl (search rules)

pub returns : goal.returns
returns c = let d = going_done c.loop-w.invariant (omega arith) in let e : c.loop-w.at ≡ 4 * length c.args.ws.now = omega (arith, going_at c.loop-w.invariant 4 (λ (w : ℕ). refl) (omega arith)) in record { wrote = d.0; small = (d.1, e) }
