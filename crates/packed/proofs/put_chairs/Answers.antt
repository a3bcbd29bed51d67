-- `put_chairs` meets its contract.
use Rattle.packed.proofs.Rows.{going_start, going_at, going_turn, going_done}
use Rattle.chairs.specs.declared.Chair.{Chair}
use Rattle.chairs.proofs.Laws.{unread}
use Rattle.text.proofs.Parts.{part_is}
use lib.ListN.{length, length-drop}
use mathlib.Core.Path.{◌≡◌, refl, ap}
use native.Mathlib.Omega.{arith}
use borrow.Author.Rules.{rules}
use Rattle.packed.proofs.put_chairs.Goals as goal

pub loop-c-init : goal.loop-c-init
loop-c-init c = going_start _ _ _ _

pub slice_bounds-put_chair-count : goal.slice_bounds-put_chair-count
slice_bounds-put_chair-count c = let n : length c.args.cs ≡ 10 = search rules in omega (arith, going_at c.loop-c.invariant 28 (λ (x : Chair). refl) (omega arith), c.loop-c.invariant.same, c.requires)

pub slice_bounds-put_chair-start : goal.slice_bounds-put_chair-start
slice_bounds-put_chair-start c = let n : length c.args.cs ≡ 10 = search rules in omega (arith, going_at c.loop-c.invariant 28 (λ (x : Chair). refl) (omega arith), c.loop-c.invariant.same, c.requires)

pub put_chair-at-requires : goal.put_chair-at-requires
put_chair-at-requires c = let n : length c.args.cs ≡ 10 = search rules in let e = going_at c.loop-c.invariant 28 (λ (x : Chair). refl) (omega arith) in omega (arith, ap length (part_is c.loop-c.at c.loop-c.buffer), length-drop c.loop-c.at c.loop-c.buffer, e, c.loop-c.invariant.same, c.requires)

pub overflow_add-at : goal.overflow_add-at
overflow_add-at c = let n : length c.args.cs ≡ 10 = search rules in omega (arith, going_at c.loop-c.invariant 28 (λ (x : Chair). refl) (omega arith), c.put_chair-at.ensures.wrote.count, c.loop-c.invariant.same, c.requires)

pub loop-c-preserved : goal.loop-c-preserved
loop-c-preserved c = let n : length c.args.cs ≡ 10 = search rules in going_turn c.loop-c.invariant unread (omega arith) c.put_chair-at.ensures.wrote c.put_chair-at.ensures.fits refl (search rules)

pub returns : goal.returns
returns c = let n : length c.args.cs ≡ 10 = search rules in let d = going_done c.loop-c.invariant (omega arith) in record { wrote = d.0; fits = (d.1, n) }
