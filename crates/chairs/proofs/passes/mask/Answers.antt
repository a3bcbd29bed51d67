-- `mask` meets its contract: the mask is of the places from i on. Assumes nothing.
use Prim.Native.Nat.{suc, ◌-◌}
use mathlib.Core.List.{map}
use mathlib.Core.Path.{◌≡◌, refl, sym, ap, ◌∙◌}
use native.Mathlib.Omega.{arith}
use lib.ListN.{length, get_or, drop}
use Rattle.pots.specs.Heights.{mask_at, has}
use Rattle.chairs.proofs.Laws.{unread}
use Rattle.chairs.proofs.Above.{has_truth, mask_end, mask_turn, top, top_most, bool_one, bool_small}
use Rattle.chairs.proofs.passes.mask.Goals as goal

pub loop-i-init : goal.loop-i-init
loop-i-init g c =
    let cs = c.args.cs.now in
    let e : length cs - length cs ≡ 0 = omega arith in
    (omega (arith, ap top e), λ f h. sym (mask_end f cs))

pub overflow_mul-m : goal.overflow_mul-m
overflow_mul-m g c = omega (arith, c.loop-i.invariant.0, top_most (length c.args.cs.now - c.loop-i.i) 10 (omega arith))

pub overflow_add-m : goal.overflow_add-m
overflow_add-m g c = omega (arith, c.loop-i.invariant.0, c.from.ensures, bool_small c.asked.result, top_most (length c.args.cs.now - c.loop-i.i) 10 (omega arith))

pub loop-i-preserved : goal.loop-i-preserved
loop-i-preserved g c =
    let cs = c.args.cs.now in
    let i = c.loop-i.i in
    let r = c.asked.result in
    let inv = c.loop-i.invariant in
    let e : length cs - (i - 1) ≡ suc (length cs - i) = omega arith in
    let q : i ≡ suc (i - 1) = omega arith in (
      omega (arith, ap top e, inv.0, c.from.ensures, bool_small r),
      λ f h.
          let x = h (get_or cs (i - 1) unread) r (record { shown = _; shows = refl; says = record { met = c.asked.ensures } }) in
          omega (
            arith,
            c.from.ensures,
            bool_one r,
            has_truth r,
            ap (λ k. has k 1) x,
            mask_turn f (i - 1) cs unread (omega arith),
            ap (λ j. mask_at (map f (drop j cs)) 1) q,
            inv.1 f h,
          ),
    )

pub returns : goal.returns
returns g c f h =
    let e : c.loop-i.i ≡ 0 = omega arith in
    c.loop-i.invariant.1 f h ∙ ap (λ j. mask_at (map f (drop j c.args.cs.now)) 1) e
