-- `mask_at` meets its contract. The invariant: m is the mask of the places walked.
-- Assumes nothing.
use Rattle.std.proofs.Common.{◌≡◌, ◌<◌, ◌≤◌, ◌^◌, ℕ, List, [], ◌∷◌, ◌++◌, length, length-append, refl, ap, ◌∙◌, arith, rules}
use mathlib.Core.List.{append-nil}
use Rattle.std.specs.List.{push}
use Rattle.pots.specs.Heights.{mask_at}
use Rattle.pots.proofs.Backward.{back_turn, back_done}
use Rattle.pots.proofs.Masks.{mask_lt, has_le}
use Rattle.pots.proofs.mask_at.Goals as goal

pub loop-x-init : goal.loop-x-init
unfolding mask_at
loop-x-init c = ([], append-nil _ ∙ search rules, refl)

-- at most nine places were walked
nine : (xs left now done : List ℕ) (x h m : ℕ) → length xs ≡ 10 → left ≡ push now x → left ++ done ≡ xs → m ≡ mask_at done h → m < 2 ^ 9
nine xs left now done x h m n e f g =
    let k : length done ≤ 9 = omega (arith, n, ap length f, length-append left done, ap length e, length-append now (x ∷ [])) in
    omega (arith, g, mask_lt done h 9 k)

pub overflow_mul-m : goal.overflow_mul-m
overflow_mul-m c =
    let v = c.loop-x.invariant in
    let n : length c.args.xs ≡ 10 = search rules in
    let b : c.loop-x.m < 2 ^ 9 = nine c.args.xs _ c.next.new.self.iter.rest.now v.0 c.in-Some.x.now c.args.h _ n c.in-Some.ensures.steps v.1 v.2 in
    record { fits = omega arith }

pub overflow_add-m : goal.overflow_add-m
overflow_add-m c =
    let v = c.loop-x.invariant in
    let n : length c.args.xs ≡ 10 = search rules in
    let b : c.loop-x.m < 2 ^ 9 = nine c.args.xs _ c.next.new.self.iter.rest.now v.0 c.in-Some.x.now c.args.h _ n c.in-Some.ensures.steps v.1 v.2 in
    record { fits = omega (arith, c.has_chip.ensures, has_le c.in-Some.x.now c.args.h) }

pub loop-x-preserved : goal.loop-x-preserved
unfolding mask_at
loop-x-preserved c =
    let v = c.loop-x.invariant in (
      c.in-Some.x.now ∷ v.0,
      back_turn c.loop-x.x-iterator.iter.rest.now c.next.new.self.iter.rest.now v.0 c.in-Some.x.now c.in-Some.ensures.steps v.1,
      omega (arith, c.has_chip.ensures, v.2),
    )

pub returns : goal.returns
returns c =
    let v = c.loop-x.invariant in
    v.2 ∙ ap (λ l. mask_at l c.args.h) (back_done c.loop-x.x-iterator.iter.rest.now c.in-None.ensures.steps.0 v.1)
