-- `payments::paying::check_out` meets its contract: the checker's answer for the rows that are lent. Assumes nothing.
use Rattle.payments.proofs.Same.{wrote_as}
use Rattle.payments.proofs.Deciding.{few_listed, checked-bad, checked-good}
use Rattle.payments.proofs.SmallRows.{judged_small}
use Rattle.tray.specs.Proposal.{code_of}
use Rattle.payments.specs.Payments.{checked, code_text}
use Rattle.teller.specs.Keeping.{faulty}
use Rattle.laws.specs.Tests.{either}
use Rattle.laws.proofs.Tests.{either_false}
use borrow.Author.Tests.{ltb-false}
use native.Mathlib.Omega.{arith}
use lib.ListN.{length}
use lib.Dec.{ltb}
use Prim.Native.Nat.{ℕ, ◌<◌, ◌^◌}
use mathlib.Core.Bool.{true, false}
use mathlib.Core.Path.{◌≡◌, refl, sym, ap, ◌∙◌, subst}
use Rattle.payments.proofs.paying.check_out.Goals as goal

pub returns-then-either : goal.returns-then-either
unfolding checked
returns-then-either c = let e : either (faulty c.args.s.listed) (ltb 160 c.args.s.given) ≡ true = sym (c.either.ensures ∙ rw c.faulty.ensures refl) ∙ c.if-either.true in
    let l = checked-bad c.args.s c.args.gives.now e in
    record { teller = c.refuse.ensures.0 ∙ l.0; lent = refl; wrote = wrote_as l.1 c.refuse.ensures.1; most = c.refuse.ensures.2 }

pub slice_bounds-accept_from-end : goal.slice_bounds-accept_from-end
slice_bounds-accept_from-end c = let e : either (faulty c.args.s.listed) (ltb 160 c.args.s.given) ≡ false = sym (c.either.ensures ∙ rw c.faulty.ensures refl) ∙ c.if-either.false in
    let n : length c.args.s.listed.paid ≡ 10 = c.well_formed.0.1.1.1.1.1.0.1.1.1.1.1.1.0.1.0.1 in
    omega (arith, n, few_listed c.args.s (either_false (faulty c.args.s.listed) (ltb 160 c.args.s.given) e).0)

pub slice_bounds-accept_from-end-2 : goal.slice_bounds-accept_from-end-2
slice_bounds-accept_from-end-2 c = let e : either (faulty c.args.s.listed) (ltb 160 c.args.s.given) ≡ false = sym (c.either.ensures ∙ rw c.faulty.ensures refl) ∙ c.if-either.false in
    omega (arith, c.requires.1, ltb-false 160 c.args.s.given (either_false (faulty c.args.s.listed) (ltb 160 c.args.s.given) e).1)

pub accept_from-v-requires : goal.accept_from-v-requires
accept_from-v-requires c = c.requires.0.few

pub put_code-requires : goal.put_code-requires
put_code-requires c = (subst (λ (n : ℕ). n < 10 ^ 9) (sym (c.code_of.ensures ∙ c.accept_from-v.ensures.0)) (judged_small _ _ _), c.requires.2)

pub returns : goal.returns
unfolding checked
returns c = let e : either (faulty c.args.s.listed) (ltb 160 c.args.s.given) ≡ false = sym (c.either.ensures ∙ rw c.faulty.ensures refl) ∙ c.if-either.false in
    let l = checked-good c.args.s c.args.gives.now (code_of c.accept_from-v.result.outcome) c.accept_from-v.result.rows e c.accept_from-v.ensures.0 c.accept_from-v.ensures.1 in
    record { teller = c.anew-teller.ensures ∙ l.0; lent = refl; wrote = wrote_as (ap code_text c.code_of.ensures ∙ l.1) c.put_code.ensures.0; most = c.put_code.ensures.1 }
