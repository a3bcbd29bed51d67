-- `payments::paying::pay_out` meets its contract: the proposer's answer for the rows that are lent. Assumes nothing.
use Rattle.payments.proofs.Same.{does_as, wrote_as}
use Rattle.payments.proofs.Deciding.{few_listed, proposed-long, list-kept, list_written, list-front, code_is, list-is, out-bad, out-refused, out_paid}
use Rattle.tray.specs.Proposal.{code_of}
use Rattle.tray.proofs.Judging.{refused_code}
use Rattle.payments.specs.Payments.{code_text, long, refusal, payment}
use borrow.Rule.Slice.PartMut.{mid_of}
use native.Mathlib.Omega.{arith}
use lib.ListN.{length}
use native.Mathlib.Nat.{mul-le-mul}
use Prim.Native.Nat.{◌-◌, ◌≤◌}
use mathlib.Core.Path.{◌≡◌, refl, sym, ap, ◌∙◌}
use Rattle.payments.proofs.paying.pay_out.Goals as goal

pub returns-then-faulty : goal.returns-then-faulty
returns-then-faulty c = let e = sym c.faulty.ensures ∙ c.if-faulty.true in
    does_as (sym (out-bad c.args.s c.args.gives.now e)) (record { teller = c.refuse.ensures.0; lent = refl; wrote = c.refuse.ensures.1; most = omega (arith, c.refuse.ensures.2) })

pub overflow_mul-long : goal.overflow_mul-long
overflow_mul-long c = let f = few_listed c.args.s (sym c.faulty.ensures ∙ c.if-faulty.false) in omega (arith, mul-le-mul f c.requires.0.few)

pub slice_bounds-propose_from-end : goal.slice_bounds-propose_from-end
slice_bounds-propose_from-end c = let n : length c.args.s.listed.paid ≡ 10 = c.well_formed.0.1.1.1.1.1.0.1.1.1.1.1.1.0.1.0.1 in omega (arith, n, few_listed c.args.s (sym c.faulty.ensures ∙ c.if-faulty.false))

pub slice_bounds-propose_from-end-2 : goal.slice_bounds-propose_from-end-2
slice_bounds-propose_from-end-2 c = let f = few_listed c.args.s (sym c.faulty.ensures ∙ c.if-faulty.false) in omega (arith, c.requires.1, mul-le-mul f c.requires.0.few)

pub propose_from-requires : goal.propose_from-requires
propose_from-requires c = c.requires.0.few

pub refuse-requires-in-Err : goal.refuse-requires-in-Err
refuse-requires-in-Err c = omega (arith, c.requires.2)

pub returns-in-Err : goal.returns-in-Err
returns-in-Err c = let e = sym c.faulty.ensures ∙ c.if-faulty.false in
    let f = few_listed c.args.s e in
    let m : long c.args.s ≤ length c.args.gives.now = omega (arith, c.requires.1, mul-le-mul f c.requires.0.few) in
    let k = code_is c.args.s c.args.gives.now (code_of c.propose_from.result) m c.propose_from.ensures.0 in
    let q = list-is c.args.s c.args.gives.now (code_of c.propose_from.result) _ c.propose_from.ensures.1 ∙ list-kept c.args.s c.args.gives.now (code_of c.propose_from.result) (λ z. refused_code c.in-Err.e (sym (ap code_of c.in-Err.is) ∙ z)) in
    let a : refusal c.args.s c.args.gives.now (code_of c.propose_from.result) ≡ _ = ap (refusal c.args.s c.args.gives.now) k ∙ sym (out-refused c.args.s c.args.gives.now e (λ z. refused_code c.in-Err.e (sym (ap code_of c.in-Err.is) ∙ (k ∙ z)))) in
    does_as a (record { teller = c.refuse-in-Err.ensures.0; lent = q; wrote = wrote_as (ap code_text (sym (ap code_of c.in-Err.is))) c.refuse-in-Err.ensures.1; most = omega (arith, c.refuse-in-Err.ensures.2) })

pub slice_bounds-pay_proposed-end : goal.slice_bounds-pay_proposed-end
slice_bounds-pay_proposed-end c = let f = few_listed c.args.s (sym c.faulty.ensures ∙ c.if-faulty.false) in omega (arith, c.requires.1, mul-le-mul f c.requires.0.few)

pub pay_proposed-requires : goal.pay_proposed-requires
pay_proposed-requires c = let f = few_listed c.args.s (sym c.faulty.ensures ∙ c.if-faulty.false) in
    let n : length c.args.s.listed.paid ≡ 10 = c.well_formed.0.1.1.1.1.1.0.1.1.1.1.1.1.0.1.0.1 in
    let r : length c.args.s.tray.row ≡ 16 = c.well_formed.0.1.1.1.1.0.1.1.1.1.1.0.1.0.1 in
    let m : long c.args.s ≤ length c.args.gives.now = omega (arith, c.requires.1, mul-le-mul f c.requires.0.few) in
    let k = code_is c.args.s c.args.gives.now (code_of c.propose_from.result) m c.propose_from.ensures.0 in
    let z : code_of c.propose_from.result ≡ 0 = ap code_of c.in-Ok.is in
    let q = list-is c.args.s c.args.gives.now (code_of c.propose_from.result) _ c.propose_from.ensures.1 in
    (c.requires.0, f, sym k ∙ z, ap (mid_of 0 (long c.args.s - 0)) (q ∙ rw z (list_written c.args.s c.args.gives.now)) ∙ list-front c.args.s c.args.gives.now (proposed-long c.args.s c.requires.0 f n r), c.requires.2)

pub returns-in-Ok : goal.returns-in-Ok
unfolding payment
returns-in-Ok c = let e = sym c.faulty.ensures ∙ c.if-faulty.false in
    let f = few_listed c.args.s e in
    let m : long c.args.s ≤ length c.args.gives.now = omega (arith, c.requires.1, mul-le-mul f c.requires.0.few) in
    let k = code_is c.args.s c.args.gives.now (code_of c.propose_from.result) m c.propose_from.ensures.0 in
    let z : code_of c.propose_from.result ≡ 0 = ap code_of c.in-Ok.is in
    let q = list-is c.args.s c.args.gives.now (code_of c.propose_from.result) _ c.propose_from.ensures.1 in
    does_as (sym (out_paid c.args.s c.args.gives.now e (sym k ∙ z))) (record { teller = c.pay_proposed.ensures.0; lent = q ∙ rw z (list_written c.args.s c.args.gives.now); wrote = c.pay_proposed.ensures.1; most = c.pay_proposed.ensures.2 })
