-- `payments::paying::pay_proposed` meets its contract: what is proposed is accepted, lowers the rows, and is written. Assumes nothing.
use Rattle.payments.proofs.Same.{wrote_as}
use Rattle.payments.proofs.Deciding.{proposed-long, proposed-small, paid-rows}
use Rattle.tray.specs.Proposal.{code_of}
use Rattle.payments.specs.Payments.{code_text, sittings_text, payment}
use Rattle.writing.proofs.Sheets.{then}
use native.Mathlib.Omega.{arith}
use lib.Dec.{lit<}
use lib.ListN.{length, get_or}
use Prim.Native.Nat.{ℕ, ◌<◌, ◌^◌}
use mathlib.Core.List.{List, ◌++◌}
use mathlib.Core.Path.{◌≡◌, sym, ap, ◌∙◌, subst}
use Rattle.payments.proofs.paying.pay_proposed.Goals as goal

pub slice_bounds-accept_from-end : goal.slice_bounds-accept_from-end
slice_bounds-accept_from-end c = let n : length c.args.s.listed.paid ≡ 10 = c.well_formed.0.1.1.1.1.1.0.1.1.1.1.1.1.0.1.0.1 in omega (arith, n, c.requires.1)

pub accept_from-v-requires : goal.accept_from-v-requires
accept_from-v-requires c = c.requires.0.few

pub put_code-at-requires : goal.put_code-at-requires
put_code-at-requires c = (lit< tt, omega (arith, c.requires.4))

pub put_sittings-requires : goal.put_sittings-requires
put_sittings-requires c = let n : length c.args.s.listed.paid ≡ 10 = c.well_formed.0.1.1.1.1.1.0.1.1.1.1.1.1.0.1.0.1 in
    let m : length c.args.s.tray.row ≡ 16 = c.well_formed.0.1.1.1.1.0.1.1.1.1.1.0.1.0.1 in
    (c.requires.1, c.requires.0.few, c.requires.0.sittings, subst (λ (t : List ℕ). (i : ℕ) → get_or t i 0 < 10 ^ 9) (sym c.requires.3) (proposed-small c.args.s c.requires.0 c.requires.1 n m), ap length c.requires.3 ∙ proposed-long c.args.s c.requires.0 c.requires.1 n m, omega (arith, c.requires.4, c.put_code-at.ensures.1))

pub returns : goal.returns
unfolding payment
returns c = let n : length c.args.s.listed.paid ≡ 10 = c.well_formed.0.1.1.1.1.1.0.1.1.1.1.1.1.0.1.0.1 in
    let m : length c.args.s.tray.row ≡ 16 = c.well_formed.0.1.1.1.1.0.1.1.1.1.1.0.1.0.1 in (
      c.anew-teller.ensures ∙ paid-rows c.args.s c.requires.0 c.requires.1 n m c.args.p.now (code_of c.accept_from-v.result.outcome) c.accept_from-v.result.rows c.requires.2 c.requires.3 c.accept_from-v.ensures.0 c.accept_from-v.ensures.1,
      wrote_as (ap (λ (t : List ℕ). code_text 0 ++ sittings_text c.args.s.listed.count c.args.s.listed.sittings c.args.s.tray.rows t) c.requires.3) (then c.put_code-at.ensures.0 c.put_sittings.ensures.0),
      omega (arith, c.put_code-at.ensures.1, c.put_sittings.ensures.1),
    )
