-- `pay` meets its contract: the pot has a winner, and the shares are what the commission and the drop leave of it.
-- Assumes nothing.
use Prim.Native.Nat.{◌<◌, ◌-◌}
use mathlib.Core.Path.{◌≡◌, refl, sym, ap, ◌∙◌, ap₂, subst}
use native.Mathlib.Omega.{arith}
use borrow.Author.Rules.{rules}
use lib.ListN.{length}
use Rattle.laws.specs.Lists.{sum_of}
use Rattle.pots.specs.Settle.{ones, shares_of}
use Rattle.pots.specs.Hand.{winners_of, plus}
use Rattle.pots.proofs.Settling.{fee_left, fee_within, shares_all}
use Rattle.pots.proofs.Hands.{plus_sum, shares_length}
use Rattle.pots.proofs.Winners.{winners_some}
use Rattle.pots.proofs.hand.pay.Goals.{After-winners}
use Rattle.pots.proofs.hand.pay.Goals as goal

wins : (c : After-winners) → 0 < ones 10 c.winners.result
wins c =
    let a = c.args in
    let n : length a.scores ≡ 10 = search rules in
    let w = winners_some a.scores a.pot.who (subst (λ k. 0 < ones k a.pot.who) (sym n) c.requires.4) in
    subst (λ k. 0 < ones 10 k) (sym c.winners.ensures) (subst (λ k. 0 < ones k (winners_of a.scores a.pot.who)) n w)

pub overflow_sub-amount : goal.overflow_sub-amount
overflow_sub-amount c =
    let a = c.args in
    omega (arith, c.fee-f.ensures, fee_within a.rule a.w.left a.pot.amount (omega (arith, c.requires)))

pub overflow_sub-amount-2 : goal.overflow_sub-amount-2
overflow_sub-amount-2 c = omega (arith, c.fee-f.ensures, c.requires.6)

pub shares-s-requires : goal.shares-s-requires
shares-s-requires c =
    let p = c.requires in
    (omega (arith, p.0), wins (goal.at.shares-s-requires c).After-winners, omega (arith, p.3))

pub overflow_sub-result : goal.overflow_sub-result
overflow_sub-result c =
    let a = c.args in
    omega (arith, c.fee-f.ensures, fee_left a.rule a.w.left a.pot.amount)

pub added-requires : goal.added-requires
added-requires c =
    let a = c.args in
    let n : length a.w.each ≡ 10 = search rules in
    let f = c.fee-f.result in
    let w = c.winners.result in
    let e = ap sum_of c.shares-s.ensures ∙ shares_all 10 (a.pot.amount - f - a.off) w _ (wins (goal.at.added-requires c).After-winners) in
    let l = ap length c.shares-s.ensures ∙ shares_length 10 (a.pot.amount - f - a.off) w _ in
    omega (arith, c.requires.0, e, plus_sum a.w.each c.shares-s.result (n ∙ sym l))

pub returns : goal.returns
returns c =
    let a = c.args in
    let f = c.fee-f.ensures in (
      ap (λ k. a.w.left - k) f,
      c.added.ensures ∙ ap (plus a.w.each) (c.shares-s.ensures ∙ ap₂ (λ k m. shares_of 10 (a.pot.amount - k - a.off) m a.puck) f c.winners.ensures),
      refl,
    )
