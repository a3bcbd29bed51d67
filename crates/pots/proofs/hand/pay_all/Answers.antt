-- `pay_all` meets its contract. The invariant: i pots are paid (`Paying`), and the hand's drop is what it was.
-- Assumes nothing.
use Prim.Native.Nat.{ℕ, ◌+◌, ◌≤◌, ◌<◌, ◌-◌, min}
use mathlib.Core.Path.{◌≡◌, refl, sym, ap, ◌∙◌, ap₂, subst}
use mathlib.Core.List.{List, map}
use native.Mathlib.Omega.{arith}
use borrow.Author.Rules.{rules}
use lib.Dec.{eqb}
use lib.ListN.{length, get_or, take, replicate}
use Rattle.pots.specs.declared.Pot.{Pot}
use Rattle.pots.specs.Settle.{fee_of, fees_of, shares_of}
use Rattle.pots.specs.Hand.{drop_of_hand, won_of, winners_of, plus, lowest_after}
use Rattle.laws.specs.Lists.{sum_of}
use Rattle.laws.specs.Tests.{pick}
use Rattle.pots.specs.Runs.{pot, pots_of, pot_sum}
use Rattle.pots.proofs.Hands.{Manned, pots_manned}
use Rattle.pots.proofs.PotLevels.{pots_at_most, pots_and_back}
use Rattle.pots.proofs.Filled.{padded_front}
use Rattle.pots.proofs.Drops.{drop_fits, drop_first, padded_lowest, lowest_within}
use Rattle.pots.proofs.Paying.{Paying, still, paying_start, paying_room, paying_fits, paying_turn, paying_done, manned_at}
use Rattle.pots.proofs.hand.pay_all.Goals.{After-dropped, After-pots_of-p}
use Rattle.pots.proofs.hand.pay_all.Goals as goal

-- the list's first n are the hand's pots
front : (c : After-pots_of-p) → take c.pots_of-p.result.n c.pots_of-p.result.list ≡ pots_of c.args.totals c.args.live
front c = padded_front 9 c.pots_of-p.result.n c.pots_of-p.result.list _ c.pots_of-p.ensures.0 c.pots_of-p.ensures.1

few : (c : After-pots_of-p) → c.pots_of-p.result.n ≤ 9
few c =
    let n : length c.args.totals ≡ 10 = search rules in
    omega (arith, c.pots_of-p.ensures.0, n, pots_at_most c.args.totals c.args.live)

long : (c : After-pots_of-p) → length (take c.pots_of-p.result.n c.pots_of-p.result.list) ≡ c.pots_of-p.result.n
long c = ap length (front c) ∙ sym c.pots_of-p.ensures.0

staffed : (c : After-pots_of-p) → Manned 10 (take c.pots_of-p.result.n c.pots_of-p.result.list)
staffed c =
    let n : length c.args.totals ≡ 10 = search rules in
    subst (Manned 10) (sym (front c)) (subst (λ k. Manned k (pots_of c.args.totals c.args.live)) n (pots_manned c.args.totals c.args.live))

-- the list's first place has the lowest pot, or an empty one
low : (c : After-pots_of-p) → get_or c.pots_of-p.result.list 0 (pot 0 0) ≡ get_or (pots_of c.args.totals c.args.live) 0 (pot 0 0)
low c = ap (λ (l : List Pot). get_or l 0 (pot 0 0)) c.pots_of-p.ensures.1 ∙ padded_lowest 9 (pots_of c.args.totals c.args.live)

-- what is dropped is what the hand drops
dropped-is : (c : After-dropped)
    → let a = c.args in
    c.dropped.result ≡ drop_of_hand a.totals a.live a.rule
dropped-is c =
    let a = c.args in
    c.dropped.ensures
    ∙ ap (λ (q : Pot). pick (eqb a.rule.board 0) 0 (min a.rule.drop (q.amount - fee_of a.rule a.rule.cap q.amount))) (low c.before.before.before)
    ∙ sym (drop_first a.rule (pots_of a.totals a.live))

pub dropped-requires : goal.dropped-requires
dropped-requires c =
    let g = c in
    let a = g.args in
    let p = g.requires in
    let ps = pots_of a.totals a.live in
    (omega (arith, ap (λ (q : Pot). q.amount) (low (goal.at.dropped-requires c).After-pots_of-p), lowest_within ps, pots_and_back a.totals a.live, p.0), p.1, p.2)

pub loop-i-init : goal.loop-i-init
loop-i-init c =
    let g = c in
    let a = g.args in
    let n : length a.scores ≡ 10 = search rules in
    let l : c.dropped.result ≤ lowest_after a.rule a.rule.cap (take g.pots_of-p.result.n g.pots_of-p.result.list) =
    omega (arith, dropped-is (goal.at.loop-i-init c).After-dropped, drop_fits a.rule (pots_of a.totals a.live), ap (lowest_after a.rule a.rule.cap) (front (goal.at.loop-i-init c).After-pots_of-p)) in (
      subst (λ k. Paying a.scores a.rule a.rule.cap a.puck c.dropped.result (take g.pots_of-p.result.n g.pots_of-p.result.list) a.rule.cap (replicate k 0) 0) n (paying_start a.scores a.rule a.rule.cap a.puck c.dropped.result _ l),
      refl,
    )

pub pay-w-requires : goal.pay-w-requires
pay-w-requires c =
    let g = c in
    let l = c.loop-i in
    let d = c.dropped.result in
    let a = g.args in
    let p = g.requires in
    let list = g.pots_of-p.result.list in
    let n = g.pots_of-p.result.n in
    let t : l.i < length (take n list) = omega (arith, long (goal.at.pay-w-requires c).After-pots_of-p) in
    let r = paying_room a.scores a.rule a.rule.cap a.puck d (take n list) l.w.left l.w.each l.i l.invariant.0 (pot 0 0) t in
    let k = paying_fits a.scores a.rule a.rule.cap a.puck d (take n list) l.w.left l.w.each l.i l.invariant.0 (pot 0 0) t in
    let o : c.at_first-off.result ≡ still l.i d = c.at_first-off.ensures ∙ ap (still l.i) l.invariant.1 in (
      omega (arith, r, ap pot_sum (front (goal.at.pay-w-requires c).After-pots_of-p), pots_and_back a.totals a.live, p.0),
      p.1,
      p.2,
      p.3,
      manned_at 10 (take n list) l.i (pot 0 0) (staffed (goal.at.pay-w-requires c).After-pots_of-p) t,
      p.4,
      omega (arith, o, k),
    )

pub loop-i-preserved : goal.loop-i-preserved
loop-i-preserved c =
    let g = c in
    let l = c.loop-i in
    let d = c.dropped.result in
    let a = g.args in
    let list = g.pots_of-p.result.list in
    let n = g.pots_of-p.result.n in
    let k : length a.scores ≡ 10 = search rules in
    let t : l.i < length (take n list) = omega (arith, long (goal.at.loop-i-preserved c).After-pots_of-p) in
    let o : c.at_first-off.result ≡ still l.i d = c.at_first-off.ensures ∙ ap (still l.i) l.invariant.1 in (
      paying_turn a.scores a.rule a.rule.cap a.puck d (take n list) l.w.left l.w.each l.i l.invariant.0 (pot 0 0) c.pay-w.result.left c.pay-w.result.each
          (omega (arith, g.requires.1)) (subst (λ j. Manned j (take n list)) (sym k) (staffed (goal.at.loop-i-preserved c).After-pots_of-p)) t
          c.pay-w.ensures.0
          (c.pay-w.ensures.1
          ∙ ap₂ (λ (j : ℕ) (z : ℕ). plus l.w.each (shares_of j ((get_or (take n list) l.i (pot 0 0)).amount - fee_of a.rule l.w.left (get_or (take n list) l.i (pot 0 0)).amount - z) (winners_of a.scores (get_or (take n list) l.i (pot 0 0)).who) a.puck)) (sym k) o),
      c.pay-w.ensures.2 ∙ l.invariant.1,
    )

pub returns : goal.returns
returns c =
    let g = c in
    let l = c.loop-i in
    let a = g.args in
    let off = dropped-is (goal.at.returns c).After-dropped in
    let d = paying_done a.scores a.rule a.rule.cap a.puck _ _ l.w.left l.w.each l.i l.invariant.0 (omega (arith, long (goal.at.returns c).After-pots_of-p)) in
    let f = front (goal.at.returns c).After-pots_of-p in (
      ap (λ (k : List Pot). l.w.left + sum_of (fees_of a.rule a.rule.cap (map (λ (p : Pot). p.amount) k))) (sym f) ∙ d.0,
      d.1 ∙ ap₂ (won_of a.scores a.rule a.puck a.rule.cap) off f,
      l.invariant.1 ∙ off,
    )
