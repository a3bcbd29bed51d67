-- A pair and the three highest other ranks.
use mathlib.Core.Path.{◌≡◌, ap, ◌∙◌}
use mathlib.Core.List.{List}
use Prim.Native.Nat.{ℕ}
use lib.ListN.{get_or}
use Rattle.counts.specs.HandOrder.{leaving}
use Rattle.counts.specs.Kept.{ranks_in}
use Rattle.laws.proofs.Choosing.{Drops}
use Rattle.counts.proofs.Masked.{ranks_drop}
use Rattle.counts.proofs.Firsts.{second_is, third_is}
use Rattle.counts.proofs.naming.pair_hand.Goals as goal

pub returns : goal.returns
returns c =
    let a = c.args in
    let m = c.less-m in
    let n = c.less-n in
    let o = c.less in
    let others : ranks_in m.result ≡ leaving a.p (ranks_in a.once) = m.ensures.are in
    let drops : Drops 15 (ranks_in m.result) = ranks_drop m.result in
    let at : (k : ℕ) → get_or (ranks_in m.result) k 0 ≡ get_or (leaving a.p (ranks_in a.once)) k 0 = λ k. ap (λ (l : List ℕ). get_or l k 0) others in
    let x : c.top-a.result ≡ get_or (leaving a.p (ranks_in a.once)) 0 0 = c.top-a.ensures.is ∙ at 0 in
    let y : c.top-b.result ≡ get_or (leaving a.p (ranks_in a.once)) 1 0 =
    second_is 15 (ranks_in m.result) drops (ranks_in n.result) _ _ (c.top-a.ensures.is, n.ensures.are) c.top-b.ensures.is ∙ at 1 in
    let z : c.top.result ≡ get_or (leaving a.p (ranks_in a.once)) 2 0 =
    third_is 15 (ranks_in m.result) drops (ranks_in n.result) _ _ (c.top-a.ensures.is, n.ensures.are) (ranks_in o.result) _ (c.top-b.ensures.is, o.ensures.are) c.top.ensures.is ∙ at 2 in
    λ i. record { class = 7; r1 = a.p; r2 = a.p; r3 = x i; r4 = y i; r5 = z i }
