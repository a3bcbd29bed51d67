-- Three of a rank and the two highest others.
use mathlib.Core.Path.{◌≡◌, ap, ◌∙◌}
use mathlib.Core.List.{List}
use Prim.Native.Nat.{ℕ}
use lib.ListN.{get_or}
use Rattle.counts.specs.HandOrder.{leaving}
use Rattle.counts.specs.Kept.{ranks_in}
use Rattle.laws.proofs.Choosing.{Drops}
use Rattle.counts.proofs.Masked.{ranks_drop}
use Rattle.counts.proofs.Firsts.{second_is}
use Rattle.counts.proofs.naming.three_hand.Goals as goal

pub returns : goal.returns
returns c =
    let a = c.args in
    let m = c.less-m in
    let n = c.less in
    let others : ranks_in m.result ≡ leaving a.t (ranks_in a.once) = m.ensures.are in
    let drops : Drops 15 (ranks_in m.result) = ranks_drop m.result in
    let x : c.top-a.result ≡ get_or (leaving a.t (ranks_in a.once)) 0 0 = c.top-a.ensures.is ∙ ap (λ (l : List ℕ). get_or l 0 0) others in
    let y : c.top.result ≡ get_or (leaving a.t (ranks_in a.once)) 1 0 =
    second_is 15 (ranks_in m.result) drops (ranks_in n.result) _ _ (c.top-a.ensures.is, n.ensures.are) c.top.ensures.is ∙ ap (λ (l : List ℕ). get_or l 1 0) others in
    λ i. record { class = 5; r1 = a.t; r2 = a.t; r3 = a.t; r4 = x i; r5 = y i }
