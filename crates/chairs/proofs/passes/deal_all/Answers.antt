-- `deal_all` meets its contract: the sweep of the seats, and then two chairs are put down. Assumes nothing.
use borrow.Author.Rules.{rules}
use Prim.Native.Nat.{◌-◌}
use mathlib.Core.Path.{refl, ap, ◌∙◌}
use mathlib.Core.List.{List, ◌++◌}
use lib.ListN.{set, drop}
use Rattle.chairs.specs.Chairs.{sweep_of}
use Rattle.chairs.specs.Sweep.{Deal}
use Rattle.chairs.specs.declared.Chair.{Chair}
use Rattle.chairs.proofs.Laws.{put_two}
use Rattle.chairs.proofs.Above.{above_sweep}
use Rattle.chairs.proofs.passes.deal_all.Goals as goal

pub returns : goal.returns
returns c =
    let x = c.args.x in
    let cs = c.args.cs in
    let h = c.requires in
    let n = c.args.seats in
    let e = ap (λ (l : List Chair). l ++ drop n cs) (c.sweep.ensures (sweep_of Deal) (λ d r f. search rules)) ∙ above_sweep (sweep_of Deal) refl n cs h.0.above in
    ap (λ (k : List Chair). set (set k (x.seat - 1) x.chair) (x.other - 1) x.second) e ∙ put_two _ x.seat x.other x.chair x.second h.1 h.3
