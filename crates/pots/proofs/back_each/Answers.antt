-- `back_each` meets its contract: each total less the top. The invariant: what is written and what is still to come are that of all.
-- Assumes nothing.
use Prim.Native.Nat.{◌+◌, ◌-◌}
use mathlib.Core.Path.{refl, sym, ap, ◌∙◌}
use mathlib.Core.List.{◌∷◌, map}
use borrow.Author.Rules.{rules}
use lib.ListN.{drop, length-set}
use Rattle.pots.specs.Heights.{returned_of}
use Rattle.pots.proofs.Filled.{top_is}
use Rattle.laws.proofs.Places.{front_turn, front_done}
use Rattle.laws.proofs.Sums.{map_same}
use Rattle.pots.proofs.Returns.{returned_is}
use Rattle.pots.proofs.back_each.Goals as goal

pub loop-i-preserved : goal.loop-i-preserved
loop-i-preserved c =
    let l = c.loop-i in
    let ts = c.args.totals in
    let top = c.top_of-top.result in (
      length-set l.a l.i c.saturating_sub.result ∙ l.invariant.0,
      front_turn (map (λ t. t - top)) (map (λ t. t - top)) 0 l.a _ ts l.i c.saturating_sub.result (search rules) (search rules)
          (ap (λ k. k ∷ map (λ t. t - top) (drop (l.i + 1) ts)) (sym c.saturating_sub.ensures)) l.invariant.1,
    )

pub returns : goal.returns
returns c =
    let l = c.loop-i in
    let ts = c.args.totals in
    let v = c.args.live in
    let top = c.top_of-top.result in
    let e = top_is ts c.live_totals.result v top c.live_totals.ensures c.top_of-top.ensures in
    front_done (map (λ t. t - top)) l.a _ ts l.i (search rules) (search rules) refl l.invariant.1
    ∙ map_same (λ t. t - top) (returned_of ts v) ts (λ t. ap (λ k. t - k) e ∙ sym (returned_is ts v t))
