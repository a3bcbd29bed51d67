-- `live_totals` meets its contract. The invariant: what is written and the live totals still to come are those of all.
-- Assumes nothing.
use Prim.Native.Nat.{◌+◌, ◌/◌}
use mathlib.Core.Path.{refl, sym, ap, ◌∙◌}
use mathlib.Core.List.{◌∷◌}
use borrow.Author.Rules.{rules}
use lib.ListN.{drop, length-set}
use Rattle.laws.proofs.Places.{front_turn, front_done}
use Rattle.pots.specs.Heights.{live_of}
use Rattle.pots.proofs.live_totals.Goals as goal

pub loop-i-preserved : goal.loop-i-preserved
unfolding live_of
loop-i-preserved c =
    let l = c.loop-i in
    let ts = c.args.totals in (
      length-set l.a l.i c.if_live.result ∙ l.invariant.0,
      front_turn (λ k. live_of k l.rest) (λ k. live_of k (l.rest / 2)) 0 l.a _ ts l.i c.if_live.result (search rules) (search rules)
          (ap (λ k. k ∷ live_of (drop (l.i + 1) ts) (l.rest / 2)) (sym c.if_live.ensures)) l.invariant.1,
    )

pub returns : goal.returns
unfolding live_of
returns c =
    let l = c.loop-i in
    front_done (λ k. live_of k l.rest) l.a _ c.args.totals l.i (search rules) (search rules) refl l.invariant.1
