-- `share_out` meets its contract. The invariant: what is written and the shares still to come are those of all.
-- Assumes nothing.
use Prim.Native.Nat.{◌+◌}
use mathlib.Core.Path.{refl, sym, ◌∙◌, ap₂}
use mathlib.Core.List.{◌∷◌}
use borrow.Author.Rules.{rules}
use lib.ListN.{drop, length-set}
use Rattle.pots.specs.Settle.{share_out}
use Rattle.laws.proofs.Places.{front_turn, front_done}
use Rattle.pots.proofs.settle.share_out.Goals as goal

pub loop-i-preserved : goal.loop-i-preserved
unfolding share_out
loop-i-preserved c =
    let l = c.loop-i in
    let a = c.args in (
      length-set l.a l.i c.share.result ∙ l.invariant.0,
      front_turn (share_out a.base l.left) (share_out a.base c.less-left.result) 0 l.a _ a.ws l.i c.share.result (search rules) (search rules)
          (ap₂ (λ k o. k ∷ share_out a.base o (drop (l.i + 1) a.ws)) (sym c.share.ensures) (sym c.less-left.ensures)) l.invariant.1,
    )

pub returns : goal.returns
unfolding share_out
returns c =
    let l = c.loop-i in
    let a = c.args in
    front_done (share_out a.base l.left) l.a _ a.ws l.i (search rules) (search rules) refl l.invariant.1
