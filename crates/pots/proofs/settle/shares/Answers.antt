-- `shares` meets its contract.
-- Assumes nothing.
use Prim.Native.Nat.{◌-◌, ◌%◌, ◌/◌}
use mathlib.Core.Path.{ap, ◌∙◌, ap₂}
use native.Mathlib.Nat.{le_trans, div-le_self}
use Rattle.pots.specs.Settle.{turned, share_out, shares_of}
use Rattle.pots.proofs.settle.shares.Goals as goal

pub share_out-requires : goal.share_out-requires
share_out-requires c = le_trans (div-le_self _ _) c.requires.0

pub returns : goal.returns
unfolding shares_of
returns c =
    let a = c.args in
    let n = c.count-n.ensures in
    let f = c.turn-flags.ensures ∙ ap (turned a.puck) c.live_totals.ensures in
    c.turn.ensures
    ∙ ap (turned (10 - a.puck)) (c.share_out.ensures ∙ ap₂ (λ k ws. share_out (a.amount / k) (a.amount % k) ws) n f)
