-- `scores` meets its contract: the first i seats are scored. Assumes nothing.
use borrow.Author.Rules.{rules}
use Prim.Native.Nat.{◌+◌}
use mathlib.Core.Path.{◌≡◌, ap, ◌∙◌, refl, sym}
use mathlib.Core.List.{◌∷◌, map}
use native.Mathlib.Omega.{arith}
use lib.ListN.{length, drop, length-set}
use Rattle.laws.proofs.Places.{front_turn, front_done}
use Rattle.chairs.proofs.Laws.{unread}
use Rattle.table.specs.Settle.{score_of}
use Rattle.table.proofs.settle.scores.Goals as goal

pub loop-i-preserved : goal.loop-i-preserved
loop-i-preserved c =
    let f = score_of c.args.deck c.args.game c.args.b in
    let cs = c.args.cs in
    let i = c.loop-i.i in
    let a = c.loop-i.all in
    let lc : length cs ≡ 10 = search rules in
    let la = c.loop-i.invariant.0 in (
      length-set a i _ ∙ la,
      front_turn (map f) (map f) unread a (map f cs) cs i _ (omega arith) (omega arith) (ap (λ y. y ∷ map f (drop (i + 1) cs)) (sym c.score.ensures)) c.loop-i.invariant.1,
    )

pub returns : goal.returns
returns c =
    let f = score_of c.args.deck c.args.game c.args.b in
    let cs = c.args.cs in
    let lc : length cs ≡ 10 = search rules in
    front_done (map f) c.loop-i.all (map f cs) cs c.loop-i.i (omega arith) (omega arith) refl c.loop-i.invariant.1
