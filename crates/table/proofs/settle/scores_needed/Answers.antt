-- `table::settle::scores_needed` meets its contract.
-- Assumes nothing.
use mathlib.Core.Path.{sym, ap, ◌∙◌}
use mathlib.Core.Bool.{Bool}
use mathlib.Core.List.{map}
use lib.ListN.{replicate}
use Rattle.laws.specs.Tests.{pick}
use Rattle.table.specs.Settle.{score_of}
use Rattle.table.proofs.settle.scores_needed.Goals as goal

pub returns-then-sole : goal.returns-then-sole
returns-then-sole c =
    let a = c.args in
    sym (ap (λ (b : Bool). pick b (replicate 10 0) (map (score_of a.deck a.game a.b) a.cs)) (sym c.sole.ensures ∙ c.if-sole.true))

pub returns : goal.returns
returns c =
    let a = c.args in
    c.scores.ensures
    ∙ sym (ap (λ (b : Bool). pick b (replicate 10 0) (map (score_of a.deck a.game a.b) a.cs)) (sym c.sole.ensures ∙ c.if-sole.false))
