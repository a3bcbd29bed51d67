-- `score` meets its contract: a hand that is not live with all its cards entered counts 0.
use mathlib.Core.Path.{sym, ◌∙◌}
use lib.Dec.{eqb}
use borrow.Author.Tests.{eqb-true}
use Rattle.laws.proofs.Tests.{both_true}
use Rattle.table.specs.Settle.{score_of}
use Rattle.table.proofs.settle.score.Goals as goal

pub hand_score-requires : goal.hand_score-requires
hand_score-requires c =
    let a = c.args in
    (c.requires, eqb-true a.c.hole.count a.game (both_true a.c.dealt.live (eqb a.c.hole.count a.game) (sym c.both.ensures ∙ c.if-both.true)).1)

pub returns-then-both : goal.returns-then-both
unfolding score_of
returns-then-both c = rw (sym c.both.ensures ∙ c.if-both.true) c.hand_score.ensures

pub returns : goal.returns
unfolding score_of
returns c = rw (sym c.both.ensures ∙ c.if-both.false)
