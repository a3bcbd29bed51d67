-- `holds_royal` meets its contract: a hand that is not live with all its cards entered holds none. Assumes nothing.
use mathlib.Core.Path.{sym, ◌∙◌}
use lib.Dec.{eqb}
use borrow.Author.Tests.{eqb-true}
use Rattle.laws.proofs.Tests.{both_true}
use Rattle.royal.specs.Royal.{holds_royal}
use Rattle.royal.proofs.holds_royal.Goals as goal

pub royal_in-requires : goal.royal_in-requires
royal_in-requires c =
    let a = c.args in
    (c.requires, eqb-true a.c.hole.count a.game (both_true a.c.dealt.live (eqb a.c.hole.count a.game) (sym c.both.ensures ∙ c.if-both.true)).1)

pub returns-then-both : goal.returns-then-both
unfolding holds_royal
returns-then-both c = rw (sym c.both.ensures ∙ c.if-both.true) c.royal_in.ensures

pub returns : goal.returns
unfolding holds_royal
returns c = rw (sym c.both.ensures ∙ c.if-both.false)
