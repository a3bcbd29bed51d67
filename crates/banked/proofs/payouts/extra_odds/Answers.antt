-- `banked::payouts::extra_odds` meets its contract. Assumes nothing.
use mathlib.Core.Path.{◌≡◌, sym, ◌∙◌}
use native.Mathlib.Omega.{arith}
use lib.ListN.{get_or}
use borrow.Author.Rules.{rules}
use Rattle.banked.specs.Hands.{is_royal}
use Rattle.banked.specs.Payouts.{extra_column, extra_odds}
use Rattle.banked.proofs.Tables.{extra_most}
use Rattle.banked.proofs.payouts.extra_odds.Goals as goal

pub returns-then-both : goal.returns-then-both
unfolding extra_odds is_royal
returns-then-both c = (rw (sym c.both.ensures ∙ c.if-both.true), omega arith)

pub returns : goal.returns
unfolding extra_odds is_royal
returns c =
    let e : c.unwrap_or.result ≡ get_or extra_column c.args.h.class 0 = search rules in
    (rw (sym c.both.ensures ∙ c.if-both.false) e, rw e (extra_most c.args.h.class))
