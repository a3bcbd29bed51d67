-- `tell` meets its contract: what is due is no more than what was put in, so it can be paid.
-- Assumes nothing.
use Rattle.pots.proofs.Hands.{none_lost}
use Rattle.pots.specs.Hand.{paid_of, unclaimed_of}
use Rattle.laws.specs.Lists.{sum_of}
use lib.ListN.{length}
use native.Mathlib.Omega.{arith}
use mathlib.Core.Path.{◌≡◌, sym, ap, ◌∙◌}
use borrow.Author.Rules.{rules}
use Rattle.try_pots.proofs.lines.tell.Goals as goal

pub pay_out-o-requires : goal.pay_out-o-requires
pay_out-o-requires c = let h = c.args.h in let p = c.requires in let n : length h.scores ≡ 10 = search rules in let m : length h.totals ≡ 10 = search rules in omega (arith, ap sum_of c.settle_hand-s.ensures.1, none_lost h.totals h.live h.scores h.rule h.puck (n ∙ sym m) (omega (arith, p.rate)), p.totals)

pub returns : goal.returns
returns c = let h = c.args.h in let a = c.stand-put.ensures in let s = c.settle_hand-s.ensures in let o = c.pay_out-o.ensures in record { n = a.0; few = a.2; list = a.1; back = a.3; fee = s.0; drop = s.2; due = s.1; paid = o.0 ∙ ap (λ k. paid_of k h.here) s.1; unclaimed = o.1 ∙ ap (λ k. unclaimed_of k h.here) s.1 }
