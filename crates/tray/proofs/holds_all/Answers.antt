-- `holds_all` meets its contract. The invariant: each row below i holds what is taken from it.
-- Assumes nothing.
use Rattle.std.proofs.Common.{◌≡◌, ℕ, leb, length, get_or, sym, ap, ◌∙◌, rules, arith}
use mathlib.Core.Path.{ap₂}
use borrow.Author.Tests.{lt-leb}
use Rattle.tray.specs.Counting.{all_to}
use Rattle.tray.specs.Proposal.{taken_from, holds_all}
use Rattle.tray.proofs.Sums.{all_fails}
use Rattle.tray.proofs.holds_all.Goals as goal

pub returns-then-from-taken_from : goal.returns-then-from-taken_from
unfolding holds_all
returns-then-from-taken_from c =
    let k = c.args.counts.now in
    let f = λ (j : ℕ). leb (taken_from (length k) c.args.sittings c.args.p.now j) (get_or k j 0) in
    all_fails (length k) f c.loop-i.i (search rules)
    (sym (ap₂ leb c.taken_from.ensures c.from.ensures) ∙ lt-leb _ _ c.if-from-taken_from.true)

pub returns : goal.returns
unfolding holds_all
returns c =
    let k = c.args.counts.now in
    let f = λ (j : ℕ). leb (taken_from (length k) c.args.sittings c.args.p.now j) (get_or k j 0) in
    let e : c.loop-i.i ≡ length k = omega arith in
    sym (ap (λ n. all_to n f) (sym e) ∙ c.loop-i.invariant)
