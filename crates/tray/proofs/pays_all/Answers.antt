-- `pays_all` meets its contract. The invariant: each sitting below s is paid exactly.
-- Assumes nothing.
use Rattle.std.proofs.Common.{◌≡◌, ℕ, eqb, length, get_or, sym, ap, ◌∙◌, rules, arith}
use mathlib.Core.Path.{ap₂}
use borrow.Author.Tests.{ne_eqb}
use Rattle.tray.specs.Counting.{all_to}
use Rattle.tray.specs.Proposal.{worth_given, pays_all}
use Rattle.tray.proofs.Sums.{all_fails}
use Rattle.tray.proofs.pays_all.Goals as goal

pub returns-then-worth_given-from : goal.returns-then-worth_given-from
unfolding pays_all
returns-then-worth_given-from c =
    let a = c.args.paid.now in
    let f = λ (j : ℕ). eqb (worth_given c.args.worths.now c.args.p.now j) (get_or a j 0) in
    all_fails (length a) f c.loop-s.s (search rules)
    (sym (ap₂ eqb c.worth_given.ensures c.from.ensures) ∙ ne_eqb _ _ (λ e. omega (arith, e, c.if-worth_given-from.true)))

pub returns : goal.returns
unfolding pays_all
returns c =
    let a = c.args.paid.now in
    let f = λ (j : ℕ). eqb (worth_given c.args.worths.now c.args.p.now j) (get_or a j 0) in
    let e : c.loop-s.s ≡ length a = omega arith in
    sym (ap (λ n. all_to n f) (sym e) ∙ c.loop-s.invariant)
