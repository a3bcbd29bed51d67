-- `rounds::reading::read_numbers` meets its contract. Assumes nothing.
use mathlib.Core.Path.{◌≡◌, ap}
use native.Mathlib.Omega.{arith}
use lib.ListN.{drop}
use borrow.Author.Rules.{rules}
use Rattle.std.specs.Prelude.{None}
use Rattle.text.specs.TableSheet.{value_in}
use Rattle.rounds.specs.RoundText.{good_form, numbers_of}
use Rattle.rounds.proofs.Blocks.{good_turn, bad_turn, value_turn, used_turn, good_done, value_done, used_done}
use Rattle.rounds.proofs.reading.read_numbers.Goals as goal

pub returns-in_err-line : goal.returns-in_err-line
unfolding good_form
returns-in_err-line c =
    let l = c.loop-k in
    let none : c.from_residual.result ≡ None = search rules in
    rw none (bad_turn l.k (drop l.used c.args.block.now) c.loop-k-test.true l.invariant.2 c.in_err-line.ensures.is)

pub loop-k-preserved : goal.loop-k-preserved
loop-k-preserved c =
    let l = c.loop-k in
    let i = l.invariant in
    let log = drop l.used c.args.block.now in
    let said = c.in_ok-line.ensures in
    let h = c.loop-k-test.true in (
      search rules,
      said.next.1,
      good_turn l.k log _ h said.next.0 i.2 said.is,
      value_turn l.k log _ h said.next.0 l.numbers (omega (arith, i.0, h)) i.3 (ap value_in said.is),
      used_turn l.k log _ h said.next.0 i.4,
    )

pub returns : goal.returns
unfolding good_form numbers_of
returns c =
    let l = c.loop-k in
    let i = l.invariant in
    let e : l.k ≡ 16 = omega arith in
    (good_done l.k _ e i.2, value_done l.k _ l.numbers e i.0 i.3, used_done l.k _ e i.4, i.1)
