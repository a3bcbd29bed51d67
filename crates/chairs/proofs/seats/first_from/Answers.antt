-- `first_from` meets its contract: none of the first k seats clockwise is as asked, so that the first among those behind them is the first of all.
use borrow.Author.Rules.{rules}
use Prim.Native.Nat.{◌≤◌}
use mathlib.Core.Bool.{true, false}
use mathlib.Core.Path.{◌≡◌, refl, sym, ap, ◌∙◌}
use native.Mathlib.Omega.{arith}
use lib.ListN.{length, get_or, drop_of_length-le}
use Rattle.chairs.specs.Chairs.{no_chair, first_of, clockwise}
use Rattle.chairs.proofs.Laws.{unread, read_any}
use Rattle.chairs.proofs.Clockwise.{clock_length, first_turn}
use Rattle.chairs.proofs.seats.first_from.Goals as goal

pub loop-k-init : goal.loop-k-init
loop-k-init g c p h = refl

pub returns-then-asked : goal.returns-then-asked
returns-then-asked g c p h =
    let cs = c.args.cs.now in
    let i = c.place_on-i.result in
    let len : length cs ≡ 10 = search rules in
    let said = h (get_or cs i unread) c.asked.result (record { shown = _; shows = refl; says = record { met = c.asked.ensures } }) in
    let e = ap p (read_any cs i no_chair unread (omega arith)) ∙ sym said ∙ c.if-asked.true in
    omega (arith, c.loop-k.invariant p h, first_turn p cs c.args.seats c.args.s c.loop-k.k _ true (omega arith) (omega arith) c.place_on-i.ensures.0 e)

pub loop-k-preserved : goal.loop-k-preserved
loop-k-preserved g c p h =
    let cs = c.args.cs.now in
    let i = c.place_on-i.result in
    let len : length cs ≡ 10 = search rules in
    let said = h (get_or cs i unread) c.asked.result (record { shown = _; shows = refl; says = record { met = c.asked.ensures } }) in
    let e = ap p (read_any cs i no_chair unread (omega arith)) ∙ sym said ∙ c.if-asked.false in
    sym (first_turn p cs c.args.seats c.args.s c.loop-k.k _ false (omega arith) (omega arith) c.place_on-i.ensures.0 e) ∙ c.loop-k.invariant p h

pub returns : goal.returns
returns g c p h =
    let n = c.args.seats in
    let s = c.args.s in
    let l : s ≤ n = omega arith in
    let none = drop_of_length-le (clockwise n s) {i = c.loop-k.k} (omega (arith, clock_length n s l)) in
    sym (ap (first_of p c.args.cs.now) none) ∙ c.loop-k.invariant p h
