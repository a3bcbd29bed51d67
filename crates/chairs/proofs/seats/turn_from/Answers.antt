-- `turn_from` meets its contract. Assumes nothing.
use borrow.Author.Rules.{rules}
use mathlib.Core.Path.{refl, ◌∙◌}
use native.Mathlib.Omega.{arith}
use lib.Dec.{leb}
use Rattle.chairs.specs.Chairs.{want_of}
use Rattle.chairs.specs.Who.{Live, LiveWithChips, Owing}
use Rattle.chairs.proofs.Above.{count_seats}
use Rattle.chairs.proofs.Turn.{turn_few, turn_many}
use Rattle.chairs.proofs.seats.turn_from.Goals as goal

pub returns-then-count-lt2 : goal.returns-then-count-lt2
returns-then-count-lt2 c =
    let a = c.args in
    let p = want_of Live in
    turn_few a.cs.now a.seats a.mark a.s c.count.result (c.count.ensures p (λ d r f. search rules) ∙ count_seats p refl _ a.cs.now c.requires.0.above) (omega arith)

pub returns : goal.returns
returns c =
    let a = c.args in
    let h = c.requires.0.above in
    let p = want_of Live in
    let q = want_of LiveWithChips in
    let w = want_of (Owing a.mark (leb c.count-2.result 1)) in
    turn_many a.cs.now a.seats a.mark a.s c.count.result (c.count.ensures p (λ d r f. search rules) ∙ count_seats p refl _ a.cs.now h) c.count-2.result
    (c.count-2.ensures q (λ d r f. search rules) ∙ count_seats q refl _ a.cs.now h) _ (omega arith) (c.first_from.ensures w (λ d r f. search rules))
