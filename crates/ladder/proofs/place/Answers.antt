-- `ladder::place` meets its contract. Assumes nothing.
use native.Mathlib.Omega.{arith}
use Rattle.ladder.proofs.Reckons.{place_is, no_place}
use Rattle.ladder.specs.Reckoned.{reckoned_as}
use Rattle.ladder.proofs.place.Goals as goal

pub returns-in-0 : goal.returns-in-0
unfolding reckoned_as
returns-in-0 c = place_is 0 c.args.h _ c.in-0.is c.row_place.ensures

pub returns-in-1 : goal.returns-in-1
unfolding reckoned_as
returns-in-1 c = place_is 1 c.args.h _ c.in-1.is c.four_place.ensures

pub returns-in-2 : goal.returns-in-2
unfolding reckoned_as
returns-in-2 c = place_is 2 c.args.h _ c.in-2.is c.full_place.ensures

pub returns-in-3 : goal.returns-in-3
unfolding reckoned_as
returns-in-3 c = place_is 3 c.args.h _ c.in-3.is c.odd_place.ensures

pub returns-in-4 : goal.returns-in-4
unfolding reckoned_as
returns-in-4 c = place_is 4 c.args.h _ c.in-4.is c.row_place-in-4.ensures

pub returns-in-5 : goal.returns-in-5
unfolding reckoned_as
returns-in-5 c = place_is 5 c.args.h _ c.in-5.is c.three_place.ensures

pub returns-in-6 : goal.returns-in-6
unfolding reckoned_as
returns-in-6 c = place_is 6 c.args.h _ c.in-6.is c.two_pair_place.ensures

pub returns-in-7 : goal.returns-in-7
unfolding reckoned_as
returns-in-7 c = place_is 7 c.args.h _ c.in-7.is c.pair_place.ensures

pub returns-in-8 : goal.returns-in-8
unfolding reckoned_as
returns-in-8 c = place_is 8 c.args.h _ c.in-8.is c.odd_place-in-8.ensures

pub returns-in_default : goal.returns-in_default
returns-in_default c = no_place c.args.h (omega arith)
