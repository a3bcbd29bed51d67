-- `chips` meets its contract: what is added so far and the rest are all chips of the seats. Assumes nothing.
use mathlib.Core.Path.{ap}
use native.Mathlib.Omega.{arith}
use lib.ListN.{take, drop_of_length-le}
use Rattle.chairs.specs.Chairs.{chips_of}
use Rattle.chairs.proofs.Above.{chips_seats}
use Rattle.chairs.proofs.seats.chips.Goals as goal

pub returns : goal.returns
returns c =
    let cs = c.args.cs in
    let n = c.args.seats in
    let none = drop_of_length-le (take n cs) {i = c.loop-c.c-index} c.loop-c-test.false in
    omega (arith, ap chips_of none, c.loop-c.invariant.1, chips_seats n cs c.requires.above)
