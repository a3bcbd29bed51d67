-- `banked::judged::stakes_of` meets its contract. Assumes nothing.
use Prim.Native.Nat.{◌≤◌, zero-le}
use Rattle.banked.proofs.Codes.{pick_most}
use Rattle.banked.specs.Rounds.{stakes_of}
use native.Mathlib.Omega.{arith}
use Rattle.banked.proofs.judged.stakes_of.Goals as goal

pub returns-in-Fold : goal.returns-in-Fold
unfolding stakes_of
returns-in-Fold c = (rw c.in-Fold.is, record { ante = c.requires.ante; flop = omega arith; turn = omega arith; river = omega arith; jackpot = c.requires.jackpot; extra = c.requires.extra; dealer = c.requires.dealer })

pub returns-in-Stay : goal.returns-in-Stay
unfolding stakes_of
returns-in-Stay c = let a = c.requires.ante in
    let t : c.chosen.result ≤ 100000 = rw c.chosen.ensures (pick_most c.in-Stay.turn _ 0 _ a zero-le) in
    let v : c.chosen-in-Stay.result ≤ 100000 = rw c.chosen-in-Stay.ensures (pick_most c.in-Stay.river _ 0 _ a zero-le) in
    (rw (c.in-Stay.is, c.chosen.ensures, c.chosen-in-Stay.ensures), record { ante = a; flop = omega (arith, a); turn = t; river = v; jackpot = c.requires.jackpot; extra = c.requires.extra; dealer = c.requires.dealer })
