-- `banked::fates::back_of` meets its contract. Assumes nothing.
use Prim.Native.Nat.{◌≤◌}
use native.Mathlib.Omega.{arith}
use Rattle.banked.proofs.Tables.{times_most}
use Rattle.banked.specs.Books.{back_of}
use Rattle.banked.proofs.fates.Fate.back_of.Goals as goal

pub overflow_mul-result : goal.overflow_mul-result
overflow_mul-result c = let n = c.in-Odds.n in
    let fair : n ≤ 1000 = rw c.in-Odds.is at c.requires.0 in
    omega (arith, times_most n c.args.stake fair)

pub overflow_add-result : goal.overflow_add-result
overflow_add-result c = let n = c.in-Odds.n in
    let fair : n ≤ 1000 = rw c.in-Odds.is at c.requires.0 in
    omega (arith, times_most n c.args.stake fair)

pub overflow_mul-result-in-Times : goal.overflow_mul-result-in-Times
overflow_mul-result-in-Times c = let n = c.in-Times.n in
    let fair : n ≤ 1000 = rw c.in-Times.is at c.requires.0 in
    omega (arith, times_most n c.args.stake fair)

pub returns-in-Lost : goal.returns-in-Lost
unfolding back_of
returns-in-Lost c = record { is = rw c.in-Lost.is; small = omega arith }

pub returns-in-Returned : goal.returns-in-Returned
unfolding back_of
returns-in-Returned c = record { is = rw c.in-Returned.is; small = omega arith }

pub returns-in-Odds : goal.returns-in-Odds
unfolding back_of
returns-in-Odds c = let n = c.in-Odds.n in
    let fair : n ≤ 1000 = rw c.in-Odds.is at c.requires.0 in
    record { is = rw c.in-Odds.is; small = omega (arith, times_most n c.args.stake fair) }

pub returns-in-Times : goal.returns-in-Times
unfolding back_of
returns-in-Times c = let n = c.in-Times.n in
    let fair : n ≤ 1000 = rw c.in-Times.is at c.requires.0 in
    record { is = rw c.in-Times.is; small = omega (arith, times_most n c.args.stake fair) }
