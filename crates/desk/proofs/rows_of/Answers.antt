-- `rows_of` meets its contract.
use Rattle.desk.proofs.Laws.{rows_turn, rows_done}
use Rattle.desk.specs.Desk.{rows_of}
use borrow.Author.Rules.{rules}
use native.Mathlib.Omega.{arith}
use lib.ListN.{length, length-set}
use mathlib.Core.Path.{◌≡◌, refl}
use Rattle.desk.proofs.rows_of.Goals as goal

pub loop-i-init : goal.loop-i-init
loop-i-init c = (refl, refl)

pub loop-i-preserved : goal.loop-i-preserved
loop-i-preserved c = let ss = c.args.sittings in
    let ps = c.args.paid in
    let ls : length ss ≡ 10 = search rules in
    let lp : length ps ≡ 10 = search rules in
    (simp length-set c.loop-i.invariant.0, rows_turn c.loop-i.rows (rows_of ss ps) ss ps c.loop-i.i (omega arith) (omega arith) (omega arith) c.loop-i.invariant.1)

pub returns : goal.returns
returns c = let ss = c.args.sittings in
    let ps = c.args.paid in
    let ls : length ss ≡ 10 = search rules in
    rows_done c.loop-i.rows (rows_of ss ps) ss ps c.loop-i.i (omega arith) (omega arith) c.loop-i.invariant.1
