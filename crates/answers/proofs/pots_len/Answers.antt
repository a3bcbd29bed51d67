-- `pots_len` meets its contract.
use mathlib.Core.Path.{ap}
use lib.ListN.{length, take, get_or, length-append}
use Rattle.pots.specs.declared.Pot.{Pot}
use Rattle.answers.specs.Answer.{joined, pot_bytes}
use Rattle.answers.proofs.Blocks.{joined_more, joined_most, joined_room, pot_most}
use native.Mathlib.Omega.{arith}
use Rattle.answers.proofs.pots_len.Goals as goal

abbrev none : Pot
none = record { amount = 0; who = 0 }

pub overflow_add-at : goal.overflow_add-at
overflow_add-at c =
    let list = c.args.list.now in
    omega (arith, joined_room pot_bytes list none c.loop-p.p-index (omega arith), joined_most pot_bytes 14 pot_most list)

pub loop-p-preserved : goal.loop-p-preserved
loop-p-preserved c =
    let list = c.args.list.now in
    let i = c.loop-p.p-index in
    omega (arith, ap length (joined_more pot_bytes list none i (omega arith)), length-append (joined pot_bytes (take i list)) (pot_bytes (get_or list i none)))
