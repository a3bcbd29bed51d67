-- `put_pots` meets its contract.
use Rattle.pots.specs.declared.Pot.{Pot}
use Rattle.answers.specs.Answer.{pot_bytes}
use Rattle.answers.proofs.Blocks.{joined_more, joined_room}
use Rattle.writing.proofs.Sheets.{then}
use native.Mathlib.Omega.{arith}
use Rattle.answers.proofs.put_pots.Goals as goal

abbrev none : Pot
none = record { amount = 0; who = 0 }

pub put_pot-at-requires : goal.put_pot-at-requires
put_pot-at-requires c =
    let i = c.loop-p.p-index in
    (c.requires.0 i (omega arith), omega (arith, joined_room pot_bytes c.args.list.now none i (omega arith)))

pub loop-p-preserved : goal.loop-p-preserved
loop-p-preserved c =
    rw (joined_more pot_bytes c.args.list.now none c.loop-p.p-index (omega arith)) (then c.loop-p.invariant c.put_pot-at.ensures)
