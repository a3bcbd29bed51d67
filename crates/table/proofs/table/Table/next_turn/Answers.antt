-- `Table::next_turn` meets its contract.
use Rattle.table.proofs.Acts.{owing_is}
use Rattle.table.specs.State.{with_chairs, with_mark}
use Rattle.table.specs.Betting.{live_hands, only_with_chips}
use mathlib.Core.Path.{◌∙◌}
use Rattle.table.proofs.table.Table.next_turn.Goals as goal

pub returns-then-ok : goal.returns-then-ok
unfolding live_hands only_with_chips
returns-then-ok c = let t = c.args.self in
    let u = with_mark (with_chairs t c.args.cs.now) c.args.mark t.play.lift in
    rw c.if-ok.true (c.turn_from.ensures ∙ owing_is u c.args.s)

pub returns-else-ok : goal.returns-else-ok
returns-else-ok c = rw c.if-ok.false
