-- `shown_of` meets its contract.
use Rattle.desk.proofs.SamePots.{now_shows}
use Rattle.desk.proofs.shown_of.Goals as goal

pub shown_with-requires : goal.shown_with-requires
shown_with-requires c =
    let h = c.requires in
    (h.0, h.1, h.2, h.3, now_shows c.args.t c.stands_now.ensures)

pub returns : goal.returns
returns c = c.shown_with.ensures
