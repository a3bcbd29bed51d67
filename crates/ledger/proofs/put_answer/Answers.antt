-- `put_answer` meets its contract.
use Rattle.desk.proofs.SamePots.{now_shows}
use Rattle.ledger.proofs.put_answer.Goals as goal

pub write_judged-requires : goal.write_judged-requires
write_judged-requires c =
    let h = c.requires in
    (h.0, h.2, h.1, h.3, now_shows _ c.stands_now.ensures)
