-- `board_by` meets its contract.
use Rattle.table.proofs.dealing.board_by.Goals as goal

pub card_added-requires : goal.card_added-requires
card_added-requires c = (c.requires.0 c.if-ok.true, c.requires.1)

pub returns-then-ok : goal.returns-then-ok
returns-then-ok c = rw c.if-ok.true c.card_added.ensures
