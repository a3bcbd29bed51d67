-- `banked::hands::card_twice` meets its contract. Assumes nothing.
use Rattle.banked.proofs.Deal.card_twice.Goals as goal

pub returns : goal.returns
returns c = rw c.all_cards.ensures at c.any_twice.ensures
