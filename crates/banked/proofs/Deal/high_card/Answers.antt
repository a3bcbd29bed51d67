-- `banked::hands::high_card` meets its contract. Assumes nothing.
use Rattle.banked.proofs.Deal.high_card.Goals as goal

pub returns : goal.returns
returns c = rw c.all_cards.ensures at c.any_above.ensures
