-- `least_in` meets its contract.
use Rattle.paper.proofs.least_in.Goals as goal

pub returns-then-span : goal.returns-then-span
returns-then-span c = rw c.if-span.true c.least_card.ensures
