-- `in_span` meets its contract.
use Rattle.paper.proofs.in_span.Goals as goal

pub returns : goal.returns
returns c = cc
