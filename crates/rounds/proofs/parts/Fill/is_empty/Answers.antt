-- `rounds::parts::Fill::is_empty` meets its contract.
use Rattle.rounds.proofs.parts.Fill.is_empty.Goals as goal

pub returns : goal.returns
returns c = cc
