-- `grouped` meets its contract: its eleven columns are the definition's.
use Rattle.figures.specs.Grouped.{grouped_of}
use Rattle.figures.proofs.grouped.grouped.Goals as goal

pub returns : goal.returns
unfolding grouped_of
returns c = cc
