-- `end_block` meets its contract: the book holds behind a block that is not whole, and where there is none. Assumes nothing.
use Rattle.book.proofs.end_block.Goals as goal

pub returns-then-e-eq0 : goal.returns-then-e-eq0
returns-then-e-eq0 c = c.requires.0.book

pub take_lines-k-requires : goal.take_lines-k-requires
take_lines-k-requires c = c.requires.0.book

pub shape_of-log : goal.shape_of-log
shape_of-log c = c.log-1.given

pub shape_of-index : goal.shape_of-index
shape_of-index c = c.index-1.given

pub returns : goal.returns
returns c = c.take_lines-k.ensures.0.book
