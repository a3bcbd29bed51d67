-- `take_block` meets its contract: the book holds behind the block, and nothing is kept. Assumes nothing.
use Rattle.book.proofs.Fronts.{some_lines}
use mathlib.Core.Path.{refl, ◌∙◌}
use borrow.Author.Rules.{rules}
use Rattle.book.proofs.keeper.take_block.Goals as goal

pub shape_of-log : goal.shape_of-log
shape_of-log c = c.log-1.given

pub shape_of-index : goal.shape_of-index
shape_of-index c = c.index-1.given

pub shape_of-out : goal.shape_of-out
shape_of-out c = c.out-2-1.given ∙ c.out-1.given

pub returns : goal.returns
returns c = (record { book = c.answer-a.ensures.held.0; room = c.empty-z.ensures.1; lines = rw c.empty-z.ensures.0 (some_lines c.args.k.opened) }, refl, search rules)
