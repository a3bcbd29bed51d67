-- `take_kept` meets its contract: what is gathered is kept, or taken where it is whole. Assumes nothing.
use Prim.Native.Nat.{ℕ, ◌≤◌, ◌<◌}
use mathlib.Core.Path.{sym, subst}
use lib.ListN.{length}
use borrow.Author.Rules.{rules}
use Rattle.book.proofs.keeper.take_kept.Goals as goal

pub shape_of-buf-then-kept-want : goal.shape_of-buf-then-kept-want
shape_of-buf-then-kept-want c = c.buf-1.given

pub returns-then-kept-want : goal.returns-then-kept-want
returns-then-kept-want c = (record { book = c.requires.0.book; room = c.gather-g.ensures.room.0; lines = search rules }, c.gather-g.ensures.room.2 c.requires.2, c.gather-g.ensures.room.1, search rules)

pub take_lines-requires : goal.take_lines-requires
take_lines-requires c = c.requires.0.book

pub shape_of-buf : goal.shape_of-buf
shape_of-buf c = c.buf-1.given

pub shape_of-log : goal.shape_of-log
shape_of-log c = c.log-1.given

pub shape_of-index : goal.shape_of-index
shape_of-index c = c.index-1.given

pub shape_of-out : goal.shape_of-out
shape_of-out c = c.out-1.given

pub returns : goal.returns
returns c = (c.take_lines.ensures.0, subst (λ (n : ℕ). 0 < n) (sym c.take_lines.ensures.1) (c.gather-g.ensures.room.2 c.requires.2), subst (λ (n : ℕ). n ≤ length c.args.part.now) (sym c.take_lines.ensures.1) c.gather-g.ensures.room.1, c.take_lines.ensures.2)
