-- `take_one` meets its contract: a whole block where it lies, or by way of the buffer. Assumes nothing.
use Rattle.book.proofs.Fronts.{front_used}
use Rattle.blocks.specs.declared.front.Front.{Front}
use Prim.Native.Nat.{ℕ, ◌≤◌, ◌<◌}
use mathlib.Core.Path.{sym, subst, ap}
use lib.ListN.{length}
use Rattle.book.proofs.keeper.take_one.Goals as goal

pub take_block-requires : goal.take_block-requires
take_block-requires c = (c.requires.0.book, ap (λ (x : Front). x.block) c.read_front-f.ensures)

pub shape_of-log-then-f : goal.shape_of-log-then-f
shape_of-log-then-f c = c.log-1.given

pub shape_of-index-then-f : goal.shape_of-index-then-f
shape_of-index-then-f c = c.index-1.given

pub shape_of-out-then-f : goal.shape_of-out-then-f
shape_of-out-then-f c = c.out-1.given

pub returns-then-f : goal.returns-then-f
returns-then-f c = (c.take_block.ensures.0, subst (λ (n : ℕ). 0 < n) (sym c.take_block.ensures.1) ((front_used _ c.read_front-f.ensures).1 c.requires.2), subst (λ (n : ℕ). n ≤ length c.args.part.now) (sym c.take_block.ensures.1) (front_used _ c.read_front-f.ensures).0, c.take_block.ensures.2)

pub take_kept-requires : goal.take_kept-requires
take_kept-requires c = c.requires

pub shape_of-buf : goal.shape_of-buf
shape_of-buf c = c.buf-1.given

pub shape_of-log : goal.shape_of-log
shape_of-log c = c.log-2-1.given

pub shape_of-index : goal.shape_of-index
shape_of-index c = c.index-2-1.given

pub shape_of-out : goal.shape_of-out
shape_of-out c = c.out-2-1.given

pub returns : goal.returns
returns c = c.take_kept.ensures
