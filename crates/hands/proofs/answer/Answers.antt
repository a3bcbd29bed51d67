-- `hands::answer` meets its contract. Assumes nothing.
use Rattle.hands.proofs.Ended.{answer_is}
use native.Mathlib.Omega.{arith}
use Rattle.hands.proofs.answer.Goals as goal

pub slice_bounds-read_by-end : goal.slice_bounds-read_by-end
slice_bounds-read_by-end c = omega (arith, c.end_word-ended.ensures.held c.requires.0)

pub returns : goal.returns
returns c = record { wrote = answer_is _ _ _ _ c.end_word-ended.result _ _ c.read_by.result c.end_word-ended.ensures.is.0 c.end_word-ended.ensures.is.1 c.read_by.ensures c.put_reading-end.ensures.wrote c.put.ensures.wrote; room = omega (arith, c.put_reading-end.ensures.room, c.put.ensures.room) }
