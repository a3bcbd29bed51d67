-- `answer` meets its contract: the block is read, and answered.
use mathlib.Core.Path.{ap, ◌∙◌}
use mathlib.Core.List.{List}
use Prim.Native.Nat.{ℕ}
use Rattle.writing.specs.AnswerSheet.{sheet_after}
use Rattle.desk.proofs.Laws.{block_small, read_answered}
use Rattle.desk.proofs.answer.Goals as goal

pub answer_block-requires : goal.answer_block-requires
answer_block-requires c = (c.requires, rw c.read_block.ensures (block_small c.args.log.now))

pub returns : goal.returns
returns c =
    let s = c in
    let a = read_answered s.args.table s.args.log.now s.args.sheet.now c.read_block.ensures in
    let w = c.answer_block.ensures in
    record { answer = w.answer ∙ a.0; bytes = w.bytes ∙ ap (λ (x : List ℕ). sheet_after x s.args.sheet.now) a.1; sound = w.sound }
