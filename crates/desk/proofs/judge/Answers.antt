-- `judge` meets its contract.
use Rattle.desk.specs.Desk.{judged_of, judge_block}
use Rattle.desk.proofs.Laws.{block_small}
use mathlib.Core.Path.{ap, ◌∙◌}
use Rattle.blocks.specs.declared.Block.{Block}
use Rattle.desk.proofs.judge.Goals as goal

pub judge_block-requires : goal.judge_block-requires
judge_block-requires c =
    (c.requires, rw c.read_block.ensures (block_small c.args.log.now))

pub returns : goal.returns
unfolding judged_of
returns c =
    (c.judge_block.ensures.0 ∙ ap (λ (b : Block). judge_block c.args.t b) c.read_block.ensures, c.judge_block.ensures.1, c.judge_block.ensures.2, c.judge_block.ensures.3)
