-- `line_by_line` meets its contract.
use native.Mathlib.Omega.{arith}
use mathlib.Core.Path.{ap}
use lib.ListN.{length}
use Rattle.blocks.specs.Block.{rest_of}
use Rattle.text.proofs.Lines.{after_lines_no_longer}
use Rattle.blocks.proofs.Fronts.{by_ends}
use Rattle.blocks.proofs.front.line_by_line.Goals as goal

pub overflow_sub-result : goal.overflow_sub-result
unfolding rest_of
overflow_sub-result c =
    let l = c.args.log.now in
    omega (arith, ap length c.rest-left.ensures, after_lines_no_longer 5 l)

pub returns : goal.returns
returns c =
    by_ends c.args.log.now c.read_block.ensures c.rest-left.ensures c.after_lines-fifth.ensures c.line_end.ensures
