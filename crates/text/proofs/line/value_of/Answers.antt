-- `value_of` meets its contract.
use Rattle.text.proofs.Lines.{line_within, value_part}
use native.Mathlib.Omega.{arith}
use Rattle.text.proofs.line.value_of.Goals as goal

pub value_start-v-requires : goal.value_start-v-requires
value_start-v-requires c = omega (arith, line_within c.args.log.now)

pub slice_bounds-result-end : goal.slice_bounds-result-end
slice_bounds-result-end c = omega (arith, line_within c.args.log.now)

pub returns : goal.returns
returns c = value_part c.args.key.now c.args.log.now c.value_start-v.result c.args.e c.value_start-v.ensures.0 (omega arith)
