-- `put_block` meets its contract: each line is written behind the ones before it.
use native.Mathlib.Omega.{arith}
use Rattle.writing.proofs.Sheets.{then}
use Rattle.logs.specs.LogText.{block_text}
use Rattle.logs.proofs.KindRows.{block_parts}
use Rattle.logs.proofs.entry.put_block.Goals as goal

pub write_number_line-a-requires : goal.write_number_line-a-requires
write_number_line-a-requires c = (c.requires.0.count, omega (arith, block_parts c.args.n c.args.x))

pub slice_bounds-put_kind-count : goal.slice_bounds-put_kind-count
slice_bounds-put_kind-count c = omega (arith, block_parts c.args.n c.args.x)

pub slice_bounds-put_kind-start : goal.slice_bounds-put_kind-start
slice_bounds-put_kind-start c = omega (arith, block_parts c.args.n c.args.x)

pub put_kind-requires : goal.put_kind-requires
put_kind-requires c = (c.requires.0.kind, omega (arith, block_parts c.args.n c.args.x))

pub overflow_add-b : goal.overflow_add-b
overflow_add-b c = omega (arith, block_parts c.args.n c.args.x)

pub slice_bounds-write_number_line-count : goal.slice_bounds-write_number_line-count
slice_bounds-write_number_line-count c = omega (arith, block_parts c.args.n c.args.x)

pub slice_bounds-write_number_line-start : goal.slice_bounds-write_number_line-start
slice_bounds-write_number_line-start c = omega (arith, block_parts c.args.n c.args.x)

pub write_number_line-requires : goal.write_number_line-requires
write_number_line-requires c = (c.requires.0.seat, omega (arith, block_parts c.args.n c.args.x))

pub overflow_add-c : goal.overflow_add-c
overflow_add-c c = omega (arith, block_parts c.args.n c.args.x)

pub slice_bounds-write_number_line-count-2 : goal.slice_bounds-write_number_line-count-2
slice_bounds-write_number_line-count-2 c = omega (arith, block_parts c.args.n c.args.x)

pub slice_bounds-write_number_line-start-2 : goal.slice_bounds-write_number_line-start-2
slice_bounds-write_number_line-start-2 c = omega (arith, block_parts c.args.n c.args.x)

pub write_number_line-requires-2 : goal.write_number_line-requires-2
write_number_line-requires-2 c = (c.requires.0.a, omega (arith, block_parts c.args.n c.args.x))

pub overflow_add-d : goal.overflow_add-d
overflow_add-d c = omega (arith, block_parts c.args.n c.args.x)

pub slice_bounds-write_number_line-count-3 : goal.slice_bounds-write_number_line-count-3
slice_bounds-write_number_line-count-3 c = omega (arith, block_parts c.args.n c.args.x)

pub slice_bounds-write_number_line-start-3 : goal.slice_bounds-write_number_line-start-3
slice_bounds-write_number_line-start-3 c = omega (arith, block_parts c.args.n c.args.x)

pub write_number_line-requires-3 : goal.write_number_line-requires-3
write_number_line-requires-3 c = (c.requires.0.b, omega (arith, block_parts c.args.n c.args.x))

pub overflow_add-result : goal.overflow_add-result
overflow_add-result c = omega (arith, block_parts c.args.n c.args.x)

pub returns : goal.returns
unfolding block_text
returns c = then (then (then (then c.write_number_line-a.ensures c.put_kind.ensures) c.write_number_line.ensures) c.write_number_line-2.ensures) c.write_number_line-3.ensures
