-- `block_len` meets its contract: the five lines' lengths.
use mathlib.Core.Path.{refl}
use native.Mathlib.Omega.{arith}
use Rattle.text.proofs.Numbers.{count_most}
use Rattle.logs.proofs.KindRows.{kind_row, block_said}
use Rattle.logs.proofs.entry.block_len.Goals as goal

pub overflow_add-result : goal.overflow_add-result
overflow_add-result c = omega (arith, (kind_row c.args.x.kind c.requires.kind).3, count_most c.args.n, count_most c.args.x.seat, count_most c.args.x.a, count_most c.args.x.b)

pub overflow_add-result-2 : goal.overflow_add-result-2
overflow_add-result-2 c = omega (arith, (kind_row c.args.x.kind c.requires.kind).3, count_most c.args.n, count_most c.args.x.seat, count_most c.args.x.a, count_most c.args.x.b)

pub overflow_add-result-3 : goal.overflow_add-result-3
overflow_add-result-3 c = omega (arith, (kind_row c.args.x.kind c.requires.kind).3, count_most c.args.n, count_most c.args.x.seat, count_most c.args.x.a, count_most c.args.x.b)

pub overflow_add-result-4 : goal.overflow_add-result-4
overflow_add-result-4 c = omega (arith, (kind_row c.args.x.kind c.requires.kind).3, count_most c.args.n, count_most c.args.x.seat, count_most c.args.x.a, count_most c.args.x.b)

pub overflow_add-result-5 : goal.overflow_add-result-5
overflow_add-result-5 c = omega (arith, (kind_row c.args.x.kind c.requires.kind).3, count_most c.args.n, count_most c.args.x.seat, count_most c.args.x.a, count_most c.args.x.b)

pub returns : goal.returns
returns c = block_said c.args.n c.args.x c.requires.kind c.digit_count.ensures c.digit_count-2.ensures c.digit_count-3.ensures c.digit_count-4.ensures refl
