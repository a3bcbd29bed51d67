-- `last_lines` meets its contract.
use native.Mathlib.Omega.{arith}
use Rattle.couple.specs.Couple.{pool_key, house_key}
use Rattle.writing.proofs.Sheets.{then}
use Rattle.couple.proofs.Tables.{line_most, last_both, last_shut, last_one}
use Rattle.couple.proofs.last_lines.Goals as goal

pub returns-then-p : goal.returns-then-p
returns-then-p c = last_shut c.args.only c.args.p c.if-p.true

pub write_number_line-a-requires : goal.write_number_line-a-requires
write_number_line-a-requires c = (omega (arith, c.requires.0.held), omega (arith, c.requires.1, line_most pool_key c.args.p.pool.held))

pub slice_bounds-write_number_line-count : goal.slice_bounds-write_number_line-count
slice_bounds-write_number_line-count c = omega (arith, c.requires.1, c.write_number_line-a.ensures.count, line_most pool_key c.args.p.pool.held)

pub slice_bounds-write_number_line-start : goal.slice_bounds-write_number_line-start
slice_bounds-write_number_line-start c = omega (arith, c.requires.1, c.write_number_line-a.ensures.count, line_most pool_key c.args.p.pool.held)

pub write_number_line-requires : goal.write_number_line-requires
write_number_line-requires c = (omega (arith, c.requires.0.house), omega (arith, c.requires.1, c.write_number_line-a.ensures.count, line_most pool_key c.args.p.pool.held, line_most house_key c.args.p.house))

pub overflow_add-result : goal.overflow_add-result
overflow_add-result c = omega (arith, c.requires.1, c.write_number_line-a.ensures.count, c.write_number_line.ensures.count, line_most pool_key c.args.p.pool.held, line_most house_key c.args.p.house)

pub returns-then-only-eq0 : goal.returns-then-only-eq0
returns-then-only-eq0 c = last_both c.args.only c.args.p c.if-p.false c.if-only-eq0.true (then c.write_number_line-a.ensures c.write_number_line.ensures)

pub returns : goal.returns
returns c = last_one c.args.only c.args.p c.if-p.false c.if-only-eq0.false
