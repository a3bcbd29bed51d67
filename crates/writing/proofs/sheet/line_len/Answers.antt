-- `line_len` meets its contract: the row's letters, `=`, the digits and LF.
use mathlib.Core.Path.{refl}
use native.Mathlib.Omega.{arith}
use Rattle.text.proofs.Numbers.{count_most}
use Rattle.text.proofs.SheetRows.{few_letters, line_long}
use Rattle.writing.proofs.sheet.line_len.Goals as goal

pub overflow_add-result : goal.overflow_add-result
overflow_add-result c = omega (arith, few_letters c.args.k c.requires, count_most c.args.n)

pub overflow_add-result-2 : goal.overflow_add-result-2
overflow_add-result-2 c = omega (arith, few_letters c.args.k c.requires, count_most c.args.n)

pub returns : goal.returns
returns c = line_long c.args.k c.requires c.args.n c.digit_count.ensures refl
