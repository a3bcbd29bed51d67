-- `payments::writer::put_give` meets its contract: a number's line. Assumes nothing.
use Rattle.answers.proofs.Blocks.{line_most}
use Rattle.teller.specs.Lines.{key_give}
use native.Mathlib.Omega.{arith}
use Rattle.payments.proofs.writer.put_give.Goals as goal

pub write_number_line-requires : goal.write_number_line-requires
write_number_line-requires c = (c.requires.0, omega (arith, c.requires.1, line_most key_give c.args.n))

pub returns : goal.returns
returns c = (c.write_number_line.ensures, omega (arith, c.write_number_line.ensures.count, line_most key_give c.args.n))
