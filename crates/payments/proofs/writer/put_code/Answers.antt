-- `payments::writer::put_code` meets its contract: a code's line. Assumes nothing.
use Rattle.answers.proofs.Blocks.{line_most}
use Rattle.answers.specs.Answer.{key_code}
use native.Mathlib.Omega.{arith}
use Rattle.payments.proofs.writer.put_code.Goals as goal

pub write_number_line-requires : goal.write_number_line-requires
write_number_line-requires c = (c.requires.0, omega (arith, c.requires.1, line_most key_code c.args.code))

pub returns : goal.returns
returns c = (c.write_number_line.ensures, omega (arith, c.write_number_line.ensures.count, line_most key_code c.args.code))
