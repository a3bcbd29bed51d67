-- `rounds::answering::put_outcome` meets its contract. Assumes nothing.
use mathlib.Core.Path.{◌∙◌}
use native.Mathlib.Omega.{arith}
use Rattle.rounds.proofs.Lengths.{line_most, number_small, paid_bytes, refused_bytes}
use Rattle.rounds.specs.RoundAnswer.{key_code}
use Rattle.writing.proofs.Sheets.{then}
use Rattle.rounds.proofs.answering.put_outcome.Goals as goal

pub write_number_line-a-requires : goal.write_number_line-a-requires
write_number_line-a-requires c = (omega arith, omega (arith, c.requires.1, line_most key_code 0 (omega arith)))

pub put_settled-requires : goal.put_settled-requires
put_settled-requires c = (rw c.in-Ok.is at c.requires.0, omega (arith, c.requires.1, c.write_number_line-a.ensures.count, line_most key_code 0 (omega arith)))

pub write_number_line-requires : goal.write_number_line-requires
write_number_line-requires c =
    (omega (arith, c.from.ensures, c.number.ensures, number_small c.in-Err.e), omega (arith, c.requires.1, line_most key_code c.from.result (omega arith)))

pub returns-in-Ok : goal.returns-in-Ok
returns-in-Ok c = (
  rw (paid_bytes c.args.o c.in-Ok.s c.in-Ok.is) (then c.write_number_line-a.ensures c.put_settled.ensures.0),
  omega (arith, c.put_settled.ensures.1, c.write_number_line-a.ensures.count, line_most key_code 0 (omega arith)),
)

pub returns-in-Err : goal.returns-in-Err
returns-in-Err c = (
  rw (refused_bytes c.args.o c.in-Err.e c.in-Err.is) (rw (c.from.ensures ∙ c.number.ensures) at c.write_number_line.ensures),
  omega (arith, c.write_number_line.ensures.count, line_most key_code c.from.result (omega arith)),
)
