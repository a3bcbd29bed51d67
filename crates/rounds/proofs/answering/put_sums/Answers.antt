-- `rounds::answering::put_sums` meets its contract. Assumes nothing.
use Rattle.rounds.specs.RoundAnswer.{sums_bytes}
use Rattle.writing.proofs.Sheets.{then}
use native.Mathlib.Omega.{arith}
use Rattle.rounds.proofs.answering.put_sums.Goals as goal

pub put_two-a-requires : goal.put_two-a-requires
put_two-a-requires c = (omega (arith, c.requires.0.staked), omega (arith, c.requires.0.back), omega arith, omega arith, omega (arith, c.requires.1))

pub put_two-requires : goal.put_two-requires
put_two-requires c = (omega (arith, c.requires.0.won), omega (arith, c.requires.0.lost), omega arith, omega arith, omega (arith, c.requires.1, c.put_two-a.ensures.1))

pub returns : goal.returns
unfolding sums_bytes
returns c = (then c.put_two-a.ensures.0 c.put_two.ensures.0, omega (arith, c.put_two-a.ensures.1, c.put_two.ensures.1))
