-- `rounds::answering::put_settled` meets its contract. Assumes nothing.
use Rattle.rounds.specs.RoundAnswer.{settled_bytes}
use Rattle.writing.proofs.Sheets.{then}
use native.Mathlib.Omega.{arith}
use Rattle.rounds.proofs.answering.put_settled.Goals as goal

pub put_seven-a-requires : goal.put_seven-a-requires
put_seven-a-requires c = (c.requires.0.backs, omega (arith, c.requires.1))

pub put_sums-requires : goal.put_sums-requires
put_sums-requires c = (c.requires.0, omega (arith, c.requires.1, c.put_seven-a.ensures.1))

pub returns : goal.returns
unfolding settled_bytes
returns c = (then c.put_seven-a.ensures.0 c.put_sums.ensures.0, omega (arith, c.put_seven-a.ensures.1, c.put_sums.ensures.1))
