-- `put_jackpot` meets its contract.
use mathlib.Core.Path.{refl}
use Rattle.answers.specs.Answer.{jackpot_bytes}
use Rattle.answers.proofs.put_jackpot.Goals as goal

pub write_nine_line-requires : goal.write_nine_line-requires
unfolding jackpot_bytes
write_nine_line-requires c = rw c.in-Some.is at c.requires

pub returns-in-Some : goal.returns-in-Some
unfolding jackpot_bytes
returns-in-Some c = rw c.in-Some.is c.write_nine_line.ensures

pub returns-in-None : goal.returns-in-None
unfolding jackpot_bytes
returns-in-None c = rw c.in-None.is (record { count = refl; sheet = refl })
