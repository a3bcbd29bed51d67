-- `told` meets its contract, answer by answer.
use Rattle.logs.proofs.copy.told.Goals as goal

pub returns-in-Ok : goal.returns-in-Ok
returns-in-Ok c = rw c.in-Ok.is

pub returns-in-Err : goal.returns-in-Err
returns-in-Err c = rw c.in-Err.is (rw (c.left_out.ensures, c.number.ensures))
