-- `copy_entry` meets its contract: no entry, or what the writer says.
use Rattle.logs.proofs.Copies.{entry_none, entry_put}
use Rattle.logs.proofs.copy.copy_entry.Goals as goal

pub returns-in-Err : goal.returns-in-Err
returns-in-Err c = let r = entry_none c.args.sheet c.args.n c.args.p c.args.buffer.now c.in-Err.is c.left_out.ensures in record { answer = r.0; bytes = r.1 }

pub returns-in-Ok : goal.returns-in-Ok
returns-in-Ok c = let r = entry_put c.args.sheet c.args.n c.args.p c.args.buffer.now c.in-Ok.is c.write_entry.ensures.answer c.write_entry.ensures.bytes c.told.ensures in record { answer = r.0; bytes = r.1 }
