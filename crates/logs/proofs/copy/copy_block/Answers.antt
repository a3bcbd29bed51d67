-- `copy_block` meets its contract: five numbers, or malformed.
use Rattle.logs.proofs.Copies.{raw_copied, bad_copied}
use Rattle.logs.specs.FairCopy.{form_copy, form_copied}
use Rattle.blocks.specs.declared.Block.{Block}
use mathlib.Core.Path.{ap}
use Rattle.logs.proofs.copy.copy_block.Goals as goal

pub returns-in-Raw : goal.returns-in-Raw
returns-in-Raw c = let r = raw_copied c.args.sheet c.args.log.now c.args.buffer.now c.read_block.ensures c.in-Raw.is c.entry_of-p.ensures c.copy_entry.ensures.answer c.copy_entry.ensures.bytes in record { answer = r.0; bytes = r.1.0; within = r.1.1 }

pub returns-in-Malformed : goal.returns-in-Malformed
returns-in-Malformed c = let r = bad_copied c.args.sheet c.args.log.now c.args.buffer.now c.read_block.ensures (ap (λ (x : Block). form_copied c.args.sheet x c.args.buffer.now) c.in-Malformed.is) (ap (form_copy c.args.sheet) c.in-Malformed.is) c.left_out.ensures in record { answer = r.0; bytes = r.1.0; within = r.1.1 }

pub returns-in-Nothing : goal.returns-in-Nothing
returns-in-Nothing c = let r = bad_copied c.args.sheet c.args.log.now c.args.buffer.now c.read_block.ensures (ap (λ (x : Block). form_copied c.args.sheet x c.args.buffer.now) c.in-Nothing.is) (ap (form_copy c.args.sheet) c.in-Nothing.is) c.left_out-in-Nothing.ensures in record { answer = r.0; bytes = r.1.0; within = r.1.1 }
