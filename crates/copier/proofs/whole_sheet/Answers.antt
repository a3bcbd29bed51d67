-- `whole_sheet` meets its contract: the sheet is bad, or is copied.
use Rattle.copier.proofs.Steps.{bad_gave, read_gave}
use native.Mathlib.Omega.{arith}
use Rattle.copier.proofs.whole_sheet.Goals as goal

pub returns-in-Err : goal.returns-in-Err
returns-in-Err c = let s = c in
    let n = c.note_bad.ensures in
    record { gave = bad_gave s.args.block.now s.args.copy.now s.args.notes.now c.read_sheet.ensures c.in-Err.is n c.closed_down-d.ensures.0; held = (c.closed_down-d.ensures.1, omega arith, omega (arith, n.count, s.requires.1)) }

pub returns-in-Ok : goal.returns-in-Ok
returns-in-Ok c = let s = c in
    let k = c.copy_sheet-k.ensures in
    record { gave = read_gave s.args.block.now s.args.copy.now s.args.notes.now c.read_sheet.ensures c.in-Ok.is s.requires.0 k.answer k.bytes c.behind-d.ensures.0; held = (c.behind-d.ensures.1, k.within, omega arith) }
