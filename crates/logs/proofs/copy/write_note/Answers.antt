-- `write_note` meets its contract: no code, no room, or the line.
use Rattle.logs.proofs.Copies.{note_most_law, note_none, note_short, note_done}
use native.Mathlib.Omega.{arith}
use Rattle.logs.proofs.copy.write_note.Goals as goal

pub returns-then-code-eq-TAKEN : goal.returns-then-code-eq-TAKEN
returns-then-code-eq-TAKEN c = let r = note_none c.args.number c.args.code c.args.buffer.now c.if-code-eq-TAKEN.true in record { bytes = r.0; within = r.1 }

pub returns-then-buffer-lt-NOTE : goal.returns-then-buffer-lt-NOTE
returns-then-buffer-lt-NOTE c = let r = note_short c.args.number c.args.code c.args.buffer.now c.if-code-eq-TAKEN.false c.if-buffer-lt-NOTE.true in record { bytes = r.0; within = r.1 }

pub put_note-requires : goal.put_note-requires
put_note-requires c = (c.requires, omega (arith, c.ranges.code, c.from.ensures), omega (arith, note_most_law c.args.number c.from.result))

pub returns : goal.returns
returns c = let r = note_done c.args.number c.args.code c.args.buffer.now c.if-code-eq-TAKEN.false c.if-buffer-lt-NOTE.false c.from.ensures c.put_note.ensures in record { bytes = r.0; within = r.1 }
