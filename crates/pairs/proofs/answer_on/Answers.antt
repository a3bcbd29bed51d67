-- `answer_on` meets its contract: the table that is due answers, its answer is shown, and the pair is the one that the definition says.
use native.Mathlib.Omega.{arith}
use mathlib.Core.Path.{sym, subst}
use Rattle.table.specs.Take.{Sound}
use Rattle.couple.proofs.Tables.{sound_at}
use Rattle.pairs.proofs.Runs.{block_written, block_gave, block-good}
use Rattle.shared.proofs.Room.{shared_bytes_most}
use Rattle.pairs.proofs.answer_on.Goals as goal

pub answer_at-a-requires : goal.answer_at-a-requires
answer_at-a-requires c = (subst Sound (sym c.table_at-t.ensures) (sound_at c.args.p c.is_second-second.result c.requires.0), c.requires.0.held)

pub slice_bounds-put_shown-end : goal.slice_bounds-put_shown-end
slice_bounds-put_shown-end c = omega (arith, block_written c.args.only c.args.p c.args.due c.args.lines.now c.args.sheet.now c.requires.0 c.is_second-second.ensures c.table_at-t.ensures (omega (arith, c.requires.2, shared_bytes_most c.table_at-t.result c.args.p.pool c.args.lines.now (subst Sound (sym c.table_at-t.ensures) (sound_at c.args.p c.is_second-second.result c.requires.0)))) c.answer_at-a.ensures.answer c.answer_at-a.ensures.bytes, c.requires.2)

pub put_shown-written-requires : goal.put_shown-written-requires
put_shown-written-requires c = (c.requires.1, omega (arith, c.requires.2, c.requires.3, block_written c.args.only c.args.p c.args.due c.args.lines.now c.args.sheet.now c.requires.0 c.is_second-second.ensures c.table_at-t.ensures (omega (arith, c.requires.2, shared_bytes_most c.table_at-t.result c.args.p.pool c.args.lines.now (subst Sound (sym c.table_at-t.ensures) (sound_at c.args.p c.is_second-second.result c.requires.0)))) c.answer_at-a.ensures.answer c.answer_at-a.ensures.bytes))

pub house_with-requires : goal.house_with-requires
house_with-requires c = c.requires.0.house

pub returns : goal.returns
returns c = let m = shared_bytes_most c.table_at-t.result c.args.p.pool c.args.lines.now (subst Sound (sym c.table_at-t.ensures) (sound_at c.args.p c.is_second-second.result c.requires.0)) in record { gave = block_gave c.args.only c.args.p c.args.due c.args.lines.now c.args.sheet.now c.requires.0 c.is_second-second.ensures c.table_at-t.ensures (omega (arith, c.requires.2, m)) c.answer_at-a.ensures.answer c.answer_at-a.ensures.bytes c.with_table-us.ensures c.house_with.ensures.0 c.put_shown-written.ensures; good = block-good c.args.only c.args.p c.args.due c.args.lines.now c.args.sheet.now c.requires.0 c.is_second-second.ensures c.table_at-t.ensures (omega (arith, c.requires.2, m)) c.answer_at-a.ensures.answer c.answer_at-a.ensures.bytes c.with_table-us.ensures c.house_with.ensures.0 c.put_shown-written.ensures c.answer_at-a.ensures.sound.0 c.answer_at-a.ensures.sound.1 c.house_with.ensures.1 }
