-- `hear` meets its contract.
use native.Mathlib.Omega.{arith}
use Rattle.frames.proofs.Nexts.{wanted_range, from_within, heard_kept, heard_whole}
use Rattle.frames.proofs.hear.Goals as goal

pub gather-g-requires : goal.gather-g-requires
gather-g-requires c = let h = c.requires in (h.0.room, omega arith, omega (arith, h.0.lines, (wanted_range c.args.f.due).1), h.1)

pub returns-then-k-n : goal.returns-then-k-n
returns-then-k-n c = let h = c.requires in let g = c.gather-g.ensures in let r = heard_kept c.args.f c.args.buf.now c.args.part.now h.0 h.1 g.got g.kept g.room.0 c.if-k-n.true in record { heard = r.0; kept = g.kept; held = (r.1, g.room.1, g.room.2, omega arith) }

pub slice_bounds-table_of-count : goal.slice_bounds-table_of-count
slice_bounds-table_of-count c = let h = c.requires in let g = c.gather-g.ensures in from_within c.args.f c.args.buf.now c.args.part.now h.0 h.1 g.got g.kept g.room.0

pub slice_bounds-table_of-start : goal.slice_bounds-table_of-start
slice_bounds-table_of-start c = let h = c.requires in let g = c.gather-g.ensures in from_within c.args.f c.args.buf.now c.args.part.now h.0 h.1 g.got g.kept g.room.0

pub returns : goal.returns
returns c = let h = c.requires in let g = c.gather-g.ensures in let r = heard_whole c.args.f c.args.buf.now c.args.part.now h.0 h.1 g.got g.kept g.room.0 c.table_of-t.ensures c.line_next-x.ensures c.kept_fill.ensures c.if-k-n.false in record { heard = r.0; kept = g.kept; held = (r.1, g.room.1, g.room.2, g.room.0.most) }
