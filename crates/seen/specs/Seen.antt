-- What is known after some bytes of a log, whole lines at a time: the sheet's, then a block's five. Assumes nothing.
use Rattle.std.specs.Prelude.{ℕ, ◌<◌, Bool, true, false, not, List, length, take, ltb, eqb, Result, Ok, Err}
use Rattle.paper.specs.declared.refusal.Refusal.{Refusal}
use Rattle.laws.specs.Tests.{pick, both, either}
use Rattle.writing.specs.AnswerSheet.{over}
use Rattle.paper.specs.Paper.{stand_in, taken, bad_sheet}
use Rattle.blocks.specs.Block.{block_of}
use Rattle.paper.specs.declared.Sheet.{Sheet}
use Rattle.lines.specs.declared.Fill.{Fill}
use Rattle.lines.specs.Kept.{nothing, lines_of, Gathered, gather_of, kept_in, fill_of, Room}
use Rattle.table.specs.Take.{Sound, fresh_table}
use Rattle.desk.specs.Desk.{judged_of}
use Rattle.desk.specs.Log.{opened_of}
use Rattle.seen.specs.Told.{told_after, told_start}
use Rattle.seen.specs.declared.feed.Seen.{Seen}
use Rattle.seen.specs.declared.feed.Fed.{Fed}

-- what is kept between two parts of the log
pub record Held (s : Seen) : Type 0 where
  pub sound : Sound s.table
  pub room : Room s.fill
  pub lines : s.fill.lines < lines_of s.opened

-- before the first byte; the table is a stand-in until the sheet is read
abbrev pub seen_start : Seen
seen_start = record { opened = false; shut = false; table = fresh_table stand_in; fill = fill_of nothing; told = told_start taken }

-- after a block: it was judged at the table
unfoldable pub after_block : Seen → List ℕ → Seen
after_block s block = record {
  opened = true;
  shut = false;
  table = (judged_of s.table block).table;
  fill = fill_of nothing;
  told = told_after s.told (block_of block) (judged_of s.table block);
}

-- the sheet is bad: what follows it is passed over
abbrev pub shut_of : Seen → Seen
shut_of s = record { opened = false; shut = true; table = s.table; fill = fill_of nothing; told = told_start bad_sheet }

-- the table is laid
abbrev pub laid_of : Sheet → Seen
laid_of sheet = record { opened = true; shut = false; table = fresh_table sheet; fill = fill_of nothing; told = told_start taken }

abbrev pub opened_by : Seen → Result Sheet Refusal → Seen
opened_by s (Err why) = shut_of s
opened_by s (Ok sheet) = laid_of sheet

-- after the sheet: of a lone table, without a drop
unfoldable pub after_sheet : Seen → List ℕ → Seen
after_sheet s block = opened_by s (opened_of block)

-- after whole lines: the sheet's, or a block's
unfoldable pub after_lines : Seen → List ℕ → Seen
after_lines s block = pick s.opened (after_block s block) (after_sheet s block)

-- with other lines kept
abbrev pub kept_on : Seen → Fill → Seen
kept_on s m = record { opened = s.opened; shut = s.shut; table = s.table; fill = m; told = s.told }

-- ---- a part of the log

abbrev pub gathered_by : Seen → List ℕ → List ℕ → Gathered
gathered_by s buf part = gather_of (lines_of s.opened) (kept_in s.fill buf) part

abbrev pub gathered_to : Seen → Gathered → Fed
gathered_to s g =
    pick (ltb g.kept.lines (lines_of s.opened)) (record { seen = kept_on s (fill_of g.kept); used = g.used; fresh = false })
    (record { seen = after_lines s g.kept.bytes; used = g.used; fresh = true })

-- up to the end of the sheet or of a block, or all of it; after a bad sheet all of it is passed over
unfoldable pub fed_of : Seen → List ℕ → List ℕ → Fed
fed_of s buf part = pick s.shut (record { seen = s; used = length part; fresh = false }) (gathered_to s (gathered_by s buf part))

-- the buffer then
unfoldable pub buffer_of : Seen → List ℕ → List ℕ → List ℕ
buffer_of s buf part = pick s.shut buf (over (gathered_by s buf part).kept.bytes buf)

-- the end of the log: a sheet that is not whole is bad, and a block that is not whole is malformed
unfoldable pub closed_to : Seen → List ℕ → Seen
closed_to s buf =
    pick s.shut s
    (pick s.opened (pick (eqb s.fill.count 0) s (after_block s (take s.fill.count buf))) (shut_of s))

-- it ends inside a hand, a block or the sheet
unfoldable pub ends_open : Seen → Bool
ends_open s = both (not s.shut) (either (not (both s.opened (eqb s.fill.count 0))) s.table.play.opened)
