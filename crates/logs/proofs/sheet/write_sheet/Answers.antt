-- `write_sheet` meets its contract: 2, then 12, else the sheet.
use native.Mathlib.Omega.{arith}
use Rattle.logs.proofs.Puts.{put_refused, put_short, put_done}
use Rattle.logs.specs.LogText.{sheet_text}
use Rattle.paper.specs.Paper.{is_sheet}
use mathlib.Core.Path.{sym, ◌∙◌}
use Rattle.logs.proofs.sheet.write_sheet.Goals as goal

pub sheet_len-requires : goal.sheet_len-requires
sheet_len-requires c = sym c.is_sheet.ensures ∙ c.if-is_sheet.true

pub returns-then-buffer-sheet_len : goal.returns-then-buffer-sheet_len
returns-then-buffer-sheet_len c = let r = put_short (is_sheet c.args.s) (sheet_text c.args.s) c.args.buffer.now (sym c.is_sheet.ensures ∙ c.if-is_sheet.true) (omega (arith, c.sheet_len.ensures)) in record { answer = r.0; bytes = r.1 }

pub put_sheet-requires : goal.put_sheet-requires
put_sheet-requires c = (sym c.is_sheet.ensures ∙ c.if-is_sheet.true, omega (arith, c.sheet_len.ensures))

pub returns-then-is_sheet : goal.returns-then-is_sheet
returns-then-is_sheet c = let r = put_done (is_sheet c.args.s) (sheet_text c.args.s) c.args.buffer.now (sym c.is_sheet.ensures ∙ c.if-is_sheet.true) (omega (arith, c.sheet_len.ensures)) c.put_sheet.ensures in record { answer = r.0; bytes = r.1 }

pub returns : goal.returns
returns c = let r = put_refused (is_sheet c.args.s) (sheet_text c.args.s) c.args.buffer.now (sym c.is_sheet.ensures ∙ c.if-is_sheet.false) in record { answer = r.0; bytes = r.1 }
