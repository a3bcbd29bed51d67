-- `write_entry` meets its contract: 2, then 12, else the entry.
use lib.ListN.{length}
use native.Mathlib.Omega.{arith}
use Rattle.logs.proofs.Puts.{is_entry_law, put_refused, put_short, put_done}
use Rattle.logs.proofs.EntryText.{entry_small}
use Rattle.logs.specs.LogText.{block_text, entry_text, is_entry}
use Rattle.paper.specs.declared.Numbers.{Numbers}
use mathlib.Core.Path.{ap, ◌∙◌}
use Rattle.logs.proofs.entry.write_entry.Goals as goal

pub block_len-requires : goal.block_len-requires
block_len-requires c = rw c.numbers_of-x.ensures (entry_small c.args.sheet c.args.n c.args.e (is_entry_law c.args.sheet c.args.n c.args.e c.is_sheet.ensures c.in_range.ensures c.both.ensures ∙ c.if-both.true))

pub returns-then-buffer-block_len : goal.returns-then-buffer-block_len
returns-then-buffer-block_len c = let good = is_entry_law c.args.sheet c.args.n c.args.e c.is_sheet.ensures c.in_range.ensures c.both.ensures ∙ c.if-both.true in let n = c.block_len.ensures ∙ ap (λ (x : Numbers). length (block_text c.args.n x)) c.numbers_of-x.ensures in let r = put_short (is_entry c.args.sheet c.args.n c.args.e) (entry_text c.args.n c.args.e) c.args.buffer.now good (omega arith) in record { answer = r.0; bytes = r.1 }

pub put_block-requires : goal.put_block-requires
put_block-requires c = let n = c.block_len.ensures ∙ ap (λ (x : Numbers). length (block_text c.args.n x)) c.numbers_of-x.ensures in rw c.numbers_of-x.ensures (entry_small c.args.sheet c.args.n c.args.e (is_entry_law c.args.sheet c.args.n c.args.e c.is_sheet.ensures c.in_range.ensures c.both.ensures ∙ c.if-both.true), omega arith)

pub returns-then-both : goal.returns-then-both
returns-then-both c = let good = is_entry_law c.args.sheet c.args.n c.args.e c.is_sheet.ensures c.in_range.ensures c.both.ensures ∙ c.if-both.true in let n = c.block_len.ensures ∙ ap (λ (x : Numbers). length (block_text c.args.n x)) c.numbers_of-x.ensures in let r = put_done (is_entry c.args.sheet c.args.n c.args.e) (entry_text c.args.n c.args.e) c.args.buffer.now good (omega arith) (rw c.numbers_of-x.ensures at c.put_block.ensures) in record { answer = r.0; bytes = r.1 }

pub returns : goal.returns
returns c = let r = put_refused (is_entry c.args.sheet c.args.n c.args.e) (entry_text c.args.n c.args.e) c.args.buffer.now (is_entry_law c.args.sheet c.args.n c.args.e c.is_sheet.ensures c.in_range.ensures c.both.ensures ∙ c.if-both.false) in record { answer = r.0; bytes = r.1 }
