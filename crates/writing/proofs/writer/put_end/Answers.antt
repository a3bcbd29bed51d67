-- `put_end` meets its contract: one digit, two or more, and the LF behind them.
use native.Mathlib.Omega.{arith}
use Rattle.writing.proofs.Pairs.{count_pair}
use Rattle.writing.proofs.Sheets.{then}
use Rattle.text.proofs.Numbers.{count_one}
use Rattle.writing.proofs.writer.put_end.Goals as goal

pub end_one-requires : goal.end_one-requires
end_one-requires c = let s = c in (c.if-n-lt10.true, omega (arith, count_one s.args.n c.if-n-lt10.true, s.requires.1))

pub end_pair-requires : goal.end_pair-requires
end_pair-requires c = let s = c in ((c.if-n-lt10.false, c.if-n-lt100.true), omega (arith, count_pair s.args.n c.if-n-lt10.false c.if-n-lt100.true, s.requires.1))

pub returns : goal.returns
returns c = then c.put_digits-c.ensures c.put_byte.ensures
