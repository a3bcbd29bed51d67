-- `end_few` meets its contract: three stores make one digit or two and the LF.
use Prim.Native.Nat.{◌<◌}
use lib.ListN.{length, length-set}
use native.Mathlib.Omega.{arith}
use Rattle.writing.proofs.Pairs.{few_done, few_len}
use Rattle.writing.proofs.writer.end_few.Goals as goal

pub bounds-sheet-1 : goal.bounds-sheet-1
bounds-sheet-1 c = let s = c in let e = few_len s.args.n _ s.requires.0 c.few_count-k.ensures.0 in let h : 1 < length s.args.sheet.now = omega (arith, e.0, e.1, s.requires.1) in simp length-set h

pub bounds-sheet-k : goal.bounds-sheet-k
bounds-sheet-k c = let s = c in let e = few_len s.args.n _ s.requires.0 c.few_count-k.ensures.0 in let h : c.few_count-k.result < length s.args.sheet.now = omega (arith, e.0, e.1, s.requires.1) in simp length-set h

pub returns : goal.returns
returns c = let s = c in few_done s.args.n s.args.sheet.now s.requires.0 s.requires.1 c.few_count-k.ensures.0 c.few_first-first.ensures.0
