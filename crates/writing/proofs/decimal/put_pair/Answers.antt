-- `put_pair` meets its contract: two stores, one behind the other.
use Prim.Native.Nat.{◌+◌, ◌/◌, ◌%◌}
use native.Mathlib.Omega.{arith}
use Rattle.writing.proofs.Sheets.{push, push_first}
use Rattle.writing.proofs.decimal.put_pair.Goals as goal

pub returns : goal.returns
returns c = let n = c.args.n in push (48 + n % 10) (omega (arith, c.requires.1)) (push_first c.args.sheet.now (48 + n / 10) (omega (arith, c.requires.1)))
