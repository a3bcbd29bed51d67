-- `put_one` meets its contract: the digits of a number below ten are one.
use Prim.Native.Nat.{◌+◌}
use native.Mathlib.Omega.{arith}
use Rattle.writing.proofs.Sheets.{push_first, same_bytes}
use Rattle.text.proofs.Numbers.{digits_one}
use Rattle.writing.proofs.decimal.put_one.Goals as goal

pub returns : goal.returns
returns c = same_bytes (digits_one c.args.n c.requires.0) (push_first c.args.sheet.now (48 + c.args.n) (omega arith))
