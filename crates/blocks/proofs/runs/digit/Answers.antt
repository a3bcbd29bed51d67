-- `digit` meets its contract: of all bytes only the digits are at most 9 by it.
use Rattle.blocks.proofs.Packs.{digit_told}
use lib.Bits.{bit_xor}
use Prim.Native.Nat.{ℕ}
use mathlib.Core.Path.{ap}
use native.Mathlib.Omega.{arith}
use Rattle.blocks.proofs.runs.digit.Goals as goal

pub returns : goal.returns
returns c = λ h. digit_told c.args.b (omega arith) (ap (λ (x : ℕ). bit_xor x 48) c.from.ensures) h
