-- `behind` meets its contract.
use Rattle.text.proofs.Parts.{part_is}
use Rattle.text.proofs.Lines.{after_none}
use Rattle.text.specs.Line.{line_len}
use lib.ListN.{length, drop, drop_of_length-le}
use Prim.Native.Nat.{ℕ, suc, ◌+◌}
use mathlib.Core.Path.{◌≡◌, sym, ap, ◌∙◌}
use native.Mathlib.Omega.{arith}
use Rattle.text.proofs.line.behind.Goals as goal

pub returns-then-e-log : goal.returns-then-e-log
returns-then-e-log c = let l = c.args.log.now in let e : c.args.e + 1 ≡ suc (line_len l) = omega arith in part_is (c.args.e + 1) l ∙ ap (λ (k : ℕ). drop k l) e

pub returns : goal.returns
returns c = let l = c.args.log.now in part_is (length l) l ∙ drop_of_length-le l {i = length l} (omega arith) ∙ sym (after_none l (omega arith))
