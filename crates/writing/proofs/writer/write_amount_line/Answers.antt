-- `write_amount_line` meets its contract: the end is written behind the key.
use lib.ListN.{length-append}
use mathlib.Core.List.{[], ◌∷◌, ◌++◌, append_assoc}
use native.Mathlib.Omega.{arith}
use Rattle.writing.proofs.Sheets.{then, same_bytes}
use Rattle.text.proofs.Lines.{line_count}
use Rattle.text.specs.Number.{digits}
use Rattle.text.specs.Line.{number_line}
use Rattle.writing.proofs.writer.write_amount_line.Goals as goal

pub put_key-a-requires : goal.put_key-a-requires
put_key-a-requires c = omega (arith, line_count c.args.key.now c.args.n)

pub end_amount-requires : goal.end_amount-requires
end_amount-requires c = (c.requires.0, omega (arith, line_count c.args.key.now c.args.n, length-append c.args.key.now (61 ∷ [])))

pub returns : goal.returns
unfolding number_line
returns c =
    same_bytes (append_assoc (c.args.key.now ++ (61 ∷ [])) (digits c.args.n) (10 ∷ [])) (then c.put_key-a.ensures c.end_amount.ensures)
