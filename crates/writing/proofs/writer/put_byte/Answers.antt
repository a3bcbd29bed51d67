-- `put_byte` meets its contract.
use borrow.Author.Rules.{rules}
use mathlib.Core.Path.{refl}
use lib.Seq.{set_split}
use Rattle.writing.proofs.writer.put_byte.Goals as goal

pub returns : goal.returns
returns c = record { count = refl; sheet = set_split c.args.sheet.now 0 c.args.b (search rules) }
