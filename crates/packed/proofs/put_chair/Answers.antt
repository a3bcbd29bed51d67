-- `put_chair` meets its contract.
use Rattle.packed.proofs.Rows.{two_wrote}
use mathlib.Core.Path.{refl}
use Rattle.packed.proofs.put_chair.Goals as goal

pub returns : goal.returns
returns c = record { wrote = two_wrote c.put_words-at.ensures.wrote refl c.put_bytes.ensures c.chair_singles-bs.ensures.is refl; fits = record { words = c.put_words-at.ensures.small.0; cards = c.chair_singles-bs.ensures.all } }
