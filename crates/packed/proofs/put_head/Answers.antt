-- `put_head` meets its contract.
use Rattle.packed.proofs.Rows.{two_wrote}
use Rattle.packed.specs.Layout.{words_bytes}
use Rattle.packed.specs.Fits.{IsWord}
use Rattle.laws.specs.Lists.{All}
use mathlib.Core.Path.{refl, ap, subst}
use Rattle.packed.proofs.put_head.Goals as goal

pub returns : goal.returns
returns c = record { wrote = two_wrote c.put_words-at.ensures.wrote (ap words_bytes c.head_words-ws.ensures) c.put_bytes.ensures c.head_singles-bs.ensures.is refl; fits = record { words = subst (All IsWord) c.head_words-ws.ensures c.put_words-at.ensures.small.0; cards = c.head_singles-bs.ensures.all } }
