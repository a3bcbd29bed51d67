-- `kind_place` meets its contract: what is left of the table gives the place that the whole does.
use Rattle.blocks.proofs.Packs.{word_here, word_other}
use Rattle.blocks.proofs.Blocks.{place_here, place_on}
use Rattle.blocks.specs.Block.{kind_names}
use mathlib.Core.Path.{sym, ◌∙◌}
use native.Mathlib.Omega.{arith}
use Rattle.blocks.proofs.kind.kind_place.Goals as goal

pub returns-then-kind-word : goal.returns-then-kind-word
returns-then-kind-word c = let w = c.args.w.now in let k = c.loop-k.k in omega (arith, place_here kind_names w k (omega arith) (word_here w k (omega arith) c.requires.1 (c.if-kind-word.true ∙ c.packed-word.ensures)))

pub loop-k-preserved : goal.loop-k-preserved
loop-k-preserved c = let w = c.args.w.now in let k = c.loop-k.k in omega (arith, place_on kind_names w k (omega arith) (word_other w k (omega arith) (λ e. c.if-kind-word.false (e ∙ sym c.packed-word.ensures))))
