-- `judge_entry` meets its contract.
use Rattle.ledger.proofs.Telling.{entry_judged}
use Prim.Native.Nat.{ℕ, ◌<◌, ◌^◌}
use mathlib.Core.Path.{sym, subst}
use Rattle.ledger.proofs.judged.judge_entry.Goals as goal

pub judge_block-requires : goal.judge_block-requires
judge_block-requires c = (c.requires.0.sound, c.requires.1)

pub held_back-requires : goal.held_back-requires
held_back-requires c = (c.requires.0.sound, c.judge_block.ensures.1, c.judge_block.ensures.2)

pub returns : goal.returns
returns c = (entry_judged c.args.b c.args.block c.args.log c.args.index c.numbers_in-x.ensures c.is_full-full.ensures c.judge_block.ensures.0 c.held_back.ensures.0, c.held_back.ensures.1, c.held_back.ensures.2, subst (λ (k : ℕ). k < 10 ^ 9) (sym c.held_back.ensures.3) c.judge_block.ensures.3)
