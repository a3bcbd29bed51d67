-- `answer` meets its contract.
use Rattle.desk.specs.Desk.{number_of_block}
use Rattle.blocks.specs.declared.Block.{Block}
use Prim.Native.Nat.{◌<◌, ◌^◌}
use mathlib.Core.Path.{sym, subst}
use Rattle.desk.proofs.Laws.{block_small}
use Rattle.ledger.proofs.Holding.{answer_right, answer_entry}
use Rattle.ledger.proofs.answer.Goals as goal

pub returns-then-is_right : goal.returns-then-is_right
returns-then-is_right c = let r = answer_right c.args.b c.args.shared c.args.lines.now c.args.log.now c.args.index.now c.args.sheet.now c.is_right.ensures c.if-is_right.true c.read_right.ensures.0 c.correct.ensures.answer c.correct.ensures.log c.correct.ensures.index c.correct.ensures.sheet in record { answer = r.0; log = r.1.0; index = r.1.1.0; sheet = r.1.1.1; held = c.correct.ensures.held }

pub enter-requires : goal.enter-requires
enter-requires c = let s = c in (s.requires.0, subst (λ (k : Block). number_of_block k < 10 ^ 9) (sym s.requires.1) (block_small s.args.lines.now))

pub returns : goal.returns
returns c =
    let s = c in
    let e = c.enter.ensures in
    let r = answer_entry s.args.b s.args.shared s.args.lines.now s.args.log.now s.args.index.now s.args.sheet.now
    c.is_right.ensures c.if-is_right.false s.requires.1 e.answer e.log e.index e.sheet in
    record { answer = r.0; log = r.1.0; index = r.1.1.0; sheet = r.1.1.1; held = e.held }
