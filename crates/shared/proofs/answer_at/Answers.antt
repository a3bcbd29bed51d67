-- `answer_at` meets its contract: the table and the pool after the block, or those before it where its answer had no room. Assumes nothing.
use mathlib.Core.Path.{ap}
use Rattle.shared.specs.declared.SharedAnswer.{SharedAnswer}
use borrow.Author.Tests.{not-true, not-false}
use Rattle.shared.proofs.Laws.{answered, answered_said, answered_kept, answered_none, said_fit, kept_fit, won_small, pool_small}
use Rattle.shared.proofs.answer_at.Goals as goal

pub returns-then-not-j : goal.returns-then-not-j
returns-then-not-j c =
    let s = c in
    let j = c.judge_at-j.ensures in
    let h = c.hand_of.ensures in
    let p = c.settled_pool-s.ensures in
    let r = answered_none s.args.table s.args.pool s.args.log.now s.args.sheet.now j.0 h p (not-true _ c.if-not-j.true) c.said.ensures
    (said_fit (ap (λ (x : SharedAnswer). x.table) c.said.ensures) (ap (λ (x : SharedAnswer). x.pool) c.said.ensures) j.1 (pool_small s.args.pool _ s.requires.1 p)) in record { answer = r.0; bytes = r.1.0; sound = r.1.1 }

pub shown_at-requires : goal.shown_at-requires
shown_at-requires c =
    let s = c in
    let j = c.judge_at-j.ensures in
    (j.1, j.2, j.3, j.4, won_small s.args.pool _ s.requires.1 c.settled_pool-s.ensures)

pub returns-in_default : goal.returns-in_default
returns-in_default c =
    let s = c in
    let j = c.judge_at-j.ensures in
    let h = c.hand_of.ensures in
    let p = c.settled_pool-s.ensures in
    let kept = answered_kept s.args.table s.args.pool s.args.log.now s.args.sheet.now j.0 h p c.kept.ensures c.in_default.is in
    let r = answered s.args.table s.args.pool s.args.log.now s.args.sheet.now j.0 h p (not-false _ c.if-not-j.false) c.shown_at.ensures.0
    c.write_answer-w.ensures.answer c.write_answer-w.ensures.bytes kept (kept_fit c.kept.ensures s.requires.0 s.requires.1) in record { answer = r.0; bytes = r.1.0; sound = r.1.1 }

pub returns : goal.returns
returns c =
    let s = c in
    let j = c.judge_at-j.ensures in
    let h = c.hand_of.ensures in
    let p = c.settled_pool-s.ensures in
    let told = answered_said s.args.table s.args.pool s.args.log.now s.args.sheet.now j.0 h p c.said-2.ensures c.in-Ok.is in
    let r = answered s.args.table s.args.pool s.args.log.now s.args.sheet.now j.0 h p (not-false _ c.if-not-j.false) c.shown_at.ensures.0
    c.write_answer-w.ensures.answer c.write_answer-w.ensures.bytes told (said_fit (ap (λ (x : SharedAnswer). x.table) c.said-2.ensures) (ap (λ (x : SharedAnswer). x.pool) c.said-2.ensures) j.1 (pool_small s.args.pool _ s.requires.1 p)) in record { answer = r.0; bytes = r.1.0; sound = r.1.1 }
