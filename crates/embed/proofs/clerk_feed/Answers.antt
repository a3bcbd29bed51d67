-- `clerk_feed` meets its contract.
use Rattle.embed.proofs.Calls.{fed_refused, fed_done}
use lib.ListN.{length-set}
use native.Mathlib.Omega.{arith}
use borrow.Author.Rules.{rules}
use Rattle.embed.proofs.clerk_feed.Goals as goal

pub returns-then-code-ne0 : goal.returns-then-code-ne0
returns-then-code-ne0 c = fed_refused c.args.state.now c.args.part.now c.args.out.now c.args.counts.now c.call_code-code.ensures.is c.if-code-ne0.true c.requires

pub feed_in-did-requires : goal.feed_in-did-requires
feed_in-did-requires c = (c.requires, (c.call_code-code.ensures.room c.if-code-ne0.false).0)

pub bounds-counts-0 : goal.bounds-counts-0
bounds-counts-0 c = let l = (c.call_code-code.ensures.room c.if-code-ne0.false).2 in omega (arith, l)

pub bounds-counts-1 : goal.bounds-counts-1
bounds-counts-1 c = let l = (c.call_code-code.ensures.room c.if-code-ne0.false).2 in omega (arith, l, length-set c.args.counts.now 0 c.feed_in-did.result.written)

pub returns : goal.returns
returns c = fed_done c.args.state.now c.args.part.now c.args.out.now c.args.counts.now c.call_code-code.ensures.is c.if-code-ne0.false (c.call_code-code.ensures.room c.if-code-ne0.false).2 c.feed_in-did.ensures
