-- `clerk_close` meets its contract.
use Rattle.embed.proofs.Calls.{close_refused, close_done}
use native.Mathlib.Omega.{arith}
use borrow.Author.Rules.{rules}
use Rattle.embed.proofs.clerk_close.Goals as goal

pub returns-then-code-ne0 : goal.returns-then-code-ne0
returns-then-code-ne0 c = close_refused c.args.state.now c.args.out.now c.args.counts.now c.call_code-code.ensures.is c.if-code-ne0.true

pub close_in-n-requires : goal.close_in-n-requires
close_in-n-requires c = (c.requires, (c.call_code-code.ensures.room c.if-code-ne0.false).0)

pub bounds-counts-0 : goal.bounds-counts-0
bounds-counts-0 c = let l = (c.call_code-code.ensures.room c.if-code-ne0.false).2 in omega (arith, l)

pub returns : goal.returns
returns c = close_done c.args.state.now c.args.out.now c.args.counts.now c.call_code-code.ensures.is c.if-code-ne0.false (c.call_code-code.ensures.room c.if-code-ne0.false).2 c.close_in-n.ensures
