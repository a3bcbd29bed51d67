-- `clerk_start` meets its contract.
use Rattle.embed.proofs.Calls.{start_refused, started}
use native.Mathlib.Omega.{arith}
use borrow.Author.Rules.{rules}
use Rattle.embed.proofs.clerk_start.Goals as goal

pub returns-then-code-ne0 : goal.returns-then-code-ne0
returns-then-code-ne0 c = start_refused c.args.state.now c.start_code-code.ensures.is c.if-code-ne0.true c.start_code-code.ensures.room.1

pub pack-requires : goal.pack-requires
pack-requires c = (c.start-c.ensures.1.room, (let l = c.start_code-code.ensures.room.0 c.if-code-ne0.false in omega (arith, l)))

pub returns : goal.returns
returns c = started c.args.state.now c.start_code-code.ensures.is c.if-code-ne0.false c.start-c.ensures c.pack.ensures.bytes c.pack.ensures.back
