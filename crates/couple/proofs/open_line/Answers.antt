-- `open_line` meets its contract.
use Rattle.pool.specs.declared.PoolOpened as opens
use mathlib.Core.Path.{ap, sym, ◌∙◌}
use Rattle.couple.proofs.Tables.{opened_held, pool_gave, pool_over, pool_bad}
use Rattle.couple.proofs.open_line.Goals as goal

pub with_pool-requires : goal.with_pool-requires
with_pool-requires c = (c.requires.0, opened_held _ c.open_pool-o.ensures c.if-o-eq-TAKEN.true)

pub returns-then-o-eq-TAKEN : goal.returns-then-o-eq-TAKEN
returns-then-o-eq-TAKEN c = let o = c.open_pool-o.ensures in let w = c.with_pool.ensures in record { gave = pool_gave c.args.p c.read_key_number.ensures c.in-Some.is (sym (ap (λ (x : opens.PoolOpened). x.code) o) ∙ c.if-o-eq-TAKEN.true) (w.0 ∙ ap (λ (x : opens.PoolOpened). record { shut = c.args.p.shut; tables = c.args.p.tables; pool = x.pool; house = c.args.p.house }) o); good = w.1 }

pub returns-else-o-eq-TAKEN : goal.returns-else-o-eq-TAKEN
returns-else-o-eq-TAKEN c = let o = c.open_pool-o.ensures in let w = c.refuse.ensures in record { gave = pool_over c.args.p c.read_key_number.ensures c.in-Some.is (λ z. c.if-o-eq-TAKEN.false (ap (λ (x : opens.PoolOpened). x.code) o ∙ z)) w.gave; good = w.good }

pub returns-in-None : goal.returns-in-None
returns-in-None c = let w = c.refuse-in-None.ensures in record { gave = pool_bad c.args.p c.read_key_number.ensures c.in-None.is w.gave; good = w.good }
