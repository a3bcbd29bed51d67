-- `entry_or` meets its contract.
use Rattle.fresh.proofs.Steps.{here_it_is, another}
use Rattle.records.specs.Stored.{entry_by}
use Prim.Native.Nat.{ℕ}
use Rattle.fresh.proofs.entry_or.Goals as goal

pub returns-then-k-at : goal.returns-then-k-at
returns-then-k-at c = here_it_is c.args.k c.args.at c.args.e (λ (_ : ℕ). entry_by c.args.got) c.if-k-at.true

pub returns : goal.returns
returns c = another c.args.k c.args.at c.args.e (λ (_ : ℕ). entry_by c.args.got) c.if-k-at.false c.entry_by.ensures
