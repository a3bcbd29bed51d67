-- `banked::payouts::bonus_times` meets its contract. Assumes nothing.
use mathlib.Core.Path.{◌≡◌}
use lib.ListN.{get_or}
use borrow.Author.Rules.{rules}
use Rattle.banked.specs.Payouts.{bonus_column, bonus_times}
use Rattle.banked.proofs.Tables.{bonus_most}
use Rattle.banked.proofs.payouts.bonus_times.Goals as goal

pub returns : goal.returns
unfolding bonus_times
returns c = let e : c.unwrap_or.result ≡ get_or bonus_column c.args.h.class 0 = search rules in (e, rw e (bonus_most c.args.h.class))
