-- `house_with` meets its contract.
use mathlib.Core.Path.{refl}
use Rattle.couple.proofs.Tables.{house_is}
use Rattle.couple.proofs.house_with.Goals as goal

pub returns : goal.returns
returns c = house_is c.args.house c.args.part c.requires c.short_of.ensures c.least.ensures refl
