-- `has_chip` meets its contract.
-- Assumes nothing.
use Rattle.std.proofs.Common.{◌≡◌, Bool, true, false, refl, ◌∙◌, leb}
use mir.Val.{bool_byte}
use Rattle.laws.specs.Tests.{one}
use Rattle.pots.specs.Heights.{has}
use Rattle.pots.proofs.has_chip.Goals as goal

as_one : (b : Bool) → bool_byte b ≡ one b
as_one true = refl
as_one false = refl

pub returns : goal.returns
unfolding has
returns c = c.from.ensures ∙ as_one (leb c.args.h c.args.t)
