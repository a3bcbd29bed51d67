-- Demand 3 at settlement, by sitting: what each is paid. Lists of entries have the newest first.
-- Assumes nothing.
use Rattle.std.specs.Prelude.{ℕ, ◌+◌, List, [], ◌∷◌, eqb, length}
use Rattle.laws.specs.Tests.{pick}
use Rattle.paper.specs.declared.Sheet.{Sheet}
use Rattle.paper.specs.declared.Entry.{Entry}
use Rattle.paper.specs.declared.Entry.TheVariants.{Settle}
use Rattle.table.specs.declared.table.Payout.{Payout}
use Rattle.table.specs.Take.{payout_of}
use Rattle.history.specs.History.{run}

-- what sitting s is paid: of the sittings and payments that a settled block lists
unfoldable pub paid_to : List ℕ → List ℕ → ℕ → ℕ
paid_to [] ps s = 0
paid_to (x ∷ xs) [] s = 0
paid_to (x ∷ xs) (p ∷ ps) s = pick (eqb x s) p 0 + paid_to xs ps s

-- what the settle that follows some entries pays
abbrev pub settles : Sheet → List Entry → Payout
settles sheet es = payout_of (run sheet es) (length es + 1) Settle
