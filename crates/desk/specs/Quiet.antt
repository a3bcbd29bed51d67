-- Pots and back of a table as they are kept from one block to the next, and the blocks that leave them as they are. Assumes nothing.
use Rattle.std.specs.Prelude.{ℕ, ◌≤◌, ◌≡◌, Bool, true, not, length, ltb, eqb}
use Rattle.laws.specs.Tests.{either}
use Rattle.blocks.specs.declared.Block.{Block}
use Rattle.blocks.specs.declared.Block.TheVariants.{Raw, Malformed, Nothing}
use Rattle.pots.specs.Runs.{padded}
use Rattle.pots.specs.declared.Stands.{Stands}
use Rattle.table.specs.declared.table.Table.{Table}
use Rattle.table.specs.Settle.{pots_now, back_now}

-- the pots and the sum of returned heights of this table
pub record ShowsPots (t : Table) (s : Stands) : Type 0 where
  pub count : s.pots.n ≡ length (pots_now t)
  pub list : s.pots.list ≡ padded 9 (pots_now t)
  pub few : s.pots.n ≤ 9
  pub back : s.back ≡ back_now t

-- sit, leave, hole, check and board: no chips are put in or paid, and no hand is given up
abbrev pub quiet_kind : ℕ → Bool
quiet_kind k = either (ltb k 2) (either (eqb k 3) (either (eqb k 5) (eqb k 8)))

abbrev pub quiet_block : Block → Bool
quiet_block (Raw n kind seat a b) = quiet_kind kind
quiet_block Malformed = true
quiet_block Nothing = true

-- a block that was refused, or is of a quiet kind
abbrev pub keeps_pots : Block → ℕ → Bool
keeps_pots b code = either (not (eqb code 0)) (quiet_block b)
