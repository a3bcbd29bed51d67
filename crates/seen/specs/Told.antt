-- What the entries have told beside the table. Assumes nothing.
use Rattle.std.specs.Prelude.{ℕ, zero, suc, Bool, true, false, List, set, replicate, eqb}
use Rattle.laws.specs.Tests.{pick, both}
use Rattle.paper.specs.Paper.{taken}
use Rattle.blocks.specs.declared.Block.{Block}
use Rattle.blocks.specs.declared.Block.TheVariants.{Raw, Malformed, Nothing}
use Rattle.table.specs.declared.table.Board.{Board}
use Rattle.table.specs.declared.table.Payout.{Payout}
use Rattle.table.specs.Settle.{no_payout}
use Rattle.table.specs.State.{no_board}
use Rattle.desk.specs.declared.Judged.{Judged}
use Rattle.seen.specs.declared.told.Act.{Act}
use Rattle.seen.specs.declared.told.Told.{Told}

-- the kinds by their places in the paper's table of entries
abbrev pub kind_hand : ℕ
kind_hand = 2

abbrev pub kind_dead : ℕ
kind_dead = 9

abbrev pub kind_none : ℕ
kind_none = 12

-- a block's kind and seat
abbrev pub said_of : Block → Act
said_of (Raw n kind seat a b) = record { kind = kind; seat = seat }
said_of Malformed = record { kind = kind_none; seat = 0 }
said_of Nothing = record { kind = kind_none; seat = 0 }

-- the seats with one more marked (seats are counted from 1)
abbrev pub marked_at : List Bool → ℕ → List Bool
marked_at dead zero = dead
marked_at dead (suc k) = set dead k true

-- whose hands were killed in this hand: none where it opens, and one more with each `dead` that is taken
unfoldable pub dead_after : List Bool → ℕ → Act → List Bool
dead_after dead code a =
    pick (both (eqb code taken) (eqb a.kind kind_hand)) (replicate 10 false)
    (pick (both (eqb code taken) (eqb a.kind kind_dead)) (marked_at dead a.seat) dead)

-- what was paid last, until the next hand opens
unfoldable pub paid_after : Payout → Payout → Bool → Payout
paid_after old paid opened = pick paid.settled paid (pick opened no_payout old)

-- the open hand's board, or that of the hand that was settled last
unfoldable pub board_after : Board → Board → Bool → Board
board_after old new opened = pick opened new old

-- after a block that was judged
unfoldable pub told_after : Told → Block → Judged → Told
told_after o b j = record {
  n = j.n;
  code = j.code;
  board = board_after o.board j.table.board j.table.play.opened;
  paid = paid_after o.paid j.payout j.table.play.opened;
  dead = dead_after o.dead j.code (said_of b);
}

-- before the first entry; the code is the sheet's
abbrev pub told_start : ℕ → Told
told_start code = record { n = 0; code = code; board = no_board; paid = no_payout; dead = replicate 10 false }
