-- The code, the next table and the payout of any entry: document 01's table of refusals, in its order.
-- Assumes nothing.
use Rattle.std.specs.Prelude.{ℕ, ◌+◌, ◌≤◌, false, not, eqb, replicate}
use Rattle.paper.specs.Paper.{taken, out_of_range, not_next, wrong_moment, when, or_else, in_range}
use Rattle.paper.specs.declared.Sheet.{Sheet}
use Rattle.paper.specs.declared.Entry.{Entry}
use Rattle.paper.specs.declared.Entry.TheVariants.{Sit, Leave, Hand, Hole, Fold, Check, Call, Wager, Board, Dead, Settle, Void}
use Rattle.chairs.specs.Chairs.{no_chair, Numbered}
use Rattle.laws.specs.Lists.{All}
use Rattle.table.specs.State.{with_taken, no_board}
use Rattle.table.specs.Betting.{turn_code, check_code, call_code, wager_code, dead_code, folded_to, checked_to, called_to, wagered_to, dead_to}
use Rattle.table.specs.Sittings.{sit_code, leave_code, sat_to, left_to}
use Rattle.table.specs.Opening.{hand_code, opened_to}
use Rattle.table.specs.Dealing.{hole_code, board_code, held_to, boarded_to}
use Rattle.laws.specs.Tests.{pick}
use Rattle.table.specs.Settle.{Payable, settle_code, settled_to, payout_now, no_payout}
use Rattle.table.specs.Standing.{Standing}
use Rattle.table.specs.declared.table.Table.{Table}
use Rattle.table.specs.declared.table.Payout.{Payout}
use Rattle.table.specs.declared.table.Taken.{Taken}

-- what every table keeps: `new_table` establishes it and `take` keeps it
pub record Sound (t : Table) : Type 0 where
  pub payable : Payable t
  pub sittings : t.sittings ≤ t.taken
  pub taken : t.taken ≤ 1000000
  pub mark : t.play.mark ≤ 100000000
  pub turn : t.play.turn ≤ 10
  pub numbered : All (Numbered t.sittings) t.chairs
  pub standing : Standing t

-- the code that the table's state gives an entry
abbrev pub kind_code : Table → Entry → ℕ
kind_code t (Sit s a) = sit_code t s a
kind_code t (Leave s) = leave_code t s
kind_code t (Hand s) = hand_code t s
kind_code t (Hole s a b) = hole_code t s a b
kind_code t (Fold s) = turn_code t s
kind_code t (Check s) = check_code t s
kind_code t (Call s) = call_code t s
kind_code t (Wager s a) = wager_code t s a
kind_code t (Board k) = board_code t k
kind_code t (Dead s) = dead_code t s
kind_code t Settle = settle_code t
kind_code t Void = wrong_moment

-- the table after an entry that is taken
abbrev pub applied_to : Table → Entry → Table
applied_to t (Sit s a) = sat_to t s a
applied_to t (Leave s) = left_to t s
applied_to t (Hand s) = opened_to t s
applied_to t (Hole s a b) = held_to t s a b
applied_to t (Fold s) = folded_to t s
applied_to t (Check s) = checked_to t s
applied_to t (Call s) = called_to t s
applied_to t (Wager s a) = wagered_to t s a
applied_to t (Board k) = boarded_to t k
applied_to t (Dead s) = dead_to t s
applied_to t Settle = settled_to t
applied_to t Void = t

-- what an entry that is taken pays: a settle alone pays
abbrev pub payout_by : Table → Entry → Payout
payout_by t (Sit s a) = no_payout
payout_by t (Leave s) = no_payout
payout_by t (Hand s) = no_payout
payout_by t (Hole s a b) = no_payout
payout_by t (Fold s) = no_payout
payout_by t (Check s) = no_payout
payout_by t (Call s) = no_payout
payout_by t (Wager s a) = no_payout
payout_by t (Board k) = no_payout
payout_by t (Dead s) = no_payout
payout_by t Settle = payout_now t
payout_by t Void = no_payout

-- what the table's state gives an entry that is in its ranges and the next
unfoldable pub kind_taken : Table → Entry → Taken
kind_taken t e =
    record {
      code = kind_code t e;
      table = pick (eqb (kind_code t e) taken) (applied_to t e) t;
      payout = pick (eqb (kind_code t e) taken) (payout_by t e) no_payout;
    }

-- 2: a number outside its range, a seat above `seats`; 3: n is not the next; 4 to 10 by the table's state
unfoldable pub code_of : Table → ℕ → Entry → ℕ
code_of t n e = or_else (when (not (in_range t.sheet n e)) out_of_range) (or_else (when (not (eqb (t.taken + 1) n)) not_next) (kind_code t e))

-- after a refusal the table and the count of taken entries equal those before
unfoldable pub next_of : Table → ℕ → Entry → Table
next_of t n e = pick (eqb (code_of t n e) taken) (with_taken (applied_to t e) n) t

unfoldable pub payout_of : Table → ℕ → Entry → Payout
payout_of t n e = pick (eqb (code_of t n e) taken) (payout_by t e) no_payout

-- what an entry gets: its code, the next table, and what is paid
unfoldable pub taken_of : Table → ℕ → Entry → Taken
taken_of t n e = record { code = code_of t n e; table = next_of t n e; payout = payout_of t n e }

-- a table with nobody seated, and no entry taken
abbrev pub fresh_table : Sheet → Table
fresh_table sheet = record {
  sheet = sheet;
  taken = 0;
  sittings = 0;
  play = record { opened = false; puck = 0; mark = 0; lift = 0; turn = 0 };
  board = no_board;
  chairs = replicate 10 no_chair;
}
