-- The table's state: what changes together, and the chair of a seat. (Records have no update, so each group has one definition.) Assumes nothing.
use Rattle.std.specs.Prelude.{ℕ, ◌+◌, List, set, replicate}
use Rattle.chairs.specs.Chairs.{chair_at, put_at}
use Rattle.chairs.specs.declared.Chair.{Chair}
use Rattle.table.specs.declared.table.Play.{Play}
use Rattle.table.specs.declared.table.Board.{Board}
use Rattle.table.specs.declared.table.Table.{Table}

-- a table with other chairs, another play, another board, another count of sittings or of entries taken
abbrev pub with_chairs : Table → List Chair → Table
with_chairs t cs = record { sheet = t.sheet; taken = t.taken; sittings = t.sittings; play = t.play; board = t.board; chairs = cs }

abbrev pub with_play : Table → Play → Table
with_play t p = record { sheet = t.sheet; taken = t.taken; sittings = t.sittings; play = p; board = t.board; chairs = t.chairs }

abbrev pub with_board : Table → Board → Table
with_board t b = record { sheet = t.sheet; taken = t.taken; sittings = t.sittings; play = t.play; board = b; chairs = t.chairs }

abbrev pub with_sitting : Table → ℕ → Table
with_sitting t k = record { sheet = t.sheet; taken = t.taken; sittings = k; play = t.play; board = t.board; chairs = t.chairs }

abbrev pub with_taken : Table → ℕ → Table
with_taken t k = record { sheet = t.sheet; taken = k; sittings = t.sittings; play = t.play; board = t.board; chairs = t.chairs }

-- with the turn at a seat; with another mark and lift
abbrev pub with_turn : Table → ℕ → Table
with_turn t s = with_play t (record { opened = t.play.opened; puck = t.play.puck; mark = t.play.mark; lift = t.play.lift; turn = s })

abbrev pub with_mark : Table → ℕ → ℕ → Table
with_mark t m l = with_play t (record { opened = t.play.opened; puck = t.play.puck; mark = m; lift = l; turn = t.play.turn })

-- the chair of a seat, and the table with another chair there
abbrev pub seat_of : Table → ℕ → Chair
seat_of t s = chair_at t.chairs s

abbrev pub with_chair : Table → ℕ → Chair → Table
with_chair t s c = with_chairs t (put_at t.chairs s c)

-- no card on the board, and one card more
abbrev pub no_board : Board
no_board = record { count = 0; cards = replicate 5 0 }

abbrev pub card_added : Board → ℕ → Board
card_added b k = record { count = b.count + 1; cards = set b.cards b.count k }

abbrev pub with_card : Table → ℕ → Table
with_card t k = with_board t (card_added t.board k)
