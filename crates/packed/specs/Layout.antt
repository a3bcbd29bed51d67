-- Issue 35: "the clerk packed into bytes and back .. so that a maker keeps one array". First 18 words, each in four bytes with the low one first, and ten single
-- bytes; behind them each chair, five words and eight single bytes. A bool is 1 or 0. Assumes nothing.
use Rattle.std.specs.Prelude.{ℕ, zero, suc, Bool, not, List, [], ◌∷◌, ◌++◌, get_or, drop, eqb}
use Rattle.laws.specs.Tests.{one}
use Rattle.records.specs.Bytes.{word_bytes, word_at}
use Rattle.paper.specs.declared.Sheet.{Sheet}
use Rattle.chairs.specs.declared.Dealt.{Dealt}
use Rattle.chairs.specs.declared.Chair.{Chair}
use Rattle.table.specs.declared.table.Play.{Play}
use Rattle.table.specs.declared.table.Board.{Board}
use Rattle.table.specs.declared.table.Table.{Table}
use Rattle.lines.specs.declared.Fill.{Fill}
use Rattle.stream.specs.declared.Clerk.{Clerk}

-- the bytes of each, one behind the other
abbrev pub each : {A : Type 0} → (A → List ℕ) → List A → List ℕ
each f [] = []
each f (x ∷ xs) = f x ++ each f xs

abbrev pub words_bytes : List ℕ → List ℕ
words_bytes ws = each word_bytes ws

-- a single byte as a bool
abbrev pub is_set : ℕ → Bool
is_set x = not (eqb x 0)

-- the cards of an array, one by one
abbrev pub cards_four : List ℕ → List ℕ
cards_four k = get_or k 0 0 ∷ get_or k 1 0 ∷ get_or k 2 0 ∷ get_or k 3 0 ∷ []

abbrev pub cards_five : List ℕ → List ℕ
cards_five k = get_or k 0 0 ∷ get_or k 1 0 ∷ get_or k 2 0 ∷ get_or k 3 0 ∷ get_or k 4 0 ∷ []

-- ---- a chair: 28 bytes

abbrev pub chair_words : Chair → List ℕ
chair_words c = c.sitting ∷ c.stack ∷ c.dealt.sitting ∷ c.dealt.total ∷ c.dealt.start ∷ []

abbrev pub chair_singles : Dealt → ℕ → List ℕ → List ℕ
chair_singles d count cards = one d.live ∷ one d.acted ∷ one d.spent ∷ count ∷ cards_four cards

abbrev pub chair_bytes : Chair → List ℕ
chair_bytes c = words_bytes (chair_words c) ++ chair_singles c.dealt c.hole.count c.hole.cards

abbrev pub chairs_bytes : List Chair → List ℕ
chairs_bytes cs = each chair_bytes cs

-- the chair at the front of some bytes
abbrev pub chair_in : List ℕ → Chair
chair_in b = record {
  sitting = word_at b 0;
  stack = word_at b 4;
  dealt = record {
    sitting = word_at b 8;
    total = word_at b 12;
    start = word_at b 16;
    live = is_set (get_or b 20 0);
    acted = is_set (get_or b 21 0);
    spent = is_set (get_or b 22 0);
  };
  hole = record { count = get_or b 23 0; cards = get_or b 24 0 ∷ get_or b 25 0 ∷ get_or b 26 0 ∷ get_or b 27 0 ∷ [] };
}

-- so many chairs, each behind the last
unfoldable pub chairs_in : ℕ → List ℕ → List Chair
chairs_in zero b = []
chairs_in (suc n) b = chair_in b ∷ chairs_in n (drop 28 b)

-- ---- what is no chair's: 82 bytes

abbrev pub head_words : Table → Fill → List ℕ
head_words t m =
    t.sheet.seats ∷ t.sheet.small ∷ t.sheet.big ∷ t.sheet.rate ∷ t.sheet.cap ∷ t.sheet.step ∷ t.sheet.game ∷ t.sheet.deck ∷ t.sheet.drop
    ∷ t.taken ∷ t.sittings ∷ t.play.puck ∷ t.play.mark ∷ t.play.lift ∷ t.play.turn ∷ m.count ∷ m.lines ∷ m.width ∷ []

abbrev pub head_singles : Clerk → ℕ → List ℕ → List ℕ
head_singles c count cards = one c.opened ∷ one c.shut ∷ one c.table.play.opened ∷ one c.fill.bad ∷ count ∷ cards_five cards

abbrev pub head_bytes : Clerk → List ℕ
head_bytes c = words_bytes (head_words c.table c.fill) ++ head_singles c c.table.board.count c.table.board.cards

abbrev pub sheet_in : List ℕ → Sheet
sheet_in b = record {
  seats = word_at b 0;
  small = word_at b 4;
  big = word_at b 8;
  rate = word_at b 12;
  cap = word_at b 16;
  step = word_at b 20;
  game = word_at b 24;
  deck = word_at b 28;
  drop = word_at b 32;
}

abbrev pub play_in : List ℕ → Play
play_in b = record { opened = is_set (get_or b 74 0); puck = word_at b 44; mark = word_at b 48; lift = word_at b 52; turn = word_at b 56 }

abbrev pub board_in : List ℕ → Board
board_in b = record { count = get_or b 76 0; cards = get_or b 77 0 ∷ get_or b 78 0 ∷ get_or b 79 0 ∷ get_or b 80 0 ∷ get_or b 81 0 ∷ [] }

abbrev pub fill_in : List ℕ → Fill
fill_in b = record { count = word_at b 60; lines = word_at b 64; width = word_at b 68; bad = is_set (get_or b 75 0) }

-- ---- the clerk

-- 82 bytes, and 28 for each of ten chairs
abbrev pub fields_size : ℕ
fields_size = 362

unfoldable pub clerk_bytes : Clerk → List ℕ
clerk_bytes c = head_bytes c ++ chairs_bytes c.table.chairs

-- the clerk at the front of some bytes
unfoldable pub clerk_from : List ℕ → Clerk
clerk_from b = record {
  opened = is_set (get_or b 72 0);
  shut = is_set (get_or b 73 0);
  table = record {
    sheet = sheet_in b;
    taken = word_at b 36;
    sittings = word_at b 40;
    play = play_in b;
    board = board_in b;
    chairs = chairs_in 10 (drop 82 b);
  };
  fill = fill_in b;
}
