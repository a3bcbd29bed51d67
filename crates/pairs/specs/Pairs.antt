-- Request No. 7, the program `pair`: what is answered to each piece of the input, oldest first; the whole output; and the input however it is chopped. Assumes nothing.
use Rattle.std.specs.Prelude.{ℕ, ◌-◌, ◌≤◌, ◌≡◌, Bool, List, [], ◌∷◌, ◌++◌, take, drop, ltb, leb}
use Rattle.laws.specs.Tests.{pick, both}
use Rattle.text.specs.Line.{line_number}
use Rattle.text.specs.TableSheet.{sheet_of}
use Rattle.table.specs.declared.table.Table.{Table}
use Rattle.lines.specs.Kept.{kept_in}
use Rattle.shared.specs.Shared.{judged_at, settled_at, bytes_at}
use Rattle.frames.specs.declared.Due.{Due}
use Rattle.frames.specs.declared.Frame.{Frame}
use Rattle.frames.specs.declared.Heard.{Heard}
use Rattle.frames.specs.Frames.{is_pool, in_opening, Piece, Whole, Cut, OfNone, Missing, piece_of, end_what, pieces_of, Framed, onward}
use Rattle.couple.specs.declared.Pair.{Pair}
use Rattle.couple.specs.Couple.{is_second, table_at, with_table, start_of, house_with, shown_bytes, last_bytes, Given, still, stray_done, refused, pool_key, pool_done, sheet_done, room_most, Gave}
use Rattle.pairs.specs.declared.Fed.{Fed}

-- ---- piece by piece

-- the table that is due answers these lines; the pool and the house get what it drops
abbrev pub answered : ℕ → Pair → Due → List ℕ → Given
answered only p due lines =
    let t : Table = table_at p.tables (is_second due) in
    let j = judged_at t lines in
    let s = settled_at t p.pool j in
    record {
      pair = record { shut = p.shut; tables = with_table p.tables (is_second due) j.table; pool = s.pool; house = house_with p.house s.house };
      bytes = shown_bytes only due (bytes_at t p.pool lines);
    }

-- a block that is cut short is no block of five lines, whatever its lines are: code 1
abbrev pub cut_lines : List ℕ
cut_lines = 10 ∷ []

unfoldable pub whole_done : ℕ → Pair → Due → List ℕ → Given
whole_done only p due lines =
    pick (is_pool due) (pool_done p (line_number pool_key lines))
    (pick (in_opening due) (sheet_done p due (sheet_of lines)) (answered only p due lines))

abbrev pub piece_done : ℕ → Pair → Piece → Given
piece_done only p (Whole due lines) = whole_done only p due lines
piece_done only p (Cut due) = answered only p due cut_lines
piece_done only p OfNone = stray_done only p
piece_done only p Missing = refused p

-- behind a bad opening nothing is answered
unfoldable pub piece_in : ℕ → Pair → Piece → Given
piece_in only p x = pick p.shut (still p) (piece_done only p x)

abbrev pub ran : ℕ → Pair → List Piece → Given
ran only p [] = still p
ran only p (x ∷ xs) =
    record { pair = (ran only (piece_in only p x).pair xs).pair; bytes = (piece_in only p x).bytes ++ (ran only (piece_in only p x).pair xs).bytes }

-- the whole output
abbrev pub output_of : ℕ → List ℕ → List ℕ
output_of only input = let x = ran only start_of (pieces_of input) in x.bytes ++ last_bytes only x.pair

-- ---- in parts

-- what the bytes of a part that are used up are cut into
abbrev pub heard_of : Frame → List ℕ → List ℕ → ℕ → Framed
heard_of f buf part used = onward f.due (kept_in f.fill buf) (take used part)

-- what a call of `hear` says and leaves in the buffer, as what bytes lead to
abbrev pub said_of : Heard → List ℕ → Framed
said_of h buf = record { due = h.frame.due; kept = kept_in h.frame.fill buf; pieces = piece_of h.what h.of (take h.count buf) }

-- the promise of a call
pub record FedOn (only : ℕ) (p : Pair) (f : Frame) (buf part out buf2 out2 : List ℕ) (r : Fed) : Type 0 where
  pub due : r.frame.due ≡ (heard_of f buf part r.used).due
  pub kept : kept_in r.frame.fill buf2 ≡ (heard_of f buf part r.used).kept
  pub gave : Gave (ran only p (heard_of f buf part r.used).pieces) out out2 r.pair r.written

-- with room for any answer at each call: the pair that had heard a part up to one place has heard it up to another, and has taken all that it made whole there
abbrev pub HeardTo : ℕ → Pair → Frame → List ℕ → List ℕ → ℕ → Pair → Frame → List ℕ → ℕ → Type 0
HeardTo only p f buf part from q g buf2 to =
    (from ≤ to)
    × (g.due ≡ (heard_of f buf (drop from part) (to - from)).due)
    × (kept_in g.fill buf2 ≡ (heard_of f buf (drop from part) (to - from)).kept)
    × (q ≡ (ran only p (heard_of f buf (drop from part) (to - from)).pieces).pair)

-- bytes of the part are left, and there is room
abbrev pub goes_on : ℕ → ℕ → ℕ → Bool
goes_on used size room = both (ltb used size) (leb room_most room)

-- at the end of the input, with so many bytes kept of what is due
unfoldable pub close_bytes : ℕ → Pair → Due → ℕ → List ℕ
close_bytes only p due count =
    let x : Given = ran only p (piece_of (end_what due count) due []) in
    x.bytes ++ last_bytes only x.pair
