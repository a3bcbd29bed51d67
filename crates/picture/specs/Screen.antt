-- The screen takes an answer byte by byte and draws each line as its LF comes; what it keeps has a bound.
use Rattle.std.specs.Prelude.{ℕ, ◌+◌, ◌≤◌, List, [], ◌∷◌, ◌++◌, Bool, true, false, length, take, eqb, ltb}
use Rattle.laws.specs.Tests.{pick}
use Rattle.figures.specs.ScreenRow.{kind_none, half_row, counted_of}
use Rattle.picture.specs.Rows.{line_drawn, foreign_row}
use Rattle.picture.specs.Lines.{line_kinds, answer_line, no_line}
use Rattle.picture.specs.declared.Line.{Line}
use Rattle.picture.specs.declared.Screen.{Screen}

-- how many bytes of an unfinished line are kept, and the buffer that they and their LF lie in
abbrev pub line_most : ℕ
line_most = 40

abbrev pub line_room : ℕ
line_room = line_most + 1

-- no byte draws more bytes than this, and the end of the input no more than that
abbrev pub drawn_most : ℕ
drawn_most = 400

abbrev pub close_most : ℕ
close_most = 60

-- what is kept between two bytes: the unfinished line, whether bytes of it were shown already, the kind of the line before, and how many pots were
-- shown in a row
pub record Kept : Type 0 where
  pub line : List ℕ
  pub long : Bool
  pub last : ℕ
  pub pots : ℕ

abbrev pub state_of : Screen → List ℕ → Kept
state_of s buf = record { line = take s.count buf; long = s.long; last = s.last; pots = s.pots }

-- before the first byte
abbrev pub start_of : Screen
start_of = record { count = 0; long = false; last = kind_none; pots = 0 }

abbrev pub fresh : Kept
fresh = record { line = []; long = false; last = kind_none; pots = 0 }

-- an unfinished line is kept up to its bound
pub record Held (s : Screen) : Type 0 where
  pub count : s.count ≤ line_most
  pub last : s.last ≤ line_kinds
  pub pots : s.pots ≤ 999_999_999

-- what an ended line (with its LF) says: one that was shown in part says nothing
unfoldable pub said_of : Bool → List ℕ → Line
said_of long bs = pick long no_line (answer_line bs)

-- its picture
unfoldable pub shown_of : Bool → ℕ → Bool → ℕ → Line → List ℕ → List ℕ
shown_of colour last long pots l bs =
    pick (ltb l.kind kind_none) (line_drawn colour last pots l.kind l.value) (foreign_row last long bs)

-- what is kept after a line that said l
abbrev pub after_line : ℕ → Line → Kept
after_line pots l = record { line = []; long = false; last = l.kind; pots = counted_of pots l.kind }

pub record Step : Type 0 where
  pub after : Kept
  pub drawn : List ℕ

-- one byte more: an LF ends the line; of a line that has as many bytes as are kept these are shown behind the mark, and the rest of it is kept on
unfoldable pub step_of : Bool → Kept → ℕ → Step
step_of colour k b =
    pick (eqb b 10)
    (record {
      after = after_line k.pots (said_of k.long (k.line ++ (10 ∷ [])));
      drawn = shown_of colour k.last k.long k.pots (said_of k.long (k.line ++ (10 ∷ []))) k.line;
    })
    (pick (ltb (length k.line) line_most)
    (record { after = record { line = k.line ++ (b ∷ []); long = k.long; last = k.last; pots = k.pots }; drawn = [] })
    (record {
      after = record { line = b ∷ []; long = true; last = kind_none; pots = 0 };
      drawn = foreign_row k.last k.long k.line;
    }))

-- at the end of the input: a line without its LF is no answer line, and a half row ends
unfoldable pub close_of : Kept → List ℕ
close_of k = pick (eqb (length k.line) 0) (pick (half_row k.last) (10 ∷ []) []) (foreign_row k.last k.long k.line)

-- the picture of a whole input
abbrev pub picture_from : Bool → Kept → List ℕ → List ℕ
picture_from colour k [] = close_of k
picture_from colour k (b ∷ bs) = (step_of colour k b).drawn ++ picture_from colour (step_of colour k b).after bs

abbrev pub picture_of : Bool → List ℕ → List ℕ
picture_of colour bs = picture_from colour fresh bs
