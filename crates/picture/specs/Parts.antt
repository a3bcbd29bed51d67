-- The picture of a part of the input: what its bytes draw one by one, and what is kept after them; and an input that comes in parts. Assumes nothing.
use Rattle.std.specs.Prelude.{ℕ, ◌-◌, ◌≤◌, ◌≡◌, List, [], ◌∷◌, ◌++◌, Bool, take, drop}
pub use Rattle.laws.specs.Lists.{whole}
use Rattle.writing.specs.AnswerSheet.{Wrote}
use Rattle.picture.specs.declared.Screen.{Screen}
use Rattle.picture.specs.declared.Drawn.{Drawn}
use Rattle.picture.specs.Screen.{Kept, Step, state_of, step_of}

abbrev pub still : Kept → Step
still k = record { after = k; drawn = [] }

abbrev pub and_then : Step → Step → Step
and_then x y = record { after = y.after; drawn = x.drawn ++ y.drawn }

-- byte by byte
abbrev pub drawn_of : Bool → Kept → List ℕ → Step
drawn_of colour k [] = still k
drawn_of colour k (b ∷ bs) = and_then (step_of colour k b) (drawn_of colour (step_of colour k b).after bs)

-- part after part
abbrev pub parts_drawn : Bool → Kept → List (List ℕ) → Step
parts_drawn colour k [] = still k
parts_drawn colour k (p ∷ ps) = and_then (drawn_of colour k p) (parts_drawn colour (drawn_of colour k p).after ps)

-- what the bytes of a part that are used up draw
abbrev pub drawn_by : Bool → Screen → List ℕ → List ℕ → ℕ → Step
drawn_by colour s buf part used = drawn_of colour (state_of s buf) (take used part)

-- the promise of a call: with the bytes that it used up it has drawn what they draw one by one, at the front of the sheet
pub record DrawnOn (colour : Bool) (s : Screen) (buf part out buf2 out2 : List ℕ) (r : Drawn) : Type 0 where
  pub wrote : Wrote (drawn_by colour s buf part r.used).drawn out out2 r.written
  pub state : state_of r.screen buf2 ≡ (drawn_by colour s buf part r.used).after

-- the screen that had drawn a part up to one place has drawn it up to another
abbrev pub DrawnTo : Bool → Screen → List ℕ → List ℕ → ℕ → Screen → List ℕ → ℕ → Type 0
DrawnTo colour s buf part from d buf2 to = (from ≤ to) × (state_of d buf2 ≡ (drawn_by colour s buf (drop from part) (to - from)).after)
