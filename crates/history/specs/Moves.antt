-- Demand 3, what one taken entry changes of the two facts, and so of the heights and the pots. All is read from the notebook; no table is looked at.
-- Lists of entries have the newest first. Assumes nothing.
use Rattle.std.specs.Prelude.{ℕ, ◌≤◌, ◌<◌, ◌≡◌, List, ◌∷◌, ◌⊎◌}
use Rattle.paper.specs.declared.Sheet.{Sheet}
use Rattle.paper.specs.declared.Entry.{Entry}
use Rattle.paper.specs.declared.Entry.TheVariants.{Sit, Leave, Hand, Hole, Fold, Check, Call, Wager, Board, Dead, Settle, Void}
use Rattle.pots.specs.Heights.{chips_at, contest}
use Rattle.history.specs.History.{put_in, live_in, puts, lives}
use Rattle.history.specs.Notebook.{notebook, pots_by, back_by}

-- at height h lie as many chips as before, and the same sittings contend for it
pub record SameHeight (sheet : Sheet) (es after : List Entry) (h : ℕ) : Type 0 where
  pub chips : chips_at (puts sheet after) h ≡ chips_at (puts sheet es) h
  pub contest : contest (puts sheet after) (lives sheet after) h ≡ contest (puts sheet es) (lives sheet es) h

-- the sitter of seat x
abbrev pub sitter : Sheet → List Entry → ℕ → ℕ
sitter sheet es x = (notebook sheet es).people.sits x

-- "a call or wager lifting one total from a to b changes no height outside a+1 to b": the total of seat x's sitter rises, no other does, and no hand is given up
pub record Lifts (sheet : Sheet) (es : List Entry) (e : Entry) (x : ℕ) : Type 0 where
  pub up : put_in sheet es (sitter sheet es x) ≤ put_in sheet (e ∷ es) (sitter sheet es x)
  pub others : (s : ℕ) → (sitter sheet es x ≡ s → ⊥) → put_in sheet (e ∷ es) s ≡ put_in sheet es s
  pub live : (s : ℕ) → live_in sheet (e ∷ es) s ≡ live_in sheet es s
  pub outside : (h : ℕ) → (h ≤ put_in sheet es (sitter sheet es x)) ⊎ (put_in sheet (e ∷ es) (sitter sheet es x) < h) → SameHeight sheet es (e ∷ es) h

-- "a fold or dead hand moves no chip": every sitting has put in what it had, and has before it what it had
pub record SameChips (sheet : Sheet) (es : List Entry) (e : Entry) : Type 0 where
  pub put : (s : ℕ) → put_in sheet (e ∷ es) s ≡ put_in sheet es s
  pub stack : (s : ℕ) → (notebook sheet (e ∷ es)).people.stack s ≡ (notebook sheet es).people.stack s

-- "sitting or leaving changes no pot": the two facts of every sitting are those before, and so are pots, contenders too, and returned chips
pub record SameHand (sheet : Sheet) (es : List Entry) (e : Entry) : Type 0 where
  pub put : (s : ℕ) → put_in sheet (e ∷ es) s ≡ put_in sheet es s
  pub live : (s : ℕ) → live_in sheet (e ∷ es) s ≡ live_in sheet es s
  pub pots : pots_by (notebook sheet (e ∷ es)) ≡ pots_by (notebook sheet es)
  pub back : back_by (notebook sheet (e ∷ es)) ≡ back_by (notebook sheet es)

-- demand 3's sentence about one taken entry: of `hand` and `settle` it has none
abbrev pub Moves : Sheet → List Entry → Entry → Type 0
Moves sheet es (Sit x a) = SameHand sheet es (Sit x a)
Moves sheet es (Leave x) = SameHand sheet es (Leave x)
Moves sheet es (Hand p) = Unit {0}
Moves sheet es (Hole x a b) = SameChips sheet es (Hole x a b)
Moves sheet es (Fold x) = SameChips sheet es (Fold x)
Moves sheet es (Check x) = SameChips sheet es (Check x)
Moves sheet es (Call x) = Lifts sheet es (Call x) x
Moves sheet es (Wager x a) = Lifts sheet es (Wager x a) x
Moves sheet es (Board k) = SameChips sheet es (Board k)
Moves sheet es (Dead x) = SameChips sheet es (Dead x)
Moves sheet es Settle = Unit {0}
Moves sheet es Void = Unit {0}
