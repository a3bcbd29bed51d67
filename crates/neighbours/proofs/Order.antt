-- The pieces of a whole input stand in their order (`pieces_ordered`): the line `pool`, the sheet of table 1, that of table 2, then blocks of table 1 and of table 2 and lines
-- of no table; where the opening is not whole nothing is behind that. For any bytes. Assumes nothing.
use Prim.Native.Nat.{ℕ}
use mathlib.Core.Bool.{Bool, true, false, true≢false, false≢true}
use mathlib.Core.Path.{◌≡◌, refl, sym, ap, ap₂, subst, ◌∙◌}
use mathlib.Core.List.{List, [], ◌∷◌, ◌++◌, append_assoc}
use lib.ListN.{length, drop}
use lib.Dec.{eqb, ltb}
use Rattle.std.specs.Prelude.{Option, Some, None}
use Rattle.laws.specs.Tests.{pick, both}
use Rattle.lines.specs.Kept.{Kept, nothing, keep_of}
use Rattle.frames.specs.declared.Next.{Next}
use Rattle.frames.specs.declared.Made.TheVariants as made
use Rattle.frames.specs.declared.Which.{Which}
use Rattle.frames.specs.declared.Which.TheVariants.{First, Second}
use Rattle.frames.specs.declared.Due.{Due}
use Rattle.frames.specs.declared.Due.TheVariants.{Pool, Sheet, Table, Stray, Block}
use Rattle.frames.specs.Frames.{table_of, is_pool, in_opening, in_block, wanted, after_part, kept_next, line_next, end_what, Piece, Whole, Cut, OfNone, Missing, piece_of, Framed, still, line_start, line_done, last_line, byte_of, onward, pieces_of}

-- a block of table 1 or of table 2
abbrev pub of_table : Due → Bool
of_table due = in_block due

abbrev same_which : Which → Which → Bool
same_which First First = true
same_which First Second = false
same_which Second First = false
same_which Second Second = true

-- d is that part of the opening
abbrev is_sheet_of : Which → Due → Bool
is_sheet_of w Pool = false
is_sheet_of w (Sheet v) = same_which w v
is_sheet_of w Table = false
is_sheet_of w Stray = false
is_sheet_of w (Block v) = false

abbrev pub same_part : Due → Due → Bool
same_part d Pool = is_pool d
same_part d (Sheet w) = is_sheet_of w d
same_part d Table = false
same_part d Stray = false
same_part d (Block w) = false

-- what the next piece may be, while so much is due
abbrev pub is_due : Due → Piece → Bool
is_due due (Whole d lines) = pick (in_opening due) (same_part d due) (of_table d)
is_due due (Cut d) = pick (in_opening due) false (of_table d)
is_due due OfNone = pick (in_opening due) false true
is_due due Missing = in_opening due

abbrev pub behind : Due → Due
behind due = after_part due

abbrev pub in_order : Due → List Piece → Bool
in_order due [] = true
in_order due (x ∷ xs) = both (is_due due x) (in_order (behind due) xs)

same_sheet : (w v : Which) → same_which w v ≡ true → Sheet v ≡ Sheet w
same_sheet First First h = refl
same_sheet First Second h = absurd (false≢true h)
same_sheet Second First h = absurd (false≢true h)
same_sheet Second Second h = refl

pub same_is : (d due : Due) → same_part d due ≡ true → d ≡ due
same_is Pool Pool h = refl
same_is (Sheet v) Pool h = absurd (false≢true h)
same_is Table Pool h = absurd (false≢true h)
same_is Stray Pool h = absurd (false≢true h)
same_is (Block v) Pool h = absurd (false≢true h)
same_is Pool (Sheet w) h = absurd (false≢true h)
same_is (Sheet v) (Sheet w) h = same_sheet w v h
same_is Table (Sheet w) h = absurd (false≢true h)
same_is Stray (Sheet w) h = absurd (false≢true h)
same_is (Block v) (Sheet w) h = absurd (false≢true h)
same_is d Table h = absurd (false≢true h)
same_is d Stray h = absurd (false≢true h)
same_is d (Block w) h = absurd (false≢true h)

-- ---- behind the opening it is all one what is due

due_late : (due : Due) (x : Piece) → in_opening due ≡ false → is_due due x ≡ is_due Table x
due_late due (Whole d lines) h = ap (λ (z : Bool). pick z (same_part d due) (of_table d)) h
due_late due (Cut d) h = ap (λ (z : Bool). pick z false (of_table d)) h
due_late due OfNone h = ap (λ (z : Bool). pick z false true) h
due_late due Missing h = h

behind_late : (due : Due) → in_opening due ≡ false → behind due ≡ due
behind_late Pool h = absurd (true≢false h)
behind_late (Sheet w) h = absurd (true≢false h)
behind_late Table h = refl
behind_late Stray h = refl
behind_late (Block w) h = refl

late : (due : Due) (xs : List Piece) → in_opening due ≡ false → in_order due xs ≡ in_order Table xs
late due [] h = refl
late due (x ∷ xs) h = ap₂ both (due_late due x h) (ap (λ (d : Due). in_order d xs) (behind_late due h) ∙ late due xs h)

later : (due e : Due) (xs : List Piece) → in_opening due ≡ false → in_opening e ≡ false → in_order e xs ≡ true → in_order due xs ≡ true
later due e xs h i o = late due xs h ∙ sym (late e xs i) ∙ o

-- ---- one line

module _ (due : Due) (bytes : List ℕ) where
  -- what a line makes whole is due, and what is due then comes behind it
  abbrev Fits : Next → Type 0
  Fits x = (ys : List Piece) → in_order x.due ys ≡ true → in_order due (piece_of x.what due bytes ++ ys) ≡ true

  kept_fits : (lines : ℕ) (after : Due) → ((ys : List Piece) → in_order after ys ≡ true → in_order due (Whole due bytes ∷ ys) ≡ true) → Fits (kept_next due lines after)
  unfolding kept_next
  kept_fits lines after f = go (ltb lines (wanted due))
    where
      go : (z : Bool) → Fits (pick z (record { due = due; keeps = true; what = None }) (record { due = after; keeps = false; what = Some made.Whole }))
      go true = λ ys o. o
      go false = f

line_fits : (due : Due) (bytes : List ℕ) (lines : ℕ) (table : Option Which) → Fits due bytes (line_next due lines table)
line_fits Pool bytes lines table = kept_fits Pool bytes lines (Sheet First) (λ ys o. o)
line_fits (Sheet First) bytes lines table = kept_fits (Sheet First) bytes lines (Sheet Second) (λ ys o. o)
line_fits (Sheet Second) bytes lines table = kept_fits (Sheet Second) bytes lines Table (λ ys o. o)
line_fits Table bytes lines None = λ ys o. later Table Stray ys refl refl o
line_fits Table bytes lines (Some w) = λ ys o. later Table (Block w) ys refl refl o
line_fits Stray bytes lines None = λ ys o. o
line_fits Stray bytes lines (Some w) = λ ys o. later Stray (Block w) ys refl refl o
line_fits (Block v) bytes lines None = kept_fits (Block v) bytes lines Table (λ ys o. later (Block v) Table ys refl refl o)
line_fits (Block v) bytes lines (Some w) = λ ys o. later (Block v) (Block w) ys refl refl o

-- ---- byte after byte

abbrev Leads : Due → Framed → Type 0
Leads due r = (ys : List Piece) → in_order r.due ys ≡ true → in_order due (r.pieces ++ ys) ≡ true

byte_leads : (due : Due) (k : Kept) (b : ℕ) → Leads due (byte_of due k b)
unfolding byte_of
byte_leads due k b = go (ltb k.lines (keep_of k b).lines)
  where
    go : (z : Bool) → Leads due (pick z (line_done due (keep_of k b) (last_line due (keep_of k b) (line_start k))) (still due (keep_of k b)))
    go true = line_fits due (keep_of k b).bytes (keep_of k b).lines (table_of (drop (line_start k) (keep_of k b).bytes))
    go false = λ ys o. o

onward_leads : (due : Due) (k : Kept) (bs : List ℕ) → Leads due (onward due k bs)
onward_leads due k [] = λ ys o. o
onward_leads due k (b ∷ bs) =
    let x : Framed = byte_of due k b in
    let y : Framed = onward x.due x.kept bs in
    let s : Leads due x = byte_leads due k b in
    let r : Leads x.due y = onward_leads x.due x.kept bs in
    λ ys o. subst (λ (l : List Piece). in_order due l ≡ true) (sym (append_assoc x.pieces y.pieces ys)) (s (y.pieces ++ ys) (r ys o))

-- ---- the end

last_due : (due : Due) (count : ℕ) → in_order due (piece_of (end_what due count) due []) ≡ true
last_due Pool count = refl
last_due (Sheet w) count = refl
last_due Table count = go (eqb count 0)
  where
    go : (z : Bool) → in_order Table (piece_of (pick z None (Some made.OfNone)) Table []) ≡ true
    go true = refl
    go false = refl
last_due Stray count = refl
last_due (Block w) count = refl

pub pieces_ordered : (input : List ℕ) → in_order Pool (pieces_of input) ≡ true
pieces_ordered input =
    let x : Framed = onward Pool nothing input in
    onward_leads Pool nothing input (piece_of (end_what x.due (length x.kept.bytes)) x.due []) (last_due x.due (length x.kept.bytes))
