-- Bytes one by one: those of two lists one behind the other do what the whole does, and what is gathered of a part, for the sheet and for a block alike, is what its
-- bytes do. For any state and any bytes. Assumes nothing.
use Prim.Native.Nat.{ℕ, ◌≤◌, ◌<◌}
use mathlib.Core.Bool.{Bool, true, false}
use mathlib.Core.Path.{◌≡◌, refl, sym, ap, subst, ◌∙◌}
use mathlib.Core.List.{List, [], ◌∷◌, ◌++◌, append_assoc, append-nil}
use mathlib.Core.Logic.{⊎_elim}
use native.Mathlib.Omega.{arith}
use lib.ListN.{take}
use lib.Dec.{leb}
use borrow.Author.Tests.{leb-true, leb-false}
use Rattle.laws.specs.Tests.{pick}
use Rattle.laws.proofs.Tests.{test}
use Rattle.lines.specs.Kept.{Kept, keep_of, Gathered, gather_of}
use Rattle.lines.proofs.Gathers.{gather_ends, gather_goes}
use Rattle.copier.specs.Onward.{State, Shut, Given, still, and_then, lines_done, wanted, is_shut, byte_of, onward}

-- ---- one after another
pub then_nothing : (x : Given) → and_then x (still x.state x.kept) ≡ x
then_nothing x =
    ap (λ (l : List ℕ). record { state = x.state; kept = x.kept; copy = l; notes = x.notes ++ [] }) (append-nil x.copy)
    ∙ ap (λ (l : List ℕ). record { state = x.state; kept = x.kept; copy = x.copy; notes = l }) (append-nil x.notes)

pub then_assoc : (x y z : Given) → and_then (and_then x y) z ≡ and_then x (and_then y z)
then_assoc x y z =
    ap (λ (l : List ℕ). record { state = z.state; kept = z.kept; copy = l; notes = x.notes ++ y.notes ++ z.notes }) (append_assoc x.copy y.copy z.copy)
    ∙ ap (λ (l : List ℕ). record { state = z.state; kept = z.kept; copy = x.copy ++ (y.copy ++ z.copy); notes = l }) (append_assoc x.notes y.notes z.notes)

-- from what bytes led to
abbrev pub further : Given → List ℕ → Given
further x bs = and_then x (onward x.state x.kept bs)

pub onward_append : (s : State) (k : Kept) (xs ys : List ℕ) → onward s k (xs ++ ys) ≡ further (onward s k xs) ys
onward_append s k [] ys = refl
onward_append s k (b ∷ xs) ys =
    let x : Given = byte_of s k b in
    ap (and_then x) (onward_append x.state x.kept xs ys)
    ∙ sym (then_assoc x (onward x.state x.kept xs) (onward (onward x.state x.kept xs).state (onward x.state x.kept xs).kept ys))

-- ---- one byte

byte_shut : (k : Kept) (b : ℕ) → byte_of Shut k b ≡ still Shut k
unfolding byte_of
byte_shut k b = refl

-- behind a bad sheet nothing is read
pub shut_onward : (k : Kept) (bs : List ℕ) → onward Shut k bs ≡ still Shut k
shut_onward k [] = refl
shut_onward k (b ∷ bs) =
    ap (λ (x : Given). further x bs) (byte_shut k b) ∙ shut_onward k bs

module _ (s : State) (k : Kept) (b : ℕ) (o : is_shut s ≡ false) where
  pub byte_ends : leb (wanted s) (keep_of k b).lines ≡ true → byte_of s k b ≡ lines_done s (keep_of k b).bytes
  unfolding byte_of
  byte_ends e =
      ap (λ (x : Bool). pick x (still s k) (pick (leb (wanted s) (keep_of k b).lines) (lines_done s (keep_of k b).bytes) (still s (keep_of k b)))) o
      ∙ ap (λ (x : Bool). pick x (lines_done s (keep_of k b).bytes) (still s (keep_of k b))) e

  pub byte_goes : leb (wanted s) (keep_of k b).lines ≡ false → byte_of s k b ≡ still s (keep_of k b)
  unfolding byte_of
  byte_goes e =
      ap (λ (x : Bool). pick x (still s k) (pick (leb (wanted s) (keep_of k b).lines) (lines_done s (keep_of k b).bytes) (still s (keep_of k b)))) o
      ∙ ap (λ (x : Bool). pick x (lines_done s (keep_of k b).bytes) (still s (keep_of k b))) e

  pub onward_goes : (bs : List ℕ) → leb (wanted s) (keep_of k b).lines ≡ false → onward s k (b ∷ bs) ≡ onward s (keep_of k b) bs
  onward_goes bs e = ap (λ (x : Given). further x bs) (byte_goes e)

-- ---- what is gathered

module _ (s : State) (o : is_shut s ≡ false) where
  abbrev gathered : Kept → List ℕ → Gathered
  gathered k part = gather_of (wanted s) k part

  -- a part that ends no lines is kept
  pub kept_onward : (k : Kept) (part : List ℕ) → (gathered k part).kept.lines < wanted s
      → onward s k (take (gathered k part).used part) ≡ still s (gathered k part).kept
  kept_onward k [] h = refl
  kept_onward k (b ∷ bs) h = ⊎_elim
      (λ e. absurd (omega (arith, leb-true (wanted s) (keep_of k b).lines e, subst (λ (g : Gathered). g.kept.lines < wanted s) (gather_ends (wanted s) k b bs e) h)))
      (λ e.
      let q = gather_goes (wanted s) k b bs e in
      subst (λ (g : Gathered). onward s k (take g.used (b ∷ bs)) ≡ still s g.kept) (sym q)
      (onward_goes s k b o (take (gathered (keep_of k b) bs).used bs) e
      ∙ kept_onward (keep_of k b) bs (subst (λ (g : Gathered). g.kept.lines < wanted s) q h)))
      (test (leb (wanted s) (keep_of k b).lines))

  -- one that ends them has them done
  pub ends_onward : (k : Kept) (part : List ℕ) → k.lines < wanted s → wanted s ≤ (gathered k part).kept.lines
      → onward s k (take (gathered k part).used part) ≡ lines_done s (gathered k part).kept.bytes
  ends_onward k [] l h = absurd (omega arith)
  ends_onward k (b ∷ bs) l h = ⊎_elim
      (λ e.
      subst (λ (g : Gathered). onward s k (take g.used (b ∷ bs)) ≡ lines_done s g.kept.bytes) (sym (gather_ends (wanted s) k b bs e))
      (then_nothing (byte_of s k b) ∙ byte_ends s k b o e))
      (λ e.
      let q = gather_goes (wanted s) k b bs e in
      subst (λ (g : Gathered). onward s k (take g.used (b ∷ bs)) ≡ lines_done s g.kept.bytes) (sym q)
      (onward_goes s k b o (take (gathered (keep_of k b) bs).used bs) e
      ∙ ends_onward (keep_of k b) bs (leb-false (wanted s) (keep_of k b).lines e) (subst (λ (g : Gathered). wanted s ≤ g.kept.lines) q h)))
      (test (leb (wanted s) (keep_of k b).lines))
