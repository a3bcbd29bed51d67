-- Bytes one by one: those of two lists one behind the other do what the whole does, and what is gathered of a part, for the sheet and for a block alike, is what its
-- bytes do. For any state, any bytes and any room. Assumes nothing.
use Prim.Native.Nat.{ℕ, ◌≤◌, ◌<◌}
use mathlib.Core.Bool.{Bool, true, false}
use mathlib.Core.Path.{◌≡◌, refl, sym, ap, subst, ◌∙◌}
use mathlib.Core.List.{List, [], ◌∷◌, ◌++◌, append_assoc, append-nil}
use mathlib.Core.Logic.{⊎_elim}
use native.Mathlib.Omega.{arith}
use lib.ListN.{take}
use lib.Dec.{leb}
use borrow.Author.Tests.{leb-true, leb-false}
use Rattle.laws.specs.Tests.{pick}
use Rattle.laws.proofs.Tests.{test}
use Rattle.lines.specs.Kept.{Kept, keep_of, Gathered, gather_of}
use Rattle.lines.proofs.Gathers.{gather_ends, gather_goes}
use Rattle.stream.specs.Onward.{State, Shut, Given, still, and_then, lines_done, wanted, is_shut, byte_of, onward}

-- ---- one after another

pub then_nothing : (x : Given) → and_then x (still x.state x.kept) ≡ x
then_nothing x =
    ap (λ (l : List ℕ). record { state = x.state; kept = x.kept; codes = l; bytes = x.bytes ++ [] }) (append-nil x.codes)
    ∙ ap (λ (l : List ℕ). record { state = x.state; kept = x.kept; codes = x.codes; bytes = l }) (append-nil x.bytes)

pub then_assoc : (x y z : Given) → and_then (and_then x y) z ≡ and_then x (and_then y z)
then_assoc x y z =
    ap (λ (l : List ℕ). record { state = z.state; kept = z.kept; codes = l; bytes = x.bytes ++ y.bytes ++ z.bytes }) (append_assoc x.codes y.codes z.codes)
    ∙ ap (λ (l : List ℕ). record { state = z.state; kept = z.kept; codes = x.codes ++ (y.codes ++ z.codes); bytes = l }) (append_assoc x.bytes y.bytes z.bytes)

-- from what bytes led to
abbrev pub further : ℕ → Given → List ℕ → Given
further room x bs = and_then x (onward room x.state x.kept bs)

pub onward_append : (room : ℕ) (s : State) (k : Kept) (xs ys : List ℕ) → onward room s k (xs ++ ys) ≡ further room (onward room s k xs) ys
onward_append room s k [] ys = refl
onward_append room s k (b ∷ xs) ys =
    let x : Given = byte_of room s k b in
    ap (and_then x) (onward_append room x.state x.kept xs ys)
    ∙ sym (then_assoc x (onward room x.state x.kept xs) (onward room (onward room x.state x.kept xs).state (onward room x.state x.kept xs).kept ys))

-- ---- one byte

byte_shut : (room : ℕ) (k : Kept) (b : ℕ) → byte_of room Shut k b ≡ still Shut k
unfolding byte_of
byte_shut room k b = refl

-- a box that is shut hears nothing
pub shut_onward : (room : ℕ) (k : Kept) (bs : List ℕ) → onward room Shut k bs ≡ still Shut k
shut_onward room k [] = refl
shut_onward room k (b ∷ bs) =
    ap (λ (x : Given). further room x bs) (byte_shut room k b) ∙ shut_onward room k bs

module _ (room : ℕ) (s : State) (k : Kept) (b : ℕ) (o : is_shut s ≡ false) where
  pub byte_ends : leb (wanted s) (keep_of k b).lines ≡ true → byte_of room s k b ≡ lines_done room s (keep_of k b).bytes
  unfolding byte_of
  byte_ends e =
      ap (λ (x : Bool). pick x (still s k) (pick (leb (wanted s) (keep_of k b).lines) (lines_done room s (keep_of k b).bytes) (still s (keep_of k b)))) o
      ∙ ap (λ (x : Bool). pick x (lines_done room s (keep_of k b).bytes) (still s (keep_of k b))) e

  pub byte_goes : leb (wanted s) (keep_of k b).lines ≡ false → byte_of room s k b ≡ still s (keep_of k b)
  unfolding byte_of
  byte_goes e =
      ap (λ (x : Bool). pick x (still s k) (pick (leb (wanted s) (keep_of k b).lines) (lines_done room s (keep_of k b).bytes) (still s (keep_of k b)))) o
      ∙ ap (λ (x : Bool). pick x (lines_done room s (keep_of k b).bytes) (still s (keep_of k b))) e

  pub onward_goes : (bs : List ℕ) → leb (wanted s) (keep_of k b).lines ≡ false → onward room s k (b ∷ bs) ≡ onward room s (keep_of k b) bs
  onward_goes bs e = ap (λ (x : Given). further room x bs) (byte_goes e)

-- ---- what is gathered

module _ (room : ℕ) (s : State) (o : is_shut s ≡ false) where
  abbrev gathered : Kept → List ℕ → Gathered
  gathered k part = gather_of (wanted s) k part

  -- a part that ends no lines is kept
  pub kept_onward : (k : Kept) (part : List ℕ) → (gathered k part).kept.lines < wanted s
      → onward room s k (take (gathered k part).used part) ≡ still s (gathered k part).kept
  kept_onward k [] h = refl
  kept_onward k (b ∷ bs) h = ⊎_elim
      (λ e. absurd (omega (arith, leb-true (wanted s) (keep_of k b).lines e, subst (λ (g : Gathered). g.kept.lines < wanted s) (gather_ends (wanted s) k b bs e) h)))
      (λ e.
      let q = gather_goes (wanted s) k b bs e in
      subst (λ (g : Gathered). onward room s k (take g.used (b ∷ bs)) ≡ still s g.kept) (sym q)
      (onward_goes room s k b o (take (gathered (keep_of k b) bs).used bs) e
      ∙ kept_onward (keep_of k b) bs (subst (λ (g : Gathered). g.kept.lines < wanted s) q h)))
      (test (leb (wanted s) (keep_of k b).lines))

  -- one that ends them has them done
  pub ends_onward : (k : Kept) (part : List ℕ) → k.lines < wanted s → wanted s ≤ (gathered k part).kept.lines
      → onward room s k (take (gathered k part).used part) ≡ lines_done room s (gathered k part).kept.bytes
  ends_onward k [] l h = absurd (omega arith)
  ends_onward k (b ∷ bs) l h = ⊎_elim
      (λ e.
      subst (λ (g : Gathered). onward room s k (take g.used (b ∷ bs)) ≡ lines_done room s g.kept.bytes) (sym (gather_ends (wanted s) k b bs e))
      (then_nothing (byte_of room s k b) ∙ byte_ends room s k b o e))
      (λ e.
      let q = gather_goes (wanted s) k b bs e in
      subst (λ (g : Gathered). onward room s k (take g.used (b ∷ bs)) ≡ lines_done room s g.kept.bytes) (sym q)
      (onward_goes room s k b o (take (gathered (keep_of k b) bs).used bs) e
      ∙ ends_onward (keep_of k b) bs (leb-false (wanted s) (keep_of k b).lines e) (subst (λ (g : Gathered). wanted s ≤ g.kept.lines) q h)))
      (test (leb (wanted s) (keep_of k b).lines))
