-- Bytes one by one: those of two lists one behind the other do what the whole does, and a part that is heard up to its next LF does what its bytes do. So the pieces
-- of an input do not depend on how it is cut into parts. For any bytes. Assumes nothing.
use Prim.Native.Nat.{ℕ, suc, ◌+◌, ◌-◌, ◌≤◌, ◌<◌}
use mathlib.Core.Bool.{Bool, true, false}
use mathlib.Core.Path.{◌≡◌, refl, sym, ap, subst, ◌∙◌}
use mathlib.Core.List.{List, [], ◌∷◌, ◌++◌, append_assoc, append-nil}
use mathlib.Core.Logic.{⊎_elim}
use native.Mathlib.Omega.{arith}
use lib.ListN.{length, take, drop, length-append, length-take}
use lib.Seq.{take-append_seam}
use lib.Dec.{eqb, ltb}
use borrow.Author.Tests.{ltb-true, ltb-false, lt-ltb, le-ltb, le-leb, lt-leb}
use Rattle.laws.specs.Tests.{pick}
use Rattle.laws.specs.Lists.{whole}
use Rattle.laws.proofs.Tests.{test}
use Rattle.writing.specs.AnswerSheet.{over}
use Rattle.lines.specs.Kept.{Kept, nothing, keep_of, Gathered, gather_of, kept_in, fill_of}
use Rattle.lines.proofs.Keeps.{kept_back}
use Rattle.lines.proofs.Cut.{keep_in, keep_out}
use Rattle.lines.proofs.Gathers.{gather_ends, gather_goes, lines_lf, lines_on}
use Rattle.frames.specs.declared.Due.{Due}
use Rattle.frames.specs.declared.Due.TheVariants.{Pool}
use Rattle.frames.specs.declared.Frame.{Frame}
use Rattle.frames.specs.declared.Next.{Next}
use Rattle.frames.specs.declared.Heard.{Heard}
use Rattle.frames.specs.Frames.{Piece, piece_of, Framed, still, and_then, line_start, line_done, last_line, byte_of, onward, closing, pieces_of, parts_of, whole_heard, kept_heard, heard_as}

-- ---- one after another

pub then_nothing : (x : Framed) → and_then x (still x.due x.kept) ≡ x
then_nothing x = ap (λ (l : List Piece). record { due = x.due; kept = x.kept; pieces = l }) (append-nil x.pieces)

pub then_assoc : (x y z : Framed) → and_then (and_then x y) z ≡ and_then x (and_then y z)
then_assoc x y z = ap (λ (l : List Piece). record { due = z.due; kept = z.kept; pieces = l }) (append_assoc x.pieces y.pieces z.pieces)

abbrev pub further : Framed → List ℕ → Framed
further x bs = and_then x (onward x.due x.kept bs)

pub onward_append : (due : Due) (k : Kept) (xs ys : List ℕ) → onward due k (xs ++ ys) ≡ further (onward due k xs) ys
onward_append due k [] ys = refl
onward_append due k (b ∷ xs) ys =
    let x : Framed = byte_of due k b in
    ap (and_then x) (onward_append x.due x.kept xs ys)
    ∙ sym (then_assoc x (onward x.due x.kept xs) (onward (onward x.due x.kept xs).due (onward x.due x.kept xs).kept ys))

pub parts_onward : (due : Due) (k : Kept) (parts : List (List ℕ)) → parts_of due k parts ≡ onward due k (whole parts)
parts_onward due k [] = refl
parts_onward due k (p ∷ ps) =
    ap (and_then (onward due k p)) (parts_onward (onward due k p).due (onward due k p).kept ps) ∙ sym (onward_append due k p (whole ps))

-- the pieces of an input in parts are those of the whole input, however it is cut
pub pieces_parts : (parts : List (List ℕ)) → closing (parts_of Pool nothing parts) ≡ pieces_of (whole parts)
pieces_parts parts = ap closing (parts_onward Pool nothing parts)

-- ---- one byte

module _ (due : Due) (k : Kept) (b : ℕ) where
  pub byte_lf : eqb b 10 ≡ true → byte_of due k b ≡ line_done due (keep_of k b) (last_line due (keep_of k b) (line_start k))
  unfolding byte_of
  byte_lf e =
      ap (λ (t : Bool). pick t (line_done due (keep_of k b) (last_line due (keep_of k b) (line_start k))) (still due (keep_of k b)))
      (lt-ltb k.lines (keep_of k b).lines (omega (arith, lines_lf k b e)))

  pub byte_goes : eqb b 10 ≡ false → byte_of due k b ≡ still due (keep_of k b)
  unfolding byte_of
  byte_goes e =
      ap (λ (t : Bool). pick t (line_done due (keep_of k b) (last_line due (keep_of k b) (line_start k))) (still due (keep_of k b)))
      (le-ltb k.lines (keep_of k b).lines (omega (arith, lines_on k b e)))

  pub onward_goes : (bs : List ℕ) → eqb b 10 ≡ false → onward due k (b ∷ bs) ≡ onward due (keep_of k b) bs
  onward_goes bs e = ap (λ (x : Framed). further x bs) (byte_goes e)

-- a line that goes on starts where it started
start_same : (k : Kept) (b : ℕ) → eqb b 10 ≡ false → line_start (keep_of k b) ≡ line_start k
start_same k b e = ⊎_elim
    (λ f. ap line_start (keep_in k b e f) ∙ omega (arith, length-append k.bytes (b ∷ [])))
    (λ f. ap line_start (keep_out k b e f))
    (test (ltb k.width 33))

-- ---- a line

module _ (due : Due) (n : ℕ) where
  abbrev g : Kept → List ℕ → Gathered
  g k part = gather_of (n + 1) k part

  goes : (k : Kept) (b : ℕ) (bs : List ℕ) → k.lines ≡ n → eqb b 10 ≡ false → g k (b ∷ bs) ≡ record { kept = (g (keep_of k b) bs).kept; used = suc (g (keep_of k b) bs).used }
  goes k b bs l e = gather_goes (n + 1) k b bs (lt-leb (n + 1) (keep_of k b).lines (omega (arith, lines_on k b e)))

  ends : (k : Kept) (b : ℕ) (bs : List ℕ) → k.lines ≡ n → eqb b 10 ≡ true → g k (b ∷ bs) ≡ record { kept = keep_of k b; used = 1 }
  ends k b bs l e = gather_ends (n + 1) k b bs (le-leb (n + 1) (keep_of k b).lines (omega (arith, lines_lf k b e)))

  -- one that is not ended is kept
  pub line_kept : (k : Kept) (part : List ℕ) → k.lines ≡ n → (g k part).kept.lines ≤ n → onward due k (take (g k part).used part) ≡ still due (g k part).kept
  line_kept k [] l h = refl
  line_kept k (b ∷ bs) l h = ⊎_elim
      (λ e. absurd (omega (arith, lines_lf k b e, subst (λ (x : Gathered). x.kept.lines ≤ n) (ends k b bs l e) h)))
      (λ e.
      subst (λ (x : Gathered). onward due k (take x.used (b ∷ bs)) ≡ still due x.kept) (sym (goes k b bs l e))
      (onward_goes due k b (take (g (keep_of k b) bs).used bs) e
      ∙ line_kept (keep_of k b) bs (lines_on k b e ∙ l) (subst (λ (x : Gathered). x.kept.lines ≤ n) (goes k b bs l e) h)))
      (test (eqb b 10))

  -- one that is ended is done
  pub line_done_law : (from : ℕ) (k : Kept) (part : List ℕ) → k.lines ≡ n → line_start k ≡ from → n < (g k part).kept.lines
      → onward due k (take (g k part).used part) ≡ line_done due (g k part).kept (last_line due (g k part).kept from)
  line_done_law from k [] l s h = absurd (omega arith)
  line_done_law from k (b ∷ bs) l s h = ⊎_elim
      (λ e.
      subst (λ (x : Gathered). onward due k (take x.used (b ∷ bs)) ≡ line_done due x.kept (last_line due x.kept from)) (sym (ends k b bs l e))
      (then_nothing (byte_of due k b) ∙ byte_lf due k b e ∙ ap (λ (i : ℕ). line_done due (keep_of k b) (last_line due (keep_of k b) i)) s))
      (λ e.
      subst (λ (x : Gathered). onward due k (take x.used (b ∷ bs)) ≡ line_done due x.kept (last_line due x.kept from)) (sym (goes k b bs l e))
      (onward_goes due k b (take (g (keep_of k b) bs).used bs) e
      ∙ line_done_law from (keep_of k b) bs (lines_on k b e ∙ l) (start_same k b e ∙ s) (subst (λ (x : Gathered). n < x.kept.lines) (goes k b bs l e) h)))
      (test (eqb b 10))

-- ---- a call of `hear`

-- what a call says and leaves in the buffer, as what bytes lead to
abbrev pub said_by : Heard → List ℕ → Framed
said_by r buf = record { due = r.frame.due; kept = kept_in r.frame.fill buf; pieces = piece_of r.what r.of (take r.count buf) }

kept_on : (keeps : Bool) (k : Kept) (buf : List ℕ) → kept_in (pick keeps (fill_of k) (fill_of nothing)) (over k.bytes buf) ≡ pick keeps k nothing
kept_on true k buf = kept_back k buf
kept_on false k buf = refl

whole_said : (f : Frame) (x : Gathered) (next : Next) (buf : List ℕ) → said_by (whole_heard f x next) (over x.kept.bytes buf) ≡ line_done f.due x.kept next
whole_said f x next buf =
    ap (λ (k : Kept). record { due = next.due; kept = k; pieces = piece_of next.what f.due (take (length x.kept.bytes) (over x.kept.bytes buf)) })
    (kept_on next.keeps x.kept buf)
    ∙ ap (λ (l : List ℕ). record { due = next.due; kept = pick next.keeps x.kept nothing; pieces = piece_of next.what f.due l })
    (take-append_seam x.kept.bytes (drop (length x.kept.bytes) buf))

kept_said : (f : Frame) (x : Gathered) (buf : List ℕ) → said_by (kept_heard f x) (over x.kept.bytes buf) ≡ still f.due x.kept
kept_said f x buf = ap (λ (k : Kept). record { due = f.due; kept = k; pieces = [] }) (kept_back x.kept buf)

-- with the bytes that it uses up a call does what they do one by one
pub hear_onward : (f : Frame) (buf part : List ℕ) → f.fill.count ≤ length buf
    → let x : Gathered = gather_of (f.fill.lines + 1) (kept_in f.fill buf) part in
    said_by (heard_as f x) (over x.kept.bytes buf) ≡ onward f.due (kept_in f.fill buf) (take (heard_as f x).used part)
unfolding heard_as
hear_onward f buf part h =
    let k : Kept = kept_in f.fill buf in
    let x : Gathered = gather_of (f.fill.lines + 1) k part in
    let from : ℕ = f.fill.count - f.fill.width in
    let s : line_start k ≡ from = ap (λ (i : ℕ). i - f.fill.width) (omega (arith, length-take f.fill.count buf)) in
    let next : Next = last_line f.due x.kept from in
    let P : Heard → Type 0 = λ (r : Heard). said_by r (over x.kept.bytes buf) ≡ onward f.due k (take r.used part) in
    ⊎_elim
    (λ e.
    subst (λ (t : Bool). P (pick t (whole_heard f x next) (kept_heard f x))) (sym e)
    (whole_said f x next buf ∙ sym (line_done_law f.due f.fill.lines from k part refl s (ltb-true f.fill.lines x.kept.lines e))))
    (λ e.
    subst (λ (t : Bool). P (pick t (whole_heard f x next) (kept_heard f x))) (sym e)
    (kept_said f x buf ∙ sym (line_kept f.due f.fill.lines k part refl (ltb-false f.fill.lines x.kept.lines e))))
    (test (ltb f.fill.lines x.kept.lines))
