-- Call after call with room for any answer, the program's pair hears every byte of what it read, and takes all that they make whole. For the proofs of the program. Assumes
-- nothing.
use Prim.Native.Nat.{ℕ, ◌+◌, ◌-◌, ◌≤◌}
use mathlib.Core.Path.{◌≡◌, refl, sym, ap, subst, ◌∙◌}
use mathlib.Core.List.{List}
use native.Mathlib.Omega.{arith}
use lib.ListN.{length, drop}
use borrow.Rule.Slice.PartMut.{mid_of}
use Rattle.text.proofs.Parts.{part_is}
use Rattle.frames.specs.declared.Frame.{Frame}
use Rattle.frames.specs.Frames.{Framed, and_then}
use Rattle.couple.specs.declared.Pair.{Pair}
use Rattle.couple.specs.Couple.{Given}
use Rattle.pairs.specs.declared.Fed.{Fed}
use Rattle.pairs.specs.Pairs.{ran, heard_of, FedOn, HeardTo}
use Rattle.pairs.proofs.Runs.{ran_append}
use Rattle.pairs.proofs.On.{heard_on}

-- one call
pub hears_one : {only : ℕ} {p : Pair} {f : Frame} {buf out buf2 out2 : List ℕ} (part : List ℕ) (from : ℕ) {to : ℕ} (r : Fed)
    → FedOn only p f buf (mid_of from (length part - from) part) out buf2 out2 r → to ≡ from + r.used → HeardTo only p f buf part from r.pair r.frame buf2 to
hears_one {only} {p} {f} {buf} {out} {buf2} {out2} part from {to} r v e =
    let n : r.used ≡ to - from = omega (arith, e) in
    let g : FedOn only p f buf (drop from part) out buf2 out2 r = subst (λ (x : List ℕ). FedOn only p f buf x out buf2 out2 r) (part_is from part) v in (
      omega (arith, e),
      g.due ∙ ap (λ (i : ℕ). (heard_of f buf (drop from part) i).due) n,
      g.kept ∙ ap (λ (i : ℕ). (heard_of f buf (drop from part) i).kept) n,
      g.gave.pair ∙ ap (λ (i : ℕ). (ran only p (heard_of f buf (drop from part) i).pieces).pair) n,
    )

-- one after another
pub hears_on : (only : ℕ) (p : Pair) (f : Frame) (buf part : List ℕ) (from : ℕ) (q : Pair) (g : Frame) (buf2 : List ℕ) (s : Pair) (h : Frame) (buf3 : List ℕ) (to : ℕ)
    → HeardTo only p f buf part 0 q g buf2 from → HeardTo only q g buf2 part from s h buf3 to → HeardTo only p f buf part 0 s h buf3 to
hears_on only p f buf part from q g buf2 s h buf3 to a b =
    let z : from - 0 ≡ from = omega arith in
    let x : Framed = heard_of f buf part from in
    let y : Framed = heard_of g buf2 (drop from part) (to - from) in
    let all : heard_of f buf part (from + (to - from)) ≡ and_then x y =
    heard_on f buf part from (to - from) g buf2
    (a.1 ∙ ap (λ (i : ℕ). (heard_of f buf part i).due) z)
    (a.2 ∙ ap (λ (i : ℕ). (heard_of f buf part i).kept) z) in
    let n : from + (to - from) ≡ to - 0 = omega (arith, b.0) in
    let whole : and_then x y ≡ heard_of f buf part (to - 0) = sym all ∙ ap (heard_of f buf part) n in
    let first : q ≡ (ran only p x.pieces).pair = a.3 ∙ ap (λ (i : ℕ). (ran only p (heard_of f buf part i).pieces).pair) z in (
      omega arith,
      b.1 ∙ ap (λ (k : Framed). k.due) whole,
      b.2 ∙ ap (λ (k : Framed). k.kept) whole,
      b.3 ∙ ap (λ (k : Pair). (ran only k y.pieces).pair) first
          ∙ ap (λ (k : Given). k.pair) (sym (ran_append only p x.pieces y.pieces))
          ∙ ap (λ (k : Framed). (ran only p k.pieces).pair) whole,
    )

pub hears_none : (only : ℕ) (p : Pair) (f : Frame) (buf part : List ℕ) → HeardTo only p f buf part 0 p f buf 0
hears_none only p f buf part = (omega arith, refl, refl, refl)

-- up to the end of the part
pub hears_all : (only : ℕ) (p : Pair) (f : Frame) (buf part : List ℕ) (from : ℕ) (q : Pair) (g : Frame) (buf2 : List ℕ) → length part ≤ from → from ≤ length part
    → HeardTo only p f buf part 0 q g buf2 from → HeardTo only p f buf part 0 q g buf2 (length part)
hears_all only p f buf part from q g buf2 h l a =
    let e : from ≡ length part = omega arith in
    subst (λ (i : ℕ). HeardTo only p f buf part 0 q g buf2 i) e a
