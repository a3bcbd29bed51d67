-- Call after call with room for any answer, a program's clerk hears every byte of what it read. For the proofs of the programs. Assumes nothing.
use Prim.Native.Nat.{ℕ, ◌+◌, ◌-◌, ◌≤◌}
use mathlib.Core.Path.{◌≡◌, refl, sym, ap, subst, ◌∙◌}
use mathlib.Core.List.{List}
use native.Mathlib.Omega.{arith}
use lib.ListN.{length, drop}
use borrow.Rule.Slice.PartMut.{mid_of}
use Rattle.text.proofs.Parts.{part_is}
use Rattle.lines.specs.Kept.{fill_of}
use Rattle.stream.specs.declared.Clerk.{Clerk}
use Rattle.stream.specs.declared.Fed.{Fed}
use Rattle.stream.specs.Onward.{Given, and_then}
use Rattle.stream.specs.Feeding.{longest_answer, state_of, heard_of, FedOn, HeardTo}
use Rattle.stream.proofs.On.{state_in, heard_on}

-- the state that a call leads to
pub fed_state : {room : ℕ} {c : Clerk} {buf part out buf2 out2 : List ℕ} (r : Fed) → FedOn room c buf part out buf2 out2 r
    → state_of r.clerk ≡ (heard_of room c buf part r.used).state
fed_state {room} {c} {buf} {part} r f =
    let x : Given = heard_of room c buf part r.used in
    ap state_of f.gave.clerk ∙ state_in c.table x.state (fill_of x.kept)

-- one call
pub hears_one : {c : Clerk} {buf out buf2 out2 : List ℕ} (part : List ℕ) (from : ℕ) {to : ℕ} (r : Fed) → FedOn longest_answer c buf (mid_of from (length part - from) part) out buf2 out2 r
    → to ≡ from + r.used → HeardTo c buf part from r.clerk buf2 to
hears_one {c} {buf} {out} {buf2} {out2} part from {to} r f e =
    let is : mid_of from (length part - from) part ≡ drop from part = part_is from part in
    let n : r.used ≡ to - from = omega (arith, e) in
    let g : FedOn longest_answer c buf (drop from part) out buf2 out2 r = subst (λ (x : List ℕ). FedOn longest_answer c buf x out buf2 out2 r) is f in (
      omega (arith, e),
      fed_state r g ∙ ap (λ (i : ℕ). (heard_of longest_answer c buf (drop from part) i).state) n,
      g.kept ∙ ap (λ (i : ℕ). (heard_of longest_answer c buf (drop from part) i).kept) n,
    )

-- one after another
pub hears_on : (c : Clerk) (buf part : List ℕ) (from : ℕ) (d : Clerk) (buf2 : List ℕ) (e : Clerk) (buf3 : List ℕ) (to : ℕ) → HeardTo c buf part 0 d buf2 from → HeardTo d buf2 part from e buf3 to
    → HeardTo c buf part 0 e buf3 to
hears_on c buf part from d buf2 e buf3 to g h =
    let z : from - 0 ≡ from = omega arith in
    let all : heard_of longest_answer c buf part (from + (to - from)) ≡ and_then (heard_of longest_answer c buf part from) (heard_of longest_answer d buf2 (drop from part) (to - from)) =
    heard_on longest_answer c buf part from (to - from) d buf2
    (g.1 ∙ ap (λ (i : ℕ). (heard_of longest_answer c buf part i).state) z)
    (g.2 ∙ ap (λ (i : ℕ). (heard_of longest_answer c buf part i).kept) z) in
    let n : from + (to - from) ≡ to - 0 = omega (arith, h.0) in (
      omega arith,
      h.1 ∙ sym (ap (λ (x : Given). x.state) all) ∙ ap (λ (i : ℕ). (heard_of longest_answer c buf part i).state) n,
      h.2 ∙ sym (ap (λ (x : Given). x.kept) all) ∙ ap (λ (i : ℕ). (heard_of longest_answer c buf part i).kept) n,
    )

pub hears_none : (c : Clerk) (buf part : List ℕ) → HeardTo c buf part 0 c buf 0
hears_none c buf part = (omega arith, refl, refl)

-- up to the end of the part
pub hears_all : (c : Clerk) (buf part : List ℕ) (from : ℕ) (d : Clerk) (buf2 : List ℕ) → length part ≤ from → from ≤ length part → HeardTo c buf part 0 d buf2 from
    → HeardTo c buf part 0 d buf2 (length part)
hears_all c buf part from d buf2 h l g =
    let e : from ≡ length part = omega arith in
    subst (λ (i : ℕ). HeardTo c buf part 0 d buf2 i) e g
