-- Call after call a part is drawn: nothing before the first call, and what a call draws behind what was drawn; with colours or without, as before. Assumes nothing.
use Rattle.std.specs.Prelude.{ℕ, ◌+◌, ◌-◌, ◌≡◌, Bool, List, drop}
use Rattle.std.proofs.Common.{ap, ◌∙◌, refl, arith, sym, subst}
use Rattle.picture.specs.declared.Screen.{Screen}
use Rattle.picture.specs.declared.Drawn.{Drawn}
use Rattle.picture.specs.Parts.{drawn_by, DrawnOn, DrawnTo}
use Rattle.picture.proofs.Parts as parts
use Rattle.text.proofs.Parts.{part_is}

pub draws_none : (colour : Bool) (s : Screen) (buf part : List ℕ) → (colour ≡ colour) × DrawnTo colour s buf part 0 s buf 0
draws_none colour s buf part = (refl, parts.draws_none colour s buf part)

pub draws_on : (colour : Bool) (s : Screen) (buf part : List ℕ) (n : ℕ) (colour2 : Bool) (d : Screen) (buf2 : List ℕ) (colour3 : Bool) (e : Screen) (buf3 : List ℕ) (k : ℕ)
    → (colour2 ≡ colour) × DrawnTo colour s buf part 0 d buf2 n → (colour3 ≡ colour2) × DrawnTo colour2 d buf2 (drop n part) 0 e buf3 k
    → (colour3 ≡ colour) × DrawnTo colour s buf part 0 e buf3 (n + k)
draws_on colour s buf part n colour2 d buf2 colour3 e buf3 k g h =
    let z : (n + k) - n ≡ k - 0 = omega arith in
    let i : DrawnTo colour d buf2 (drop n part) 0 e buf3 k = subst (λ (x : Bool). DrawnTo x d buf2 (drop n part) 0 e buf3 k) g.0 h.1 in (
      h.0 ∙ g.0,
      parts.draws_on colour s buf part n d buf2 e buf3 (n + k) g.1 (omega arith, i.1 ∙ sym (ap (λ (i : ℕ). (drawn_by colour d buf2 (drop n part) i).after) z)),
    )

-- one call, at the front of what is left of the part
pub draws_front : {colour : Bool} {s : Screen} {buf part out buf2 out2 : List ℕ} (r : Drawn) → DrawnOn colour s buf part out buf2 out2 r
    → DrawnTo colour s buf part 0 r.screen buf2 r.used
draws_front {colour} {s} {buf} {part} {out} {buf2} {out2} r f =
    parts.draws_one part 0 r (subst (λ (x : List ℕ). DrawnOn colour s buf x out buf2 out2 r) (sym (part_is 0 part)) f) (omega arith)
