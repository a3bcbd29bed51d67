-- Call after call the clerk hears a part: nothing before the first call, and what a call hears behind what was heard. Assumes nothing.
use Rattle.std.specs.Prelude.{ℕ, ◌+◌, ◌-◌, ◌≡◌, List, drop}
use Rattle.std.proofs.Common.{ap, ◌∙◌, arith, subst, sym}
use Rattle.stream.specs.declared.Clerk.{Clerk}
use Rattle.stream.specs.declared.Fed.{Fed}
use Rattle.stream.specs.Feeding.{longest_answer, heard_of, FedOn, HeardTo}
use Rattle.stream.proofs.Hears as hears
use Rattle.text.proofs.Parts.{part_is}

pub hears_none : (c : Clerk) (buf part : List ℕ) → HeardTo c buf part 0 c buf 0
hears_none c buf part = hears.hears_none c buf part

pub hears_on : (c : Clerk) (buf part : List ℕ) (n : ℕ) (d : Clerk) (buf2 : List ℕ) (e : Clerk) (buf3 : List ℕ) (k : ℕ) → HeardTo c buf part 0 d buf2 n
    → HeardTo d buf2 (drop n part) 0 e buf3 k → HeardTo c buf part 0 e buf3 (n + k)
hears_on c buf part n d buf2 e buf3 k g h =
    let z : (n + k) - n ≡ k - 0 = omega arith in
    hears.hears_on c buf part n d buf2 e buf3 (n + k) g (
      omega arith,
      h.1 ∙ sym (ap (λ (i : ℕ). (heard_of longest_answer d buf2 (drop n part) i).state) z),
      h.2 ∙ sym (ap (λ (i : ℕ). (heard_of longest_answer d buf2 (drop n part) i).kept) z),
    )

-- one call, at the front of what is left of the part
pub hears_fed : {c : Clerk} {buf part out buf2 out2 : List ℕ} (r : Fed) → FedOn longest_answer c buf part out buf2 out2 r → HeardTo c buf part 0 r.clerk buf2 r.used
hears_fed {c} {buf} {part} {out} {buf2} {out2} r f =
    hears.hears_one part 0 r (subst (λ (x : List ℕ). FedOn longest_answer c buf x out buf2 out2 r) (sym (part_is 0 part)) f) (omega arith)
