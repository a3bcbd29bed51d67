-- Call after call the pair hears a part: nothing before the first call, and what a call hears behind what was heard; for the same screen as before. Assumes nothing.
use Rattle.std.specs.Prelude.{ℕ, ◌+◌, ◌-◌, ◌≤◌, ◌≡◌, List, drop}
use Rattle.std.proofs.Common.{ap, ◌∙◌, refl, arith, sym, subst}
use Rattle.frames.specs.declared.Frame.{Frame}
use Rattle.couple.specs.declared.Pair.{Pair}
use Rattle.pairs.specs.declared.Fed.{Fed}
use Rattle.pairs.specs.Pairs.{ran, heard_of, FedOn, HeardTo}
use Rattle.pairs.proofs.Hears as hears
use Rattle.text.proofs.Parts.{part_is}

pub hears_none : (only : ℕ) (p : Pair) (f : Frame) (buf part : List ℕ) → (only ≡ only) × HeardTo only p f buf part 0 p f buf 0
hears_none only p f buf part = (refl, hears.hears_none only p f buf part)

pub hears_on : (only : ℕ) (p : Pair) (f : Frame) (buf part : List ℕ) (n only2 : ℕ) (q : Pair) (g : Frame) (buf2 : List ℕ) (only3 : ℕ) (s : Pair) (h : Frame) (buf3 : List ℕ) (k : ℕ)
    → (only2 ≡ only) × HeardTo only p f buf part 0 q g buf2 n → (only3 ≡ only2) × HeardTo only2 q g buf2 (drop n part) 0 s h buf3 k
    → (only3 ≡ only) × HeardTo only p f buf part 0 s h buf3 (n + k)
hears_on only p f buf part n only2 q g buf2 only3 s h buf3 k a b =
    let z : k - 0 ≡ (n + k) - n = omega arith in
    let r : List ℕ = drop n part in
    let i : HeardTo only q g buf2 r 0 s h buf3 k = subst (λ (x : ℕ). HeardTo x q g buf2 r 0 s h buf3 k) a.0 b.1 in (
      b.0 ∙ a.0,
      hears.hears_on only p f buf part n q g buf2 s h buf3 (n + k) a.1 (
        omega arith,
        i.1 ∙ ap (λ (j : ℕ). (heard_of g buf2 r j).due) z,
        i.2 ∙ ap (λ (j : ℕ). (heard_of g buf2 r j).kept) z,
        i.3 ∙ ap (λ (j : ℕ). (ran only q (heard_of g buf2 r j).pieces).pair) z,
      ),
    )

-- one call, at the front of what is left of the part
pub hears_fed : {only : ℕ} {p : Pair} {f : Frame} {buf part out buf2 out2 : List ℕ} (r : Fed) → FedOn only p f buf part out buf2 out2 r
    → HeardTo only p f buf part 0 r.pair r.frame buf2 r.used
hears_fed {only} {p} {f} {buf} {part} {out} {buf2} {out2} r v =
    hears.hears_one part 0 r (subst (λ (x : List ℕ). FedOn only p f buf x out buf2 out2 r) (sym (part_is 0 part)) v) (omega arith)
