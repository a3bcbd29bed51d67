-- Call after call the copier hears a part: nothing before the first call, and what a call hears behind what was heard. Assumes nothing.
use Rattle.std.specs.Prelude.{ℕ, ◌+◌, ◌-◌, ◌≡◌, true, List, drop}
use Rattle.std.proofs.Common.{refl, ap, ◌∙◌, arith, subst, sym}
use Rattle.copier.specs.declared.Copier.{Copier}
use Rattle.copier.specs.declared.Fed.{Fed}
use Rattle.copier.specs.Feeding.{heard_of, FedOn, HeardTo}
use Rattle.renewal.specs.declared.Renewal.{Renewal}
use Rattle.copier.proofs.On as hears
use Rattle.text.proofs.Parts.{part_is}

pub hears_none : (c : Copier) (buf part : List ℕ) → HeardTo c buf part 0 c buf 0
hears_none c buf part = hears.hears_none c buf part

pub hears_on : (c : Copier) (buf part : List ℕ) (n : ℕ) (d : Copier) (buf2 : List ℕ) (e : Copier) (buf3 : List ℕ) (k : ℕ) → HeardTo c buf part 0 d buf2 n
    → HeardTo d buf2 (drop n part) 0 e buf3 k → HeardTo c buf part 0 e buf3 (n + k)
hears_on c buf part n d buf2 e buf3 k g h =
    let z : (n + k) - n ≡ k - 0 = omega arith in
    hears.hears_on c buf part n d buf2 e buf3 (n + k) g (
      omega arith,
      h.1 ∙ sym (ap (λ (i : ℕ). (heard_of d buf2 (drop n part) i).state) z),
      h.2 ∙ sym (ap (λ (i : ℕ). (heard_of d buf2 (drop n part) i).kept) z),
    )

-- one call, at the front of what is left of the part
pub hears_fed : {c : Copier} {buf part copy notes buf2 copy2 notes2 : List ℕ} (r : Fed) → FedOn c buf part copy notes buf2 copy2 notes2 r → HeardTo c buf part 0 r.copier buf2 r.used
hears_fed {c} {buf} {part} {copy} {notes} {buf2} {copy2} {notes2} r f =
    hears.hears_one part 0 r (subst (λ (x : List ℕ). FedOn c buf x copy notes buf2 copy2 notes2 r) (sym (part_is 0 part)) f) (omega arith)

-- behind the sheet the renewal stays as it is, and the copier hears the part as it is
abbrev pub Behind : Renewal → Copier → List ℕ → List ℕ → ℕ → Renewal → Copier → List ℕ → Type 0
Behind r c buf part n s d buf2 = r.done ≡ true → (s ≡ r) × HeardTo c buf part 0 d buf2 n

pub behind_none : (r : Renewal) (c : Copier) (buf part : List ℕ) → Behind r c buf part 0 r c buf
behind_none r c buf part y = (refl, hears_none c buf part)

pub behind_on : (r : Renewal) (c : Copier) (buf part : List ℕ) (n : ℕ) (s : Renewal) (d : Copier) (buf2 : List ℕ) (t : Renewal) (e : Copier) (buf3 : List ℕ) (k : ℕ)
    → Behind r c buf part n s d buf2 → Behind s d buf2 (drop n part) k t e buf3 → Behind r c buf part (n + k) t e buf3
behind_on r c buf part n s d buf2 t e buf3 k g h y =
    let a : (s ≡ r) × HeardTo c buf part 0 d buf2 n = g y in
    let b : (t ≡ s) × HeardTo d buf2 (drop n part) 0 e buf3 k = h (ap (λ (z : Renewal). z.done) a.0 ∙ y) in
    (b.0 ∙ a.0, hears_on c buf part n d buf2 e buf3 k a.1 b.1)
