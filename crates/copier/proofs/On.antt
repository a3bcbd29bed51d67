-- Feed after feed: with the bytes that are used up so far the copier has done what they do one by one; and call after call a program's copier hears every byte
-- of what it read. For the proofs of the functions. Assumes nothing.
use Prim.Native.Nat.{ℕ, ◌+◌, ◌-◌, ◌≤◌, ◌<◌}
use mathlib.Core.Path.{◌≡◌, refl, sym, ap, subst, ◌∙◌}
use mathlib.Core.List.{List}
use mathlib.Core.Logic.{◌⊎◌, inl, inr, ⊎_elim}
use native.Mathlib.Omega.{arith}
use lib.ListN.{length, take, drop, length-drop}
use lib.Seq.{take-add}
use borrow.Rule.Slice.PartMut.{mid_of, put_mid, same_len_mid}
use Rattle.laws.proofs.Sums.{le_or_lt}
use Rattle.text.proofs.Parts.{part_is}
use Rattle.writing.proofs.Sheets.{then}
use Rattle.lines.specs.declared.Fill.{Fill}
use Rattle.lines.specs.Kept.{Kept, kept_most, fill_of}
use Rattle.lines.proofs.Keeps.{fill_back}
use Rattle.logs.specs.FairCopy.{note_most}
use Rattle.copier.specs.declared.Copier.{Copier}
use Rattle.copier.specs.declared.Fed.{Fed}
use Rattle.copier.specs.Onward.{State, Unread, Open, Shut, Given, and_then, onward}
use Rattle.copier.specs.Feeding.{state_of, kept_by, copier_in, Held, Gave, heard_of, FedOn, HeardTo}
use Rattle.copier.proofs.Onward.{onward_append}

state_in : (s : State) (m : Fill) → state_of (copier_in s m) ≡ s
unfolding state_of
state_in Unread m = refl
state_in (Open s n) m = refl
state_in Shut m = refl

-- ---- what was done with some bytes, and then with the next

-- a call after bytes that led somewhere
heard_on : (c : Copier) (buf part : List ℕ) (used u : ℕ) (d : Copier) (buf2 : List ℕ) → state_of d ≡ (heard_of c buf part used).state → kept_by d buf2 ≡ (heard_of c buf part used).kept
    → heard_of c buf part (used + u) ≡ and_then (heard_of c buf part used) (heard_of d buf2 (drop used part) u)
heard_on c buf part used u d buf2 e f =
    let x : Given = heard_of c buf part used in
    ap (onward (state_of c) (kept_by c buf)) (take-add used u part)
    ∙ onward_append (state_of c) (kept_by c buf) (take used part) (take u (drop used part))
    ∙ ap (λ (s : State). and_then x (onward s x.kept (take u (drop used part)))) (sym e)
    ∙ ap (λ (k : Kept). and_then x (onward (state_of d) k (take u (drop used part)))) (sym f)

fed_state : {c : Copier} {buf part copy notes buf2 copy2 notes2 : List ℕ} (r : Fed) → FedOn c buf part copy notes buf2 copy2 notes2 r
    → state_of r.copier ≡ (heard_of c buf part r.used).state
fed_state {c} {buf} {part} r f =
    let x : Given = heard_of c buf part r.used in
    ap state_of f.gave.copier ∙ state_in x.state (fill_of x.kept)

-- ---- the loop

pub record Feeding (c : Copier) (buf₀ part copy₀ notes₀ buf copy notes : List ℕ) (copier : Copier) (used at told : ℕ) : Type 0 where
  pub held : Held copier
  pub size : length buf ≡ length buf₀
  pub same : length copy ≡ length copy₀
  pub even : length notes ≡ length notes₀
  pub inside : used ≤ length part
  pub within : at ≤ length copy₀
  pub among : told ≤ length notes₀
  pub first : used ≡ 0 → (at ≡ 0) × (told ≡ 0)
  pub fed : FedOn c buf₀ part copy₀ notes₀ buf copy notes (record { copier = copier; used = used; written = at; noted = told })

pub on_start : (c : Copier) (buf part copy notes : List ℕ) → Held c → kept_most ≤ length buf → Feeding c buf part copy notes buf copy notes c 0 0 0
on_start c buf part copy notes h n = record {
  held = h;
  size = refl;
  same = refl;
  even = refl;
  inside = omega arith;
  within = omega arith;
  among = omega arith;
  first = λ e. (refl, refl);
  fed = record {
    gave = record {
      copier = h.own ∙ ap (copier_in (state_of c)) (fill_back c.fill buf (omega (arith, h.room.most)));
      copied = record { count = refl; sheet = refl };
      said = record { count = refl; sheet = refl };
    };
    kept = refl;
  };
}

module _ {c : Copier} {buf₀ part copy₀ notes₀ buf copy notes : List ℕ} {copier : Copier} {used at told : ℕ}
    (g : Feeding c buf₀ part copy₀ notes₀ buf copy notes copier used at told) where
  -- the counts stay within the part and the sheets
  pub on_used : {u : ℕ} → u ≤ length (mid_of used (length part - used) part) → used + u ≤ length part
  on_used u = omega (arith, g.inside, ap length (part_is used part), length-drop used part)

  pub on_room : {w : ℕ} → w ≤ length (mid_of at (length copy - at) copy) → at + w ≤ length copy
  on_room w = omega (arith, g.within, g.same, ap length (part_is at copy), length-drop at copy)

  pub on_notes : {w : ℕ} → w ≤ length (mid_of told (length notes - told) notes) → told + w ≤ length notes
  on_notes w = omega (arith, g.among, g.even, ap length (part_is told notes), length-drop told notes)

  -- the part is used up further
  pub on_moves : {u : ℕ} → used < length part → (0 < length (mid_of used (length part - used) part) → 0 < u) → (0 < u) × (length part - (used + u) < length part - used)
  on_moves {u} l h = let m : 0 < u = h (omega (arith, ap length (part_is used part), length-drop used part)) in (m, omega arith)

  pub on_turn : {r : Fed} {buf2 mid mid2 after after2 : List ℕ}
      → FedOn copier buf (mid_of used (length part - used) part) (mid_of at (length copy - at) copy) (mid_of told (length notes - told) notes) buf2 mid mid2 r
      → Held r.copier → 0 < r.used → r.used ≤ length (mid_of used (length part - used) part) → r.written ≤ length (mid_of at (length copy - at) copy)
      → r.noted ≤ length (mid_of told (length notes - told) notes) → after ≡ put_mid at (length copy - at) copy mid → length mid ≡ length (mid_of at (length copy - at) copy)
      → after2 ≡ put_mid told (length notes - told) notes mid2 → length mid2 ≡ length (mid_of told (length notes - told) notes) → length buf2 ≡ length buf
      → Feeding c buf₀ part copy₀ notes₀ buf2 after after2 r.copier (used + r.used) (at + r.written) (told + r.noted)
  on_turn {r} {buf2} {mid} {mid2} {after} {after2} f h v u w x p q p2 q2 n =
      let sheet : List ℕ = mid_of at (length copy - at) copy in
      let lines : List ℕ = mid_of told (length notes - told) notes in
      let y : Given = heard_of c buf₀ part used in
      let z : Given = heard_of copier buf (drop used part) r.used in
      let now : Gave z sheet lines mid mid2 r.copier r.written r.noted =
      subst (λ (l : List ℕ). Gave (heard_of copier buf l r.used) sheet lines mid mid2 r.copier r.written r.noted) (part_is used part) f.gave in
      let all : heard_of c buf₀ part (used + r.used) ≡ and_then y z = heard_on c buf₀ part used r.used copier buf (fed_state _ g.fed) g.fed.kept in
      record {
        held = h;
        size = n ∙ g.size;
        same = ap length p ∙ same_len_mid at (length copy - at) copy mid q ∙ g.same;
        even = ap length p2 ∙ same_len_mid told (length notes - told) notes mid2 q2 ∙ g.even;
        inside = on_used u;
        within = omega (arith, on_room w, g.same);
        among = omega (arith, on_notes x, g.even);
        first = λ e. absurd (omega arith);
        fed = record {
          gave = subst (λ (l : Given). Gave l copy₀ notes₀ after after2 r.copier (at + r.written) (told + r.noted)) (sym all) (record {
            copier = now.copier;
            copied = rw p (then g.fed.gave.copied now.copied);
            said = rw p2 (then g.fed.gave.said now.said);
          });
          kept = f.kept ∙ ap (λ (l : List ℕ). (heard_of copier buf l r.used).kept) (part_is used part) ∙ ap (λ (l : Given). l.kept) (sym all);
        };
      }

  -- the part is used up, or there is less room than a copy or a note may take
  pub on_done : (used < length part → (length copy - at < kept_most) ⊎ (length notes - told < note_most))
      → FedOn c buf₀ part copy₀ notes₀ buf copy notes (record { copier = copier; used = used; written = at; noted = told })
      × ((Held copier × (used ≤ length part) × (at ≤ length copy₀) × (told ≤ length notes₀))
      × ((used < length part → (length copy₀ < at + kept_most) ⊎ (length notes₀ < told + note_most))
      × (0 < length part → kept_most ≤ length copy₀ → note_most ≤ length notes₀ → 0 < used)))
  on_done n =
      let stays : used < length part → (length copy₀ < at + kept_most) ⊎ (length notes₀ < told + note_most) =
      λ l. ⊎_elim
      (λ y. inl (omega (arith, g.within, g.same)))
      (λ y. inr (omega (arith, g.among, g.even)))
      (n l) in (
        g.fed,
        (
          (g.held, g.inside, g.within, g.among),
          (
            stays,
            λ l m o. ⊎_elim
                (λ z.
                let k : used ≡ 0 = omega arith in
                let f = g.first k in
                ⊎_elim (λ y. absurd (omega (arith, f.0))) (λ y. absurd (omega (arith, f.1))) (stays (omega arith)))
                (λ z. z)
                (le_or_lt used 0),
          ),
        ),
      )

-- ---- call after call

-- one call
pub hears_one : {c : Copier} {buf copy notes buf2 copy2 notes2 : List ℕ} (part : List ℕ) (from : ℕ) {to : ℕ} (r : Fed)
    → FedOn c buf (mid_of from (length part - from) part) copy notes buf2 copy2 notes2 r → to ≡ from + r.used → HeardTo c buf part from r.copier buf2 to
hears_one {c} {buf} {copy} {notes} {buf2} {copy2} {notes2} part from {to} r f e =
    let n : r.used ≡ to - from = omega (arith, e) in
    let g : FedOn c buf (drop from part) copy notes buf2 copy2 notes2 r = subst (λ (x : List ℕ). FedOn c buf x copy notes buf2 copy2 notes2 r) (part_is from part) f in (
      omega (arith, e),
      fed_state r g ∙ ap (λ (i : ℕ). (heard_of c buf (drop from part) i).state) n,
      g.kept ∙ ap (λ (i : ℕ). (heard_of c buf (drop from part) i).kept) n,
    )

-- one after another
pub hears_on : (c : Copier) (buf part : List ℕ) (from : ℕ) (d : Copier) (buf2 : List ℕ) (e : Copier) (buf3 : List ℕ) (to : ℕ) → HeardTo c buf part 0 d buf2 from → HeardTo d buf2 part from e buf3 to
    → HeardTo c buf part 0 e buf3 to
hears_on c buf part from d buf2 e buf3 to g h =
    let z : from - 0 ≡ from = omega arith in
    let all : heard_of c buf part (from + (to - from)) ≡ and_then (heard_of c buf part from) (heard_of d buf2 (drop from part) (to - from)) =
    heard_on c buf part from (to - from) d buf2
    (g.1 ∙ ap (λ (i : ℕ). (heard_of c buf part i).state) z)
    (g.2 ∙ ap (λ (i : ℕ). (heard_of c buf part i).kept) z) in
    let n : from + (to - from) ≡ to - 0 = omega (arith, h.0) in (
      omega arith,
      h.1 ∙ sym (ap (λ (x : Given). x.state) all) ∙ ap (λ (i : ℕ). (heard_of c buf part i).state) n,
      h.2 ∙ sym (ap (λ (x : Given). x.kept) all) ∙ ap (λ (i : ℕ). (heard_of c buf part i).kept) n,
    )

pub hears_none : (c : Copier) (buf part : List ℕ) → HeardTo c buf part 0 c buf 0
hears_none c buf part = (omega arith, refl, refl)

-- up to the end of the part
pub hears_all : (c : Copier) (buf part : List ℕ) (from : ℕ) (d : Copier) (buf2 : List ℕ) → length part ≤ from → from ≤ length part → HeardTo c buf part 0 d buf2 from
    → HeardTo c buf part 0 d buf2 (length part)
hears_all c buf part from d buf2 h l g =
    let e : from ≡ length part = omega arith in
    subst (λ (i : ℕ). HeardTo c buf part 0 d buf2 i) e g
