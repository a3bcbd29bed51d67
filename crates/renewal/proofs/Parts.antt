-- However a log is cut, what is given for its parts and at the close is the whole renewed (`parts_renewed`); and the loop over a part, byte after byte. Assumes nothing.
use Prim.Native.Nat.{ℕ, ◌+◌, ◌-◌, ◌≤◌, ◌<◌}
use mathlib.Core.Bool.{Bool, true, false}
use mathlib.Core.Path.{◌≡◌, refl, sym, ap, subst, ◌∙◌}
use mathlib.Core.List.{List, [], ◌∷◌, ◌++◌, append_assoc, append-nil}
use mathlib.Core.Logic.{⊎_elim}
use native.Mathlib.Numerals.{add-one}
use native.Mathlib.Omega.{arith}
use lib.ListN.{length, get_or, take}
use lib.Seq.{take-suc}
use lib.Dec.{ltb}
use borrow.Author.Tests.{ltb-true}
use borrow.Rule.Slice.PartMut.{mid_of, put_mid, same_len_mid}
use Rattle.laws.specs.Tests.{pick}
use Rattle.laws.proofs.Sums.{le_or_lt}
use Rattle.writing.proofs.Sheets.{then}
use Rattle.renewal.proofs.Steps.{true_false}
use Rattle.renewal.specs.declared.Renewal.{Renewal}
use Rattle.renewal.specs.declared.Stepped.{Stepped}
use Rattle.renewal.specs.Renewing.{Step, still, and_then, step_of, given_of, start_of, closed, renewed, InSheet, given_most}
use Rattle.renewal.specs.Parts.{whole, parts_given, given_by, Gave}

then_assoc : (x y z : Step) → and_then (and_then x y) z ≡ and_then x (and_then y z)
then_assoc x y z = ap (λ (l : List ℕ). record { after = z.after; given = l }) (append_assoc x.given y.given z.given)

then_nothing : (x : Step) → and_then x (still x.after) ≡ x
then_nothing x = ap (λ (l : List ℕ). record { after = x.after; given = l }) (append-nil x.given)

-- bytes of two lists one behind the other give what the whole does
pub given_append : (s : Renewal) (xs ys : List ℕ) → given_of s (xs ++ ys) ≡ and_then (given_of s xs) (given_of (given_of s xs).after ys)
given_append s [] ys = refl
given_append s (b ∷ xs) ys =
    let x : Step = step_of s b in
    let y : Step = given_of x.after xs in
    ap (and_then x) (given_append x.after xs ys) ∙ sym (then_assoc x y (given_of y.after ys))

-- ---- the whole

parts_given_law : (s : Renewal) (parts : List (List ℕ)) → parts_given s parts ≡ given_of s (whole parts)
parts_given_law s [] = refl
parts_given_law s (p ∷ ps) = ap (and_then (given_of s p)) (parts_given_law (given_of s p).after ps) ∙ sym (given_append s p (whole ps))

-- however the log is cut, none and empty parts too: what is given for the parts, and then at the close, is the whole renewed
pub parts_renewed : (parts : List (List ℕ)) → (closed (parts_given start_of parts)).given ≡ renewed (whole parts)
unfolding renewed
parts_renewed parts = ap (λ (x : Step). (closed x).given) (parts_given_law start_of parts)

-- ---- the test

-- a program's own test
pub opens_when : {b : Bool} (done : Bool) (from size : ℕ) → b ≡ pick done false (ltb from size) → b ≡ true → (done ≡ false) × (from < size)
opens_when true from size e y = absurd (true_false (sym y ∙ e))
opens_when false from size e y = (refl, ltb-true from size (sym e ∙ y))

-- ---- the loop over a part

pub record Renewing (s : Renewal) (part out₀ out : List ℕ) (renewal : Renewal) (used at : ℕ) : Type 0 where
  pub held : InSheet renewal
  pub same : length out ≡ length out₀
  pub inside : used ≤ length part
  pub within : at ≤ length out₀
  pub first : used ≡ 0 → (at ≡ 0) × (renewal ≡ s)
  pub gave : Gave (given_by s part used) out₀ out renewal at

pub renew_start : (s : Renewal) (part out : List ℕ) → InSheet s → Renewing s part out out s 0 0
renew_start s part out h = record {
  held = h;
  same = refl;
  inside = omega arith;
  within = omega arith;
  first = λ e. (refl, refl);
  gave = record { after = refl; wrote = record { count = refl; sheet = refl } };
}

module _ {s : Renewal} {part out₀ out : List ℕ} {renewal : Renewal} {used at : ℕ} (g : Renewing s part out₀ out renewal used at) where
  -- one byte more
  pub renew_turn : {r : Stepped} {mid after : List ℕ} → used < length part → at + given_most ≤ length out
      → Gave (step_of renewal (get_or part used 0)) (mid_of at (length out - at) out) mid r.renewal r.written → InSheet r.renewal → r.written ≤ given_most
      → after ≡ put_mid at (length out - at) out mid → length mid ≡ length (mid_of at (length out - at) out)
      → Renewing s part out₀ after r.renewal (used + 1) (at + r.written)
  renew_turn {r} {mid} {after} l m p h w a q =
      let byte : ℕ = get_or part used 0 in
      let x : Step = given_by s part used in
      let all : given_by s part (used + 1) ≡ and_then x (step_of renewal byte) =
      ap (given_of s) (ap (λ (i : ℕ). take i part) (add-one used) ∙ take-suc part used 0 l)
      ∙ given_append s (take used part) (byte ∷ [])
      ∙ ap (and_then x) (then_nothing (step_of x.after byte))
      ∙ ap (λ (k : Renewal). and_then x (step_of k byte)) (sym g.gave.after) in
      record {
        held = h;
        same = ap length a ∙ same_len_mid at (length out - at) out mid q ∙ g.same;
        inside = omega arith;
        within = omega (arith, m, w, g.same);
        first = λ z. absurd (omega arith);
        gave = subst (λ (z : Step). Gave z out₀ after r.renewal (at + r.written)) (sym all) (record {
          after = p.after;
          wrote = rw a (then g.gave.wrote p.wrote);
        });
      }

  -- it goes on from the first byte where the sheet has not ended and there is room
  pub renew_moves : (renewal.done ≡ false → length out - at < given_most) → s.done ≡ false → given_most ≤ length out₀ → 0 < used
  renew_moves n d m =
      ⊎_elim
      (λ z.
      let k : used ≡ 0 = omega arith in
      let f = g.first k in
      absurd (omega (arith, g.same, f.0, n (ap (λ (t : Renewal). t.done) f.1 ∙ d))))
      (λ z. z)
      (le_or_lt used 0)
