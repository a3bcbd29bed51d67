-- The picture of an input that comes in parts is the picture of the whole, wherever it is cut; and the loop over a part, byte after byte. For any bytes.
-- Assumes nothing.
use Prim.Native.Nat.{ℕ, ◌+◌, ◌-◌, ◌≤◌, ◌<◌}
use mathlib.Core.Bool.{Bool}
use mathlib.Core.Path.{◌≡◌, refl, sym, ap, subst, ◌∙◌}
use mathlib.Core.List.{List, [], ◌∷◌, ◌++◌, append_assoc, append-nil}
use mathlib.Core.Logic.{⊎_elim}
use native.Mathlib.Numerals.{add-one}
use native.Mathlib.Omega.{arith}
use lib.ListN.{length, get_or, take, drop, length-drop}
use lib.Seq.{take-suc, take-add}
use borrow.Rule.Slice.PartMut.{mid_of}
use Rattle.laws.proofs.Sums.{le_or_lt}
use Rattle.text.proofs.Parts.{part_is}
use Rattle.writing.specs.AnswerSheet.{Wrote}
use Rattle.figures.specs.Placing.{Put}
use Rattle.figures.proofs.Puts.{next, put_none}
use Rattle.picture.specs.declared.Screen.{Screen}
use Rattle.picture.specs.declared.Drawn.{Drawn}
use Rattle.picture.specs.declared.Stepped.{Stepped}
use Rattle.picture.specs.Screen.{drawn_most, Kept, Step, Held, state_of, step_of, close_of, fresh, picture_from, picture_of}
use Rattle.picture.specs.Parts.{still, and_then, drawn_of, parts_drawn, whole, drawn_by, DrawnOn, DrawnTo}

-- ---- one after another
then_assoc : (x y z : Step) → and_then (and_then x y) z ≡ and_then x (and_then y z)
then_assoc x y z = ap (λ (l : List ℕ). record { after = z.after; drawn = l }) (append_assoc x.drawn y.drawn z.drawn)

then_nothing : (x : Step) → and_then x (still x.after) ≡ x
then_nothing x = ap (λ (l : List ℕ). record { after = x.after; drawn = l }) (append-nil x.drawn)

-- bytes of two lists one behind the other draw what the whole does
pub drawn_append : (colour : Bool) (k : Kept) (xs ys : List ℕ)
    → drawn_of colour k (xs ++ ys) ≡ and_then (drawn_of colour k xs) (drawn_of colour (drawn_of colour k xs).after ys)
drawn_append colour k [] ys = refl
drawn_append colour k (b ∷ xs) ys =
    let x : Step = step_of colour k b in
    let y : Step = drawn_of colour x.after xs in
    ap (and_then x) (drawn_append colour x.after xs ys) ∙ sym (then_assoc x y (drawn_of colour y.after ys))

-- ---- the picture of the whole

picture_end : (colour : Bool) (k : Kept) (bs : List ℕ) → picture_from colour k bs ≡ (drawn_of colour k bs).drawn ++ close_of (drawn_of colour k bs).after
picture_end colour k [] = refl
picture_end colour k (b ∷ bs) =
    let x : Step = step_of colour k b in
    let y : Step = drawn_of colour x.after bs in
    ap (λ (l : List ℕ). x.drawn ++ l) (picture_end colour x.after bs) ∙ sym (append_assoc x.drawn y.drawn (close_of y.after))

parts_drawn_law : (colour : Bool) (k : Kept) (parts : List (List ℕ)) → parts_drawn colour k parts ≡ drawn_of colour k (whole parts)
parts_drawn_law colour k [] = refl
parts_drawn_law colour k (p ∷ ps) =
    ap (and_then (drawn_of colour k p)) (parts_drawn_law colour (drawn_of colour k p).after ps) ∙ sym (drawn_append colour k p (whole ps))

-- however the input is cut, none and empty parts too: what the parts draw, and then the close, is the picture of the whole
pub parts_picture : (colour : Bool) (parts : List (List ℕ))
    → (parts_drawn colour fresh parts).drawn ++ close_of (parts_drawn colour fresh parts).after ≡ picture_of colour (whole parts)
parts_picture colour parts =
    ap (λ (x : Step). x.drawn ++ close_of x.after) (parts_drawn_law colour fresh parts) ∙ sym (picture_end colour fresh (whole parts))

-- ---- the loop over a part

pub record Drawing (colour : Bool) (s : Screen) (buf₀ part out₀ buf out : List ℕ) (screen : Screen) (used at : ℕ) : Type 0 where
  pub held : Held screen
  pub size : length buf ≡ length buf₀
  pub same : length out ≡ length out₀
  pub inside : used ≤ length part
  pub within : at ≤ length out₀
  pub first : used ≡ 0 → at ≡ 0
  pub put : Put (drawn_by colour s buf₀ part used).drawn 0 out₀ out at
  pub state : state_of screen buf ≡ (drawn_by colour s buf₀ part used).after

pub draw_start : (colour : Bool) (s : Screen) (buf part out : List ℕ) → Held s → Drawing colour s buf part out buf out s 0 0
draw_start colour s buf part out h = record {
  held = h;
  size = refl;
  same = refl;
  inside = omega arith;
  within = omega arith;
  first = λ e. refl;
  put = put_none 0 out (omega arith);
  state = refl;
}

module _ {colour : Bool} {s : Screen} {buf₀ part out₀ buf out : List ℕ} {screen : Screen} {used at : ℕ} (g : Drawing colour s buf₀ part out₀ buf out screen used at) where
  -- one byte more
  pub draw_turn : {r : Stepped} {buf2 out2 : List ℕ} → used < length part → Put (step_of colour (state_of screen buf) (get_or part used 0)).drawn at out out2 r.at
      → state_of r.screen buf2 ≡ (step_of colour (state_of screen buf) (get_or part used 0)).after → Held r.screen → length buf2 ≡ length buf → length out2 ≡ length out
      → Drawing colour s buf₀ part out₀ buf2 out2 r.screen (used + 1) r.at
  draw_turn {r} {buf2} {out2} l p q h m n =
      let byte : ℕ = get_or part used 0 in
      let x : Step = drawn_by colour s buf₀ part used in
      let all : drawn_by colour s buf₀ part (used + 1) ≡ and_then x (step_of colour (state_of screen buf) byte) =
      ap (drawn_of colour (state_of s buf₀)) (ap (λ (i : ℕ). take i part) (add-one used) ∙ take-suc part used 0 l)
      ∙ drawn_append colour (state_of s buf₀) (take used part) (byte ∷ [])
      ∙ ap (and_then x) (then_nothing (step_of colour x.after byte))
      ∙ ap (λ (k : Kept). and_then x (step_of colour k byte)) (sym g.state) in
      record {
        held = h;
        size = m ∙ g.size;
        same = n ∙ g.same;
        inside = omega arith;
        within = omega (arith, p.within, g.same);
        first = λ z. absurd (omega arith);
        put = subst (λ (z : Step). Put z.drawn 0 out₀ out2 r.at) (sym all) (next g.put p);
        state = q ∙ ap (λ (z : Step). z.after) (sym all);
      }

  put_wrote : {bs old new : List ℕ} {r : ℕ} → Put bs 0 old new r → Wrote bs old new r
  put_wrote {bs} {old} {new} {r} p =
      let n : r ≡ length bs = omega (arith, p.count) in
      record { count = n; sheet = p.sheet ∙ ap (λ (i : ℕ). bs ++ drop i old) n }

  -- the part is used up, or there is less room than a byte may draw
  pub draw_done : (used < length part → length out - at < drawn_most)
      → DrawnOn colour s buf₀ part out₀ buf out (record { screen = screen; used = used; written = at })
      × ((Held screen × (used ≤ length part) × (at ≤ length out₀))
      × ((used < length part → length out₀ < at + drawn_most) × (0 < length part → drawn_most ≤ length out₀ → 0 < used)))
  draw_done n = (
    record { wrote = put_wrote g.put; state = g.state },
    (
      (g.held, g.inside, g.within),
      (
        λ l. omega (arith, g.within, g.same, n l),
        λ l m. ⊎_elim
            (λ z. let k : used ≡ 0 = omega arith in absurd (omega (arith, g.same, g.first k, n (omega arith))))
            (λ z. z)
            (le_or_lt used 0),
      ),
    ),
  )

-- ---- call after call, a program's screen draws every byte of what it read

drawn_on : (colour : Bool) (s : Screen) (buf part : List ℕ) (used u : ℕ) (d : Screen) (buf2 : List ℕ) → state_of d buf2 ≡ (drawn_by colour s buf part used).after
    → drawn_by colour s buf part (used + u) ≡ and_then (drawn_by colour s buf part used) (drawn_by colour d buf2 (drop used part) u)
drawn_on colour s buf part used u d buf2 e =
    let x : Step = drawn_by colour s buf part used in
    ap (drawn_of colour (state_of s buf)) (take-add used u part)
    ∙ drawn_append colour (state_of s buf) (take used part) (take u (drop used part))
    ∙ ap (λ (k : Kept). and_then x (drawn_of colour k (take u (drop used part)))) (sym e)

-- one call
pub draws_one : {colour : Bool} {s : Screen} {buf out buf2 out2 : List ℕ} (part : List ℕ) (from : ℕ) {to : ℕ} (r : Drawn)
    → DrawnOn colour s buf (mid_of from (length part - from) part) out buf2 out2 r → to ≡ from + r.used → DrawnTo colour s buf part from r.screen buf2 to
draws_one {colour} {s} {buf} {out} {buf2} {out2} part from {to} r f e =
    let n : r.used ≡ to - from = omega (arith, e) in (
      omega (arith, e),
      f.state
          ∙ ap (λ (x : List ℕ). (drawn_by colour s buf x r.used).after) (part_is from part)
          ∙ ap (λ (i : ℕ). (drawn_by colour s buf (drop from part) i).after) n,
    )

-- one after another
pub draws_on : (colour : Bool) (s : Screen) (buf part : List ℕ) (from : ℕ) (d : Screen) (buf2 : List ℕ) (e : Screen) (buf3 : List ℕ) (to : ℕ)
    → DrawnTo colour s buf part 0 d buf2 from → DrawnTo colour d buf2 part from e buf3 to → DrawnTo colour s buf part 0 e buf3 to
draws_on colour s buf part from d buf2 e buf3 to g h =
    let z : from - 0 ≡ from = omega arith in
    let all : drawn_by colour s buf part (from + (to - from)) ≡ and_then (drawn_by colour s buf part from) (drawn_by colour d buf2 (drop from part) (to - from)) =
    drawn_on colour s buf part from (to - from) d buf2 (g.1 ∙ ap (λ (i : ℕ). (drawn_by colour s buf part i).after) z) in
    let n : from + (to - from) ≡ to - 0 = omega (arith, h.0) in
    (omega arith, h.1 ∙ sym (ap (λ (x : Step). x.after) all) ∙ ap (λ (i : ℕ). (drawn_by colour s buf part i).after) n)

pub draws_none : (colour : Bool) (s : Screen) (buf part : List ℕ) → DrawnTo colour s buf part 0 s buf 0
draws_none colour s buf part = (omega arith, refl)

-- up to the end of the part
pub draws_all : (colour : Bool) (s : Screen) (buf part : List ℕ) (from : ℕ) (d : Screen) (buf2 : List ℕ) → length part ≤ from → from ≤ length part
    → DrawnTo colour s buf part 0 d buf2 from → DrawnTo colour s buf part 0 d buf2 (length part)
draws_all colour s buf part from d buf2 h l g =
    let e : from ≡ length part = omega arith in
    subst (λ (i : ℕ). DrawnTo colour s buf part 0 d buf2 i) e g

-- a call goes further
pub draws_moves : (part : List ℕ) (from : ℕ) {to u : ℕ} → to ≡ from + u → from < length part → (0 < length (mid_of from (length part - from) part) → 0 < u) → from < to
draws_moves part from {to} {u} e l h =
    let m : 0 < u = h (omega (arith, ap length (part_is from part), length-drop from part)) in
    omega (arith, e)
