-- Line after line without the pair: with the bytes that are used up so far the frame has done what they do one by one, and they made nothing whole but at the end. For the
-- proof of `hear_on`. Assumes nothing.
use Prim.Native.Nat.{ℕ, ◌+◌, ◌-◌, ◌≤◌, ◌<◌}
use mathlib.Core.Path.{◌≡◌, refl, sym, ap, ap₂, ◌∙◌}
use mathlib.Core.Bool.{Bool, true, false, not, true≢false}
use mathlib.Core.Logic.{⊎_elim}
use lib.Dec.{ltb}
use borrow.Author.Tests.{lt-ltb, ltb-true}
use Rattle.laws.specs.Tests.{both}
use Rattle.laws.proofs.Tests.{both_true}
use Rattle.laws.proofs.Sums.{le_or_lt}
use mathlib.Core.List.{List, [], ◌++◌}
use native.Mathlib.Omega.{arith}
use lib.ListN.{length, take, drop, length-drop}
use borrow.Rule.Slice.PartMut.{mid_of}
use Rattle.text.proofs.Parts.{part_is}
use Rattle.writing.specs.AnswerSheet.{over}
use Rattle.lines.specs.Kept.{gather_of, kept_in, kept_most}
use Rattle.frames.specs.declared.Frame.{Frame}
use Rattle.frames.specs.declared.Heard.{Heard}
use Rattle.std.specs.Prelude.{Option, Some, None, is_some}
use Rattle.frames.specs.declared.Made.{Made}
use Rattle.frames.specs.Frames.{Piece, Framed, piece_of, Held, heard_as}
use Rattle.pairs.specs.Pairs.{heard_of, said_of}
use Rattle.pairs.proofs.On.{heard_is, heard_on}

pub record Hearing (f : Frame) (buf₀ part buf : List ℕ) (h : Heard) : Type 0 where
  pub said : said_of h buf ≡ heard_of f buf₀ part h.used
  pub held : Held h.frame
  pub size : length buf ≡ length buf₀
  pub inside : h.used ≤ length part
  pub moved : h.used ≡ 0 → h.what ≡ None
  pub count : h.count ≤ kept_most

-- what a call of `hear` promises of its frame
abbrev Sound : List ℕ → Heard → Type 0
Sound part h = Held h.frame × (h.used ≤ length part) × (0 < length part → 0 < h.used) × (h.count ≤ kept_most)

pub hear_start : (f : Frame) (buf part : List ℕ) → Held f → Hearing f buf part buf (record { frame = f; used = 0; what = None; of = f.due; count = 0 })
hear_start f buf part held = record {
  said = refl;
  held = held;
  size = refl;
  inside = omega arith;
  moved = λ z. refl;
  count = omega arith;
}

-- a line that made nothing whole, and the next one
more : (f : Frame) (buf₀ part buf : List ℕ) (h k : Heard) (buf2 : List ℕ) → said_of h buf ≡ heard_of f buf₀ part h.used → h.what ≡ None
    → said_of k buf2 ≡ heard_of h.frame buf (mid_of h.used (length part - h.used) part) k.used → said_of k buf2 ≡ heard_of f buf₀ part (h.used + k.used)
more f buf₀ part buf h k buf2 is n next =
    let x : Framed = heard_of f buf₀ part h.used in
    let y : Framed = heard_of h.frame buf (drop h.used part) k.used in
    let z : said_of k buf2 ≡ y = next ∙ ap (λ (l : List ℕ). heard_of h.frame buf l k.used) (part_is h.used part) in
    let none : x.pieces ≡ [] = ap (λ (v : Framed). v.pieces) (sym is) ∙ ap (λ (i : Option Made). piece_of i h.of (take h.count buf)) n in
    z ∙ sym (ap (λ (l : List Piece). record { due = y.due; kept = y.kept; pieces = l ++ y.pieces }) none)
    ∙ sym (heard_on f buf₀ part h.used k.used h.frame buf (ap (λ (v : Framed). v.due) is) (ap (λ (v : Framed). v.kept) is))

-- by what `is_none` says
none_so : (n : Bool) → not n ≡ false → n ≡ true
none_so true e = refl
none_so false e = absurd (true≢false e)

none_is : (o : Option Made) → is_some o ≡ false → o ≡ None
none_is None e = refl
none_is (Some x) e = absurd (true≢false e)

module _ (f : Frame) (buf₀ part buf : List ℕ) (h : Heard) (g : Hearing f buf₀ part buf h) where
  pub turn_used : {u : ℕ} → u ≤ length (mid_of h.used (length part - h.used) part) → h.used + u ≤ length part
  turn_used l = omega (arith, l, g.inside, ap length (part_is h.used part), length-drop h.used part)

  turn_moves : {u : ℕ} → h.used < length part → (0 < length (mid_of h.used (length part - h.used) part) → 0 < u) → 0 < u
  turn_moves l m = m (omega (arith, l, ap length (part_is h.used part), length-drop h.used part))

  pub turn_less : {u : ℕ} → h.used < length part → (0 < length (mid_of h.used (length part - h.used) part) → 0 < u) → length part - (h.used + u) < length part - h.used
  turn_less l m = omega (arith, l, turn_moves l m)

  pub hear_turn : (k : Heard) (buf2 : List ℕ) → kept_most ≤ length buf₀ → h.what ≡ None → h.used < length part
      → k ≡ heard_as h.frame (gather_of (h.frame.fill.lines + 1) (kept_in h.frame.fill buf) (mid_of h.used (length part - h.used) part))
      → buf2 ≡ over (gather_of (h.frame.fill.lines + 1) (kept_in h.frame.fill buf) (mid_of h.used (length part - h.used) part)).kept.bytes buf
      → Sound (mid_of h.used (length part - h.used) part) k → length buf2 ≡ length buf
      → Hearing f buf₀ part buf2 (record { frame = k.frame; used = h.used + k.used; what = k.what; of = k.of; count = k.count })
  hear_turn k buf2 room n l e q s m =
      let rest : List ℕ = mid_of h.used (length part - h.used) part in
      let size : kept_most ≤ length buf = omega (arith, room, g.size) in
      record {
        said = more f buf₀ part buf h k buf2 g.said n (heard_is h.frame buf rest g.held size e q);
        held = s.0;
        size = m ∙ g.size;
        inside = turn_used s.1;
        moved = λ z. absurd (omega (arith, z, turn_moves l s.2));
        count = s.3;
      }

  -- where the loop ends, a byte at least was used up if there was one
  pub hear_done : (n : Bool) {b : Bool} → is_some h.what ≡ not n → b ≡ both n (ltb h.used (length part)) → b ≡ false → 0 < length part → 0 < h.used
  hear_done n s e f l =
      ⊎_elim
      (λ (z : h.used ≤ 0).
      let u : h.used ≡ 0 = omega (arith, z) in
      absurd (true≢false (sym (ap₂ both (none_so n (sym s ∙ ap (λ (o : Option Made). is_some o) (g.moved u))) (lt-ltb h.used (length part) (omega (arith, u, l)))) ∙ sym e ∙ f)))
      (λ (z : 0 < h.used). z)
      (le_or_lt h.used 0)

pub goes_on_when : (what : Option Made) (used size : ℕ) (n : Bool) {b : Bool} → is_some what ≡ not n → b ≡ both n (ltb used size) → b ≡ true → (what ≡ None) × (used < size)
goes_on_when what used size n s e y =
    let t = both_true n (ltb used size) (sym e ∙ y) in
    (none_is what (s ∙ ap not t.0), ltb-true used size t.1)
