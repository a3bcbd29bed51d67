-- Line after line: with the bytes that are used up so far the pair has done what they do one by one. So the output does not depend on how the input is cut into parts
-- (`pair_parts`). Assumes nothing.
use Prim.Native.Nat.{ℕ, ◌+◌, ◌-◌, ◌≤◌, ◌<◌}
use mathlib.Core.Bool.{Bool, true, false}
use mathlib.Core.Path.{◌≡◌, refl, sym, ap, subst, ◌∙◌}
use mathlib.Core.List.{List, [], ◌++◌, append_assoc}
use mathlib.Core.Logic.{⊎_elim}
use native.Mathlib.Omega.{arith}
use lib.ListN.{length, take, drop, length-drop}
use lib.Seq.{take-add}
use lib.Dec.{ltb, leb}
use borrow.Author.Tests.{ltb-true, leb-true, leb-false, lt-ltb}
use borrow.Rule.Slice.PartMut.{mid_of, put_mid, same_len_mid}
use Rattle.laws.specs.Tests.{pick, both}
use Rattle.laws.specs.Lists.{whole}
use Rattle.laws.proofs.Tests.{both_true}
use Rattle.laws.proofs.Sums.{le_or_lt}
use Rattle.text.proofs.Parts.{part_is}
use Rattle.writing.specs.AnswerSheet.{over}
use Rattle.writing.proofs.Sheets.{then}
use Rattle.lines.specs.Kept.{Kept, nothing, Gathered, gather_of, kept_in, kept_most}
use Rattle.frames.specs.declared.Due.{Due}
use Rattle.frames.specs.declared.Due.TheVariants.{Pool}
use Rattle.frames.specs.declared.Frame.{Frame}
use Rattle.frames.specs.declared.Heard.{Heard}
use Rattle.frames.specs.Frames.{Piece, Framed, and_then, onward, piece_of, end_what, closing, parts_of, Held, last_line, whole_heard, kept_heard, heard_as}
use Rattle.frames.proofs.Onward.{said_by, hear_onward, onward_append, pieces_parts}
use Rattle.couple.specs.declared.Pair.{Pair}
use Rattle.couple.specs.Couple.{start_of, last_bytes, Given, room_most, Gave, Good}
use Rattle.pairs.specs.declared.Fed.{Fed}
use Rattle.pairs.specs.Pairs.{ran, output_of, heard_of, said_of, FedOn, goes_on, close_bytes}
use Rattle.pairs.proofs.Runs.{ran_append, still_gave}

-- ---- one call

-- what was due for what is made whole is what was due
pub heard_due : (f : Frame) (g : Gathered) → (heard_as f g).of ≡ f.due
unfolding heard_as
heard_due f g = go (ltb f.fill.lines g.kept.lines)
  where
    go : (b : Bool) → (pick b (whole_heard f g (last_line f.due g.kept (f.fill.count - f.fill.width))) (kept_heard f g)).of ≡ f.due
    go true = refl
    go false = refl

module _ (f : Frame) (buf part : List ℕ) (held : Held f) (size : kept_most ≤ length buf) {h : Heard} {buf2 : List ℕ}
    (e : h ≡ heard_as f (gather_of (f.fill.lines + 1) (kept_in f.fill buf) part))
    (q : buf2 ≡ over (gather_of (f.fill.lines + 1) (kept_in f.fill buf) part).kept.bytes buf) where
  abbrev g : Gathered
  g = gather_of (f.fill.lines + 1) (kept_in f.fill buf) part

  pub heard_is : said_by h buf2 ≡ heard_of f buf part h.used
  heard_is =
      ap (said_by h) q ∙ ap (λ (x : Heard). said_by x (over g.kept.bytes buf)) e
      ∙ hear_onward f buf part (omega (arith, held.room.most, size))
      ∙ ap (λ (x : Heard). heard_of f buf part x.used) (sym e)

pub fed_one : (only : ℕ) (p : Pair) (f : Frame) (buf part out : List ℕ) (h : Heard) (buf2 : List ℕ) → said_of h buf2 ≡ heard_of f buf part h.used
    → {s : Pair} {w : ℕ} {out2 : List ℕ} → Gave (ran only p (piece_of h.what h.of (take (h.count - 0) (drop 0 buf2)))) out out2 s w
    → FedOn only p f buf part out buf2 out2 (record { pair = s; frame = h.frame; used = h.used; written = w })
fed_one only p f buf part out h buf2 is {s} {w} {out2} v =
    let n : h.count - 0 ≡ h.count = omega arith in
    record {
      due = ap (λ (x : Framed). x.due) is;
      kept = ap (λ (x : Framed). x.kept) is;
      gave = subst (λ (x : Framed). Gave (ran only p x.pieces) out out2 s w) is
          (subst (λ (i : ℕ). Gave (ran only p (piece_of h.what h.of (take i buf2))) out out2 s w) n v);
    }

-- ---- one after another

pub heard_on : (f : Frame) (buf part : List ℕ) (used u : ℕ) (d : Frame) (buf2 : List ℕ) → d.due ≡ (heard_of f buf part used).due → kept_in d.fill buf2 ≡ (heard_of f buf part used).kept
    → heard_of f buf part (used + u) ≡ and_then (heard_of f buf part used) (heard_of d buf2 (drop used part) u)
heard_on f buf part used u d buf2 e k =
    let x : Framed = heard_of f buf part used in
    ap (onward f.due (kept_in f.fill buf)) (take-add used u part)
    ∙ onward_append f.due (kept_in f.fill buf) (take used part) (take u (drop used part))
    ∙ ap (λ (i : Due). and_then x (onward i x.kept (take u (drop used part)))) (sym e)
    ∙ ap (λ (y : Kept). and_then x (onward d.due y (take u (drop used part)))) (sym k)

-- ---- the test

pub goes_when : {b : Bool} (used size room : ℕ) → b ≡ goes_on used size room → b ≡ true → (used < size) × (room_most ≤ room)
goes_when used size room e y =
    let h = both_true (ltb used size) (leb room_most room) (sym e ∙ y) in
    (ltb-true used size h.0, leb-true room_most room h.1)

stays_when : {b : Bool} (used size room : ℕ) → b ≡ goes_on used size room → b ≡ false → used < size → room < room_most
stays_when used size room e n l =
    leb-false room_most room (sym (ap (λ (x : Bool). both x (leb room_most room)) (lt-ltb used size l)) ∙ sym e ∙ n)

-- ---- the loop

pub record Feeding (only : ℕ) (p : Pair) (f : Frame) (buf₀ part out₀ buf out : List ℕ) (pair : Pair) (frame : Frame) (used at : ℕ) : Type 0 where
  pub good : Good pair
  pub held : Held frame
  pub size : length buf ≡ length buf₀
  pub same : length out ≡ length out₀
  pub inside : used ≤ length part
  pub within : at ≤ length out₀
  pub first : used ≡ 0 → at ≡ 0
  pub fed : FedOn only p f buf₀ part out₀ buf out (record { pair = pair; frame = frame; used = used; written = at })

pub on_start : (only : ℕ) (p : Pair) (f : Frame) (buf part out : List ℕ) → Good p → Held f → Feeding only p f buf part out buf out p f 0 0
on_start only p f buf part out g h = record {
  good = g;
  held = h;
  size = refl;
  same = refl;
  inside = omega arith;
  within = omega arith;
  first = λ e. refl;
  fed = record { due = refl; kept = refl; gave = still_gave p out };
}

module _ {only : ℕ} {p : Pair} {f : Frame} {buf₀ part out₀ buf out : List ℕ} {pair : Pair} {frame : Frame} {used at : ℕ}
    (g : Feeding only p f buf₀ part out₀ buf out pair frame used at) where
  pub on_used : {u : ℕ} → u ≤ length (mid_of used (length part - used) part) → used + u ≤ length part
  on_used u = omega (arith, g.inside, ap length (part_is used part), length-drop used part)

  pub on_room : {w : ℕ} → w ≤ length (mid_of at (length out - at) out) → at + w ≤ length out
  on_room w = omega (arith, g.within, g.same, ap length (part_is at out), length-drop at out)

  pub on_moves : {u : ℕ} → used < length part → (0 < length (mid_of used (length part - used) part) → 0 < u) → (0 < u) × (length part - (used + u) < length part - used)
  on_moves {u} l h = let m : 0 < u = h (omega (arith, ap length (part_is used part), length-drop used part)) in (m, omega arith)

  pub on_turn : {r : Fed} {buf2 mid after : List ℕ}
      → FedOn only pair frame buf (mid_of used (length part - used) part) (mid_of at (length out - at) out) buf2 mid r
      → Good r.pair → Held r.frame → 0 < r.used → r.used ≤ length (mid_of used (length part - used) part) → r.written ≤ length (mid_of at (length out - at) out)
      → after ≡ put_mid at (length out - at) out mid → length mid ≡ length (mid_of at (length out - at) out) → length buf2 ≡ length buf
      → Feeding only p f buf₀ part out₀ buf2 after r.pair r.frame (used + r.used) (at + r.written)
  on_turn {r} {buf2} {mid} {after} v good held m u w a q n =
      let sheet : List ℕ = mid_of at (length out - at) out in
      let y : Framed = heard_of f buf₀ part used in
      let z : Framed = heard_of frame buf (drop used part) r.used in
      let x : FedOn only pair frame buf (drop used part) sheet buf2 mid r =
      subst (λ (l : List ℕ). FedOn only pair frame buf l sheet buf2 mid r) (part_is used part) v in
      let all : heard_of f buf₀ part (used + r.used) ≡ and_then y z = heard_on f buf₀ part used r.used frame buf g.fed.due g.fed.kept in
      let before : Given = ran only p y.pieces in
      let now : Gave (ran only before.pair z.pieces) sheet mid r.pair r.written =
      subst (λ (k : Pair). Gave (ran only k z.pieces) sheet mid r.pair r.written) g.fed.gave.pair x.gave in
      let both : Given = record { pair = (ran only before.pair z.pieces).pair; bytes = before.bytes ++ (ran only before.pair z.pieces).bytes } in
      record {
        good = good;
        held = held;
        size = n ∙ g.size;
        same = ap length a ∙ same_len_mid at (length out - at) out mid q ∙ g.same;
        inside = on_used u;
        within = omega (arith, on_room w, g.same);
        first = λ e. absurd (omega arith);
        fed = record {
          due = x.due ∙ ap (λ (k : Framed). k.due) (sym all);
          kept = x.kept ∙ ap (λ (k : Framed). k.kept) (sym all);
          gave = subst (λ (k : Framed). Gave (ran only p k.pieces) out₀ after r.pair (at + r.written)) (sym all)
              (subst (λ (k : Given). Gave k out₀ after r.pair (at + r.written)) (sym (ran_append only p y.pieces z.pieces)) (record {
                pair = now.pair;
                wrote = rw a (then g.fed.gave.wrote now.wrote);
              }));
        };
      }

  pub on_done : {b : Bool} → b ≡ goes_on used (length part) (length out - at) → b ≡ false
      → FedOn only p f buf₀ part out₀ buf out (record { pair = pair; frame = frame; used = used; written = at })
      × ((Good pair × Held frame × (used ≤ length part) × (at ≤ length out₀))
      × ((used < length part → length out₀ < at + room_most) × (0 < length part → room_most ≤ length out₀ → 0 < used)))
  on_done e n =
      let stays : used < length part → length out₀ < at + room_most = λ l. omega (arith, g.within, g.same, stays_when used (length part) (length out - at) e n l) in (
        g.fed,
        (
          (g.good, g.held, g.inside, g.within),
          (
            stays,
            λ l m. ⊎_elim
                (λ z.
                let k : used ≡ 0 = omega arith in
                absurd (omega (arith, g.first k, stays (omega arith))))
                (λ z. z)
                (le_or_lt used 0),
          ),
        ),
      )

-- ---- the whole input

-- what the bytes of an input give, and at its end the rest: the whole output
pub output_closed : (only : ℕ) (input : List ℕ)
    → let x : Framed = onward Pool nothing input in let y : Given = ran only start_of x.pieces in
    y.bytes ++ close_bytes only y.pair x.due (length x.kept.bytes) ≡ output_of only input
unfolding close_bytes
output_closed only input =
    let x : Framed = onward Pool nothing input in
    let last : List Piece = piece_of (end_what x.due (length x.kept.bytes)) x.due [] in
    let y : Given = ran only start_of x.pieces in
    let z : Given = ran only y.pair last in
    sym (append_assoc y.bytes z.bytes (last_bytes only z.pair))
    ∙ ap (λ (k : Given). k.bytes ++ last_bytes only k.pair) (sym (ran_append only start_of x.pieces last))

-- and it does not depend on the cuts
pub pair_parts : (only : ℕ) (parts : List (List ℕ))
    → let x : Given = ran only start_of (closing (parts_of Pool nothing parts)) in x.bytes ++ last_bytes only x.pair ≡ output_of only (whole parts)
pair_parts only parts = ap (λ (l : List Piece). (ran only start_of l).bytes ++ last_bytes only (ran only start_of l).pair) (pieces_parts parts)
