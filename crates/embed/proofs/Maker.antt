-- THE MAKER'S RUN: however a log is cut, what start, feeding every part until it is used up, and the close write is the output of the whole log (maker_output).
-- For any parts, none and empty ones too. Assumes nothing.
use Prim.Native.Nat.{ℕ, zero, suc, ◌-◌, ◌≤◌, ◌<◌}
use mathlib.Core.Bool.{Bool}
use mathlib.Core.Path.{◌≡◌, refl, sym, ap, subst, ◌∙◌}
use mathlib.Core.List.{List, [], ◌++◌}
use native.Mathlib.Omega.{arith}
use lib.ListN.{length, get_or, take, drop, length-drop}
use lib.Seq.{take-append_seam, drop-append_seam}
use borrow.Author.Tests.{ne_eqb}
use Rattle.laws.specs.Tests.{pick}
use Rattle.laws.specs.Lists.{whole}
use Rattle.writing.specs.AnswerSheet.{Wrote}
use Rattle.lines.specs.Kept.{kept_most}
use Rattle.desk.specs.Log.{output_of}
use Rattle.stream.specs.declared.Clerk.{Clerk}
use Rattle.stream.specs.Onward.{closing}
use Rattle.stream.specs.Feeding.{longest_answer, state_of, kept_by, start_of, used_of}
use Rattle.stream.specs.Parts.{Served, idle, following, call_of, part_from, parts_from, served_of}
use Rattle.stream.proofs.Plenty.{parts_output}
use Rattle.packed.specs.Layout.{fields_size, clerk_bytes, clerk_from}
use Rattle.packed.proofs.Again.{bytes_length}
use Rattle.embed.specs.Lent.{state_size, buffer_in, call_in, used_in, CalledIn, StartedIn, closing_in, ClosedIn}
use Rattle.embed.specs.Maker.{FedWhole, used_up, once_more, FedAll, no_part, one_part}

-- what a maker has after some calls is what was served
record Same (state bs : List ℕ) (x : Served) : Type 0 where
  clerk : clerk_from state ≡ x.clerk
  buf : buffer_in state ≡ x.buf
  bytes : bs ≡ x.given.bytes

-- the bytes that a writer wrote, taken off
taken_off : {bs old new : List ℕ} {r : ℕ} → Wrote bs old new r → take r new ≡ bs
taken_off {bs} {old} {new} {r} w =
    ap (λ (n : ℕ). take n new) w.count ∙ ap (λ (l : List ℕ). take (length bs) l) w.sheet ∙ take-append_seam bs (drop (length bs) old)

-- one call, and what the next finds
one_call : (state part out state2 out2 : List ℕ) {u w : ℕ} → CalledIn state part out state2 out2 u w → Same state2 (take w out2) (call_in state part (length out))
one_call state part out state2 out2 h = record {
  clerk = h.back;
  buf =
      ap (drop fields_size) h.leaves
      ∙ ap (λ (n : ℕ). drop n (clerk_bytes (call_in state part (length out)).clerk ++ (call_in state part (length out)).buf))
      (sym (bytes_length (call_in state part (length out)).clerk h.held.sound.standing.size))
      ∙ drop-append_seam (clerk_bytes (call_in state part (length out)).clerk) (call_in state part (length out)).buf;
  bytes = taken_off h.wrote;
}

-- calls, and then others from where those have led
joined : {state2 state3 bs cs : List ℕ} (x : Served) (F : Clerk → List ℕ → Served) → Same state2 bs x → Same state3 cs (F (clerk_from state2) (buffer_in state2))
    → Same state3 (bs ++ cs) (following x (F x.clerk x.buf))
joined {state2} {state3} {bs} {cs} x F k s =
    let s2 : Same state3 cs (F x.clerk x.buf) =
    subst (λ (b : List ℕ). Same state3 cs (F x.clerk b)) k.buf (subst (λ (d : Clerk). Same state3 cs (F d (buffer_in state2))) k.clerk s) in
    record {
      clerk = s2.clerk;
      buf = s2.buf;
      bytes = ap (λ (a : List ℕ). a ++ cs) k.bytes ∙ ap (λ (b : List ℕ). x.given.bytes ++ b) s2.bytes;
    }

-- ---- a part until it is used up

part_more : (n room : ℕ) (c : Clerk) (buf part : List ℕ) → 0 < length part → length part ≤ n
    → following (call_of room c buf part) (part_from (n - 1) room (call_of room c buf part).clerk (call_of room c buf part).buf (drop (used_of c buf part room) part))
    ≡ part_from n room c buf part
part_more n room c buf part h l =
    let e : suc (n - 1) ≡ n = omega (arith, h, l) in
    sym
    (ap
    (λ (b : Bool). pick b (idle c buf)
    (following (call_of room c buf part) (part_from (n - 1) room (call_of room c buf part).clerk (call_of room c buf part).buf (drop (used_of c buf part room) part))))
    (ne_eqb (length part) 0 (λ z. omega (arith, z, h))))
    ∙ ap (λ (k : ℕ). part_from k room c buf part) e

onward_same : (room n g0 g1 : ℕ) (state part out state2 out2 state3 bs : List ℕ) → length out ≡ room → 0 < length part → length part ≤ n
    → CalledIn state part out state2 out2 (used_in state part (length out)) (length (call_in state part (length out)).given.bytes)
    → g0 ≡ length (call_in state part (length out)).given.bytes → g1 ≡ used_in state part (length out)
    → Same state3 bs (part_from (n - 1) room (clerk_from state2) (buffer_in state2) (drop g1 part))
    → Same state3 (take g0 out2 ++ bs) (part_from n room (clerk_from state) (buffer_in state) part)
onward_same room n g0 g1 state part out state2 out2 state3 bs e p l c w u s =
    let k : Same state2 (take g0 out2) (call_in state part room) =
    subst (λ (m : ℕ). Same state2 (take g0 out2) (call_in state part m)) e
    (subst (λ (m : ℕ). Same state2 (take m out2) (call_in state part (length out))) (sym w) (one_call state part out state2 out2 c)) in
    let s2 : Same state3 bs (part_from (n - 1) room (clerk_from state2) (buffer_in state2) (drop (used_in state part room) part)) =
    subst (λ (m : ℕ). Same state3 bs (part_from (n - 1) room (clerk_from state2) (buffer_in state2) (drop m part))) (u ∙ ap (λ (m : ℕ). used_in state part m) e) s in
    subst (λ (v : Served). Same state3 (take g0 out2 ++ bs) v) (part_more n room (clerk_from state) (buffer_in state) part p l)
    (joined (call_in state part room) (λ d b. part_from (n - 1) room d b (drop (used_in state part room) part)) k s2)

nothing_left : (room k : ℕ) (state : List ℕ) → Same state [] (part_from k room (clerk_from state) (buffer_in state) [])
nothing_left room zero state = record { clerk = refl; buf = refl; bytes = refl }
nothing_left room (suc k) state = record { clerk = refl; buf = refl; bytes = refl }

whole_same : {room : ℕ} {state part state2 bs : List ℕ} → FedWhole room state part state2 bs → (n : ℕ) → length part ≤ n
    → Same state2 bs (part_from n room (clerk_from state) (buffer_in state) part)
whole_same (used_up room state) n h = nothing_left room n state
whole_same (once_more {room} {r} {state} {part} {out} {counts} {state2} {out2} {counts2} {state3} {bs} e p f z rest) n h =
    let c : CalledIn state part out state2 out2 (used_in state part (length out)) (length (call_in state part (length out)).given.bytes) = f.called z in
    let w : get_or counts2 0 0 ≡ length (call_in state part (length out)).given.bytes = ap (λ (l : List ℕ). get_or l 0 0) (f.counted z) in
    let u : get_or counts2 1 0 ≡ used_in state part (length out) = ap (λ (l : List ℕ). get_or l 1 0) (f.counted z) in
    let some : 0 < used_in state part (length out) = c.within.1 p in
    let few : length (drop (get_or counts2 1 0) part) ≤ n - 1 = omega (arith, length-drop (get_or counts2 1 0) part, u, some, h) in
    onward_same room n (get_or counts2 0 0) (get_or counts2 1 0) state part out state2 out2 state3 bs e p h c w u (whole_same rest (n - 1) few)

-- ---- all parts

all_same : {room : ℕ} {state state2 bs : List ℕ} {parts : List (List ℕ)} → FedAll room state parts state2 bs
    → Same state2 bs (parts_from room (clerk_from state) (buffer_in state) parts)
all_same (no_part room state) = record { clerk = refl; buf = refl; bytes = refl }
all_same (one_part {room} {state} {part} {state2} {state3} {bs} {cs} {parts} a rest) =
    joined (part_from (length part) room (clerk_from state) (buffer_in state) part) (λ d b. parts_from room d b parts) (whole_same a (length part) (omega arith))
    (all_same rest)

-- ---- from the start to the close

closed_off : (state out counts out2 counts2 : List ℕ) {r : ℕ} → ClosedIn state out counts out2 counts2 r → r ≡ 0 → take (get_or counts2 0 0) out2 ≡ closing_in state (length out)
closed_off state out counts out2 counts2 h z = taken_off (record { count = ap (λ (l : List ℕ). get_or l 0 0) (h.counted z); sheet = h.wrote z })

pub maker_output : (room : ℕ) (parts : List (List ℕ)) {r r2 : ℕ} {state0 state1 state2 bs out counts out2 counts2 : List ℕ}
    → StartedIn state0 state1 r → r ≡ 0 → state_size ≤ length state1 → FedAll room state1 parts state2 bs
    → ClosedIn state2 out counts out2 counts2 r2 → r2 ≡ 0 → length out ≡ room → longest_answer ≤ room
    → bs ++ take (get_or counts2 0 0) out2 ≡ output_of (whole parts)
unfolding served_of
maker_output room parts {r} {r2} {state0} {state1} {state2} {bs} {out} {counts} {out2} {counts2} st z n fed cl z2 e long =
    let x : Served = parts_from room start_of (buffer_in state1) parts in
    let a : Same state2 bs x = subst (λ (d : Clerk). Same state2 bs (parts_from room d (buffer_in state1) parts)) (st.back z) (all_same fed) in
    let t : take (get_or counts2 0 0) out2 ≡ (closing room (state_of x.clerk) (kept_by x.clerk x.buf)).bytes =
    closed_off state2 out counts out2 counts2 cl z2 ∙ ap (λ (m : ℕ). closing_in state2 m) e
    ∙ ap (λ (d : Clerk). (closing room (state_of d) (kept_by d (buffer_in state2))).bytes) a.clerk
    ∙ ap (λ (b : List ℕ). (closing room (state_of x.clerk) (kept_by x.clerk b)).bytes) a.buf in
    let k : kept_most ≤ length (buffer_in state1) = omega (arith, length-drop fields_size state1, n) in
    ap (λ (l : List ℕ). l ++ take (get_or counts2 0 0) out2) a.bytes ∙ ap (λ (l : List ℕ). x.given.bytes ++ l) t
    ∙ parts_output room (buffer_in state1) parts long k
