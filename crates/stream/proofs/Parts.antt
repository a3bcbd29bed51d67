-- Request No. 9: however a log is cut into parts, the codes, the bytes and the last state of start, feeding each part until it is used up, and closing, are those of the
-- whole log read at once. For any parts, none and empty ones too, any room for each answer, and a good sheet or a bad one. Assumes nothing.
use Prim.Native.Nat.{ℕ, zero, suc, ◌-◌, ◌≤◌, ◌<◌}
use mathlib.Core.Bool.{Bool, true, false, true≢false}
use mathlib.Core.Path.{◌≡◌, refl, sym, ap, subst, ◌∙◌}
use mathlib.Core.List.{List, [], ◌∷◌, ◌++◌}
use mathlib.Core.Logic.{⊎_elim}
use native.Mathlib.Omega.{arith}
use lib.ListN.{length, take, drop, replicate, length-append, length-drop, length-replicate, take-append-drop}
use lib.Dec.{leb}
use borrow.Author.Tests.{ne_eqb, leb-false}
use Rattle.laws.specs.Tests.{pick}
use Rattle.laws.proofs.Tests.{test, both_true}
use Rattle.laws.proofs.Sums.{le_or_lt}
use Rattle.writing.specs.AnswerSheet.{over}
use Rattle.lines.specs.declared.Fill.{Fill}
use Rattle.text.specs.TableSheet.{sheet_lines}
use Rattle.lines.specs.Kept.{Kept, nothing, keep_of, Gathered, gather_of, kept_in, fill_of, progress_of, Room, kept_most}
use Rattle.lines.proofs.Keeps.{fill_back, empty_room}
use Rattle.lines.proofs.Gathers.{gather_some, keep_room, gather_room}
use Rattle.table.specs.declared.table.Table.{Table}
use Rattle.table.specs.Take.{Sound}
use Rattle.table.proofs.Standing.{sound_fresh}
use Rattle.paper.specs.Paper.{stand_in}
use Rattle.paper.proofs.Sheets.{stand_in_good}
use Rattle.stream.specs.declared.Clerk.{Clerk}
use Rattle.stream.specs.declared.Fed.{Fed}
use Rattle.stream.specs.declared.ClerkAfter.{ClerkAfter}
use Rattle.stream.specs.Onward.{State, Unread, Open, Shut, Given, still, and_then, lines_done, lines_of, wanted, is_shut, byte_of, onward, closing, closed, any_short, at_once}
use Rattle.stream.specs.InPlace.{in_place_of, ran_of, awaits_block, answers_front}
use Rattle.stream.specs.Feeding.{state_at, state_of, kept_by, clerk_in, Held, start_of, heard_of, FedOn, goes_in_place, gathered_by, used_of, buffer_of}
use Rattle.stream.specs.Parts.{Served, idle, following, called_of, call_of, part_from, parts_from, served_of, whole}
use Rattle.stream.proofs.Onward.{onward_append}
use Rattle.stream.proofs.Runs.{uses_some}
use Rattle.stream.proofs.Steps.{state_shut, state_else}
use Rattle.stream.proofs.Feeds.{clerk_at, fed_kept, fed_whole, fed_shut, fed-placed, used-placed, used_shut, used_gathered, awaits_is, clerk_is, fill_in, done_nothing}
use Rattle.stream.proofs.Enough.{sound_in, done_sound, held_sound}
use Rattle.stream.proofs.On.{state_in}
use Rattle.stream.proofs.AtOnce.{heard_at_once}

-- ---- what a clerk keeps stays so over any bytes

record Fine (s : State) (k : Kept) : Type 0 where
  sound : sound_in s
  room : Room (fill_of k)
  lines : k.lines < wanted s

want_few : (s : State) → (0 < wanted s) × (wanted s ≤ sheet_lines)
want_few Unread = (omega arith, omega arith)
want_few (Open t) = (omega arith, omega arith)
want_few Shut = (omega arith, omega arith)

abbrev FineAt : Given → Type 0
FineAt x = Fine x.state x.kept

-- what a byte leads to
byte_fine : (room : ℕ) (s : State) (k : Kept) (b : ℕ) → Fine s k → Fine (byte_of room s k b).state (byte_of room s k b).kept
unfolding byte_of
byte_fine room s k b h = go (is_shut s) (leb (wanted s) (keep_of k b).lines) refl
  where
    go : (x y : Bool) → leb (wanted s) (keep_of k b).lines ≡ y → FineAt (pick x (still s k) (pick y (lines_done room s (keep_of k b).bytes) (still s (keep_of k b))))
    go true y e = h
    go false true e =
        let d : Given = lines_done room s (keep_of k b).bytes in
        subst (λ (z : Kept). Fine d.state z) (sym (done_nothing room s (keep_of k b).bytes))
        (record { sound = done_sound room s (keep_of k b).bytes h.sound; room = empty_room; lines = (want_few d.state).0 })
    go false false e = record {
      sound = h.sound;
      room = keep_room k b h.room (omega (arith, h.lines, (want_few s).1));
      lines = leb-false (wanted s) (keep_of k b).lines e;
    }

onward_fine : (room : ℕ) (s : State) (k : Kept) (bs : List ℕ) → Fine s k → Fine (onward room s k bs).state (onward room s k bs).kept
onward_fine room s k [] h = h
onward_fine room s k (b ∷ bs) h = onward_fine room (byte_of room s k b).state (byte_of room s k b).kept bs (byte_fine room s k b h)

-- the clerk is so
open_few : (c : Clerk) (o : Bool) → c.fill.lines < lines_of o → c.fill.lines < wanted (state_at o c.table)
open_few c true l = l
open_few c false l = l

held_few : (c : Clerk) → Held c → c.fill.lines < wanted (state_of c)
held_few c h = ⊎_elim
    (λ e. subst (λ (s : State). c.fill.lines < wanted s) (sym (state_shut c e)) (subst (λ (o : Bool). c.fill.lines < lines_of o) (h.shut e) h.lines))
    (λ e. subst (λ (s : State). c.fill.lines < wanted s) (sym (state_else c e)) (open_few c c.opened h.lines))
    (test c.shut)

held_fine : (c : Clerk) (buf : List ℕ) → Held c → c.fill.count ≤ length buf → Fine (state_of c) (kept_by c buf)
held_fine c buf h n = record { sound = held_sound c h; room = subst Room (fill_back c.fill buf n) h.room; lines = held_few c h }

fine_held : (t : Table) (s : State) (k : Kept) → Sound t → Fine s k → Held (clerk_in t s (fill_of k))
fine_held t Unread k h f = record { sound = h; room = f.room; lines = f.lines; shut = λ q. refl }
fine_held t (Open u) k h f = record { sound = f.sound; room = f.room; lines = f.lines; shut = λ q. absurd (true≢false (sym q)) }
fine_held t Shut k h f = record { sound = h; room = f.room; lines = f.lines; shut = λ q. refl }

-- ---- every call of `feed` can be answered: a result that meets its promise

pub record Meets (c : Clerk) (buf part out : List ℕ) : Type 0 where
  pub result : Fed
  pub buf2 : List ℕ
  pub out2 : List ℕ
  pub fed : FedOn (length out) c buf part out buf2 out2 result
  pub used : (result.used ≡ used_of c buf part (length out)) × (buf2 ≡ buffer_of c buf part (length out))

module _ (opened : Bool) (t : Table) (m : Fill) (buf part out : List ℕ) (l : m.lines < lines_of opened)
    (z : goes_in_place (clerk_at opened t m) part (length out) ≡ false) where
  abbrev g : Gathered
  g = gather_of (lines_of opened) (kept_in m buf) part

  abbrev after : List ℕ
  after = over g.kept.bytes buf

  abbrev done : Given
  done = lines_done (length out) (state_at opened t) (take (length g.kept.bytes - 0) (drop 0 after))

  abbrev step : ClerkAfter
  step = record { clerk = clerk_in t done.state (fill_of done.kept); written = length done.bytes; short = any_short done.codes }

  meets_gathered : Meets (clerk_at opened t m) buf part out
  meets_gathered = ⊎_elim
      (λ h. record {
        result = record { clerk = step.clerk; used = g.used; written = step.written; short = step.short };
        buf2 = after;
        out2 = over done.bytes out;
        fed = fed_whole opened t m buf part out after {got = progress_of g} refl refl refl {s = step} l h (record { clerk = refl; wrote = record { count = refl; sheet = refl }; short = refl });
        used = used_gathered (clerk_at opened t m) buf part (length out) refl z (refl, refl);
      })
      (λ h. record {
        result = record { clerk = clerk_at opened t (fill_of g.kept); used = g.used; written = 0; short = false };
        buf2 = after;
        out2 = out;
        fed = fed_kept opened t m buf part out after {got = progress_of g} refl refl refl h;
        used = used_gathered (clerk_at opened t m) buf part (length out) refl z (refl, refl);
      })
      (le_or_lt (lines_of opened) g.kept.lines)

module _ (t : Table) (m : Fill) (buf part out : List ℕ) (r : Room m) where
  meets_placed : awaits_block true m ≡ true → answers_front t part (length out) ≡ true → Meets (clerk_at true t m) buf part out
  meets_placed w f =
      let p = in_place_of t part (length out) in
      let n : (ran_of p part).used ≡ 0 → ⊥ = λ z. omega (arith, uses_some t part (length out) f) in
      record {
        result = record { clerk = clerk_at true p.table (fill_of nothing); used = (ran_of p part).used; written = length p.bytes; short = false };
        buf2 = buf;
        out2 = over p.bytes out;
        fed = fed-placed t m part out {a = ran_of p part} refl refl buf r w n refl;
        used = used-placed t m part out {a = ran_of p part} refl refl buf r w n;
      }

meets_open : (opened : Bool) (t : Table) (m : Fill) (buf part out : List ℕ) → Room m → m.lines < lines_of opened → Meets (clerk_at opened t m) buf part out
meets_open opened t m buf part out r l = ⊎_elim
    (λ e.
    let h = both_true (awaits_block opened m) (answers_front t part (length out)) e in
    let o : opened ≡ true = (awaits_is opened m h.0).0 in
    subst (λ (x : Bool). Meets (clerk_at x t m) buf part out) (sym o)
    (meets_placed t m buf part out r (subst (λ (x : Bool). awaits_block x m ≡ true) o h.0) h.1))
    (λ e. meets_gathered opened t m buf part out l e)
    (test (goes_in_place (clerk_at opened t m) part (length out)))

pub feeds : (c : Clerk) (buf part out : List ℕ) → Held c → kept_most ≤ length buf → Meets c buf part out
feeds c buf part out h n = ⊎_elim
    (λ e. record {
      result = record { clerk = c; used = length part; written = 0; short = false };
      buf2 = buf;
      out2 = out;
      fed = fed_shut c buf part out h (omega (arith, h.room.most)) e;
      used = used_shut c buf part (length out) e;
    })
    (λ e. subst (λ (x : Clerk). Meets x buf part out) (sym (clerk_is c c.opened e refl)) (meets_open c.opened c.table c.fill buf part out h.room h.lines))
    (test c.shut)

-- and no two: what the promise allows coincides
pub feed_alike : (c : Clerk) (buf part out : List ℕ) {buf2 out2 buf3 out3 : List ℕ} (r s : Fed) → FedOn (length out) c buf part out buf2 out2 r → FedOn (length out) c buf part out buf3 out3 s
    → (r.used ≡ used_of c buf part (length out)) × (buf2 ≡ buffer_of c buf part (length out))
    → (s.used ≡ used_of c buf part (length out)) × (buf3 ≡ buffer_of c buf part (length out)) → (r ≡ s) × (buf2 ≡ buf3) × (out2 ≡ out3)
feed_alike c buf part out {buf2} {out2} {buf3} {out3} r s f g p q =
    let u : r.used ≡ s.used = p.0 ∙ sym q.0 in
    let x : Given = heard_of (length out) c buf part r.used in
    let same : x ≡ heard_of (length out) c buf part s.used = ap (heard_of (length out) c buf part) u in (
      alike
          (f.gave.clerk ∙ ap (λ (y : Given). clerk_in c.table y.state (fill_of y.kept)) same ∙ sym g.gave.clerk)
          u
          (f.gave.wrote.count ∙ ap (λ (y : Given). length y.bytes) same ∙ sym g.gave.wrote.count)
          (f.gave.short ∙ ap (λ (y : Given). any_short y.codes) same ∙ sym g.gave.short),
      p.1 ∙ sym q.1,
      f.gave.wrote.sheet ∙ ap (λ (y : Given). over y.bytes out) same ∙ sym g.gave.wrote.sheet,
    )
  where
    alike : {c d : Clerk} {u v w z : ℕ} {a b : Bool} → c ≡ d → u ≡ v → w ≡ z → a ≡ b
        → ◌≡◌ {A = Fed} (record { clerk = c; used = u; written = w; short = a }) (record { clerk = d; used = v; written = z; short = b })
    alike e f g h = cc

-- ---- a call, and what the next finds

record Called (c : Clerk) (buf : List ℕ) (x : Served) : Type 0 where
  held : Held x.clerk
  size : length x.buf ≡ length buf
  state : state_of x.clerk ≡ x.given.state
  kept : kept_by x.clerk x.buf ≡ x.given.kept

few_lines : (o : Bool) → lines_of o ≤ sheet_lines
few_lines true = omega arith
few_lines false = omega arith

-- the buffer keeps its length
over_size : (xs l : List ℕ) → length xs ≤ length l → length (over xs l) ≡ length l
over_size xs l h = omega (arith, length-append xs (drop (length xs) l), length-drop (length xs) l)

buffer_size : (c : Clerk) (buf part : List ℕ) (room : ℕ) → Held c → kept_most ≤ length buf → length (buffer_of c buf part room) ≡ length buf
unfolding buffer_of
buffer_size c buf part room h n = go c.shut (goes_in_place c part room)
  where
    most : length (gathered_by c buf part).kept.bytes ≤ kept_most
    most =
        (gather_room (lines_of c.opened) (kept_by c buf) part (few_lines c.opened) h.lines
        (subst Room (fill_back c.fill buf (omega (arith, h.room.most))) h.room)).most

    go : (s p : Bool) → length (pick s buf (pick p buf (over (gathered_by c buf part).kept.bytes buf))) ≡ length buf
    go true p = refl
    go false true = refl
    go false false = over_size (gathered_by c buf part).kept.bytes buf (omega (arith, most))

called : (room : ℕ) (c : Clerk) (buf part : List ℕ) → Held c → kept_most ≤ length buf → Called c buf (call_of room c buf part)
unfolding call_of
called room c buf part h n =
    let out : List ℕ = replicate room 0 in
    let e : length out ≡ room = length-replicate room 0 in
    let m : Meets c buf part out = feeds c buf part out h n in
    let x : Given = called_of room c buf part in
    let same : heard_of (length out) c buf part m.result.used ≡ x =
    ap (heard_of (length out) c buf part) m.used.0 ∙ ap (λ (i : ℕ). heard_of i c buf part (used_of c buf part i)) e in
    let fill : m.result.clerk.fill ≡ fill_of x.kept =
    ap (λ (d : Clerk). d.fill) m.fed.gave.clerk
    ∙ fill_in c.table (heard_of (length out) c buf part m.result.used).state (fill_of (heard_of (length out) c buf part m.result.used).kept)
    ∙ ap (λ (y : Given). fill_of y.kept) same in
    let buffer : m.buf2 ≡ buffer_of c buf part room = m.used.1 ∙ ap (buffer_of c buf part) e in
    record {
      held = fine_held c.table x.state x.kept h.sound
          (onward_fine room (state_of c) (kept_by c buf) (take (used_of c buf part room) part) (held_fine c buf h (omega (arith, h.room.most))));
      size = buffer_size c buf part room h n;
      state = state_in c.table x.state (fill_of x.kept);
      kept =
          ap (λ (k : Fill). kept_in k (buffer_of c buf part room)) (fill_in c.table x.state (fill_of x.kept) ∙ sym fill)
          ∙ ap (kept_in m.result.clerk.fill) (sym buffer)
          ∙ m.fed.kept
          ∙ ap (λ (y : Given). y.kept) same;
    }

-- a part that has bytes is used up further
used_some : (room : ℕ) (c : Clerk) (buf part : List ℕ) → 0 < length part → 0 < used_of c buf part room
unfolding used_of
used_some room c buf part h = go c.shut (goes_in_place c part room) refl
  where
    go : (s p : Bool) → goes_in_place c part room ≡ p
        → 0 < pick s (length part) (pick p (ran_of (in_place_of c.table part room) part).used (gathered_by c buf part).used)
    go true p e = h
    go false true e = uses_some c.table part room (both_true (awaits_block c.opened c.fill) (answers_front c.table part room) e).1
    go false false e = gather_some (lines_of c.opened) (kept_by c buf) part h

-- ---- a part, fed until it is used up, and part after part

-- what was given is what the bytes lead to one by one
record Onwards (room : ℕ) (c : Clerk) (buf bytes : List ℕ) (x : Served) : Type 0 where
  next : Called c buf x
  given : x.given ≡ onward room (state_of c) (kept_by c buf) bytes

idle_onwards : (room : ℕ) (c : Clerk) (buf : List ℕ) → Held c → Onwards room c buf [] (idle c buf)
idle_onwards room c buf h = record { next = record { held = h; size = refl; state = refl; kept = refl }; given = refl }

-- one behind the other
joined : (room : ℕ) (c : Clerk) (buf xs ys : List ℕ) {x y : Served} → Called c buf x → x.given ≡ onward room (state_of c) (kept_by c buf) xs → Onwards room x.clerk x.buf ys y
    → Onwards room c buf (xs ++ ys) (following x y)
joined room c buf xs ys {x} {y} n e g =
    let z : Given = onward room (state_of c) (kept_by c buf) xs in
    record {
      next = record { held = g.next.held; size = g.next.size ∙ n.size; state = g.next.state; kept = g.next.kept };
      given =
          ap (and_then x.given) g.given
          ∙ ap (λ (s : State). and_then x.given (onward room s (kept_by x.clerk x.buf) ys)) n.state
          ∙ ap (λ (k : Kept). and_then x.given (onward room x.given.state k ys)) n.kept
          ∙ ap (λ (w : Given). and_then w (onward room w.state w.kept ys)) e
          ∙ sym (onward_append room (state_of c) (kept_by c buf) xs ys);
    }

call_given : (room : ℕ) (c : Clerk) (buf part : List ℕ) → (call_of room c buf part).given ≡ called_of room c buf part
unfolding call_of
call_given room c buf part = refl

empty_list : (x : List ℕ) → length x ≤ 0 → x ≡ []
empty_list [] h = refl
empty_list (b ∷ x) h = absurd (omega arith)

part_none : (k room : ℕ) (c : Clerk) (buf part : List ℕ) → Held c → length part ≤ 0 → Onwards room c buf part (part_from k room c buf part)
part_none k room c buf part h l =
    subst (λ (x : List ℕ). Onwards room c buf x (part_from k room c buf x)) (sym (empty_list part l)) (subst (Onwards room c buf []) (sym (none k)) (idle_onwards room c buf h))
  where
    none : (k : ℕ) → part_from k room c buf [] ≡ idle c buf
    none zero = refl
    none (suc k) = refl

part_more : (k room : ℕ) (c : Clerk) (buf part : List ℕ) → 0 < length part → part_from (suc k) room c buf part
    ≡ following (call_of room c buf part) (part_from k room (call_of room c buf part).clerk (call_of room c buf part).buf (drop (used_of c buf part room) part))
part_more k room c buf part h =
    ap (λ (z : Bool). pick z (idle c buf)
    (following (call_of room c buf part) (part_from k room (call_of room c buf part).clerk (call_of room c buf part).buf (drop (used_of c buf part room) part))))
    (ne_eqb (length part) 0 (λ z. omega arith))

part_onward : (k room : ℕ) (c : Clerk) (buf part : List ℕ) → Held c → kept_most ≤ length buf → length part ≤ k → Onwards room c buf part (part_from k room c buf part)
part_onward zero room c buf part h n l = part_none zero room c buf part h l
part_onward (suc k) room c buf part h n l = ⊎_elim
    (λ z. part_none (suc k) room c buf part h z)
    (λ z.
    let u : ℕ = used_of c buf part room in
    let x : Served = call_of room c buf part in
    let m : Called c buf x = called room c buf part h n in
    let less : length (drop u part) ≤ k = omega (arith, length-drop u part, used_some room c buf part z) in
    subst (Onwards room c buf part) (sym (part_more k room c buf part z))
    (subst (λ (l : List ℕ). Onwards room c buf l (following x (part_from k room x.clerk x.buf (drop u part)))) (take-append-drop u part)
    (joined room c buf (take u part) (drop u part) m (call_given room c buf part)
    (part_onward k room x.clerk x.buf (drop u part) m.held (omega (arith, m.size)) less))))
    (le_or_lt (length part) 0)

parts_onward : (room : ℕ) (c : Clerk) (buf : List ℕ) (parts : List (List ℕ)) → Held c → kept_most ≤ length buf → Onwards room c buf (whole parts) (parts_from room c buf parts)
parts_onward room c buf [] h n = idle_onwards room c buf h
parts_onward room c buf (p ∷ ps) h n =
    let g : Onwards room c buf p (part_from (length p) room c buf p) = part_onward (length p) room c buf p h n (omega arith) in
    joined room c buf p (whole ps) g.next g.given (parts_onward room (part_from (length p) room c buf p).clerk (part_from (length p) room c buf p).buf ps g.next.held (omega (arith, g.next.size)))

-- the clerk before the first byte
start_state : state_of start_of ≡ Unread
unfolding state_of
start_state = refl

start_held : Held start_of
start_held = record { sound = sound_fresh stand_in stand_in_good; room = empty_room; lines = omega arith; shut = λ q. absurd (true≢false (sym q)) }

pub parts_whole : (room : ℕ) (buf : List ℕ) (parts : List (List ℕ)) → kept_most ≤ length buf → served_of room buf parts ≡ at_once room (whole parts)
unfolding served_of
parts_whole room buf parts n =
    let x : Served = parts_from room start_of buf parts in
    let g : Onwards room start_of buf (whole parts) x = parts_onward room start_of buf parts start_held n in
    ap (λ (s : State). and_then x.given (closing room s (kept_by x.clerk x.buf))) g.next.state
    ∙ ap (λ (k : Kept). and_then x.given (closing room x.given.state k)) g.next.kept
    ∙ ap (closed room) (g.given ∙ ap (λ (s : State). onward room s nothing (whole parts)) start_state)
    ∙ heard_at_once room (whole parts)

-- nothing arriving changes nothing
pub nothing_heard : (room : ℕ) (c : Clerk) (buf : List ℕ) (ps : List (List ℕ)) → parts_from room c buf ([] ∷ ps) ≡ parts_from room c buf ps
nothing_heard room c buf ps = refl
