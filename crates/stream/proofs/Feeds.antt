-- A call of `feed`: shut, in place, or by way of the buffer, it does with the bytes that it uses up what they do one by one. For the proofs of the functions.
use Rattle.std.specs.Prelude.{Result, Ok, Err}
use Rattle.paper.specs.declared.Sheet.{Sheet}
use Rattle.paper.specs.declared.refusal.Refusal.{Refusal}
use Rattle.desk.specs.Log.{opened_of}
use mathlib.Core.Path.{◌≡◌, refl, sym, ap, subst, ◌∙◌}
use mathlib.Core.List.{List}
use mathlib.Core.Bool.{Bool, true, false}
use mathlib.Core.Logic.{⊎_elim}
use Prim.Native.Nat.{ℕ, ◌-◌, ◌≤◌, ◌<◌}
use native.Mathlib.Omega.{arith}
use lib.ListN.{length, take, drop}
use lib.Seq.{take-append_seam}
use lib.Dec.{eqb}
use borrow.Author.Tests.{eqb-true}
use Rattle.laws.specs.Tests.{pick, both}
use Rattle.laws.proofs.Tests.{test, both_true}
use Rattle.laws.proofs.Conjunction.{both_none}
use Rattle.writing.specs.AnswerSheet.{over}
use Rattle.lines.specs.declared.Fill.{Fill}
use Rattle.lines.specs.declared.Progress.{Progress}
use Rattle.lines.specs.Kept.{Kept, nothing, Gathered, gather_of, kept_in, fill_of, progress_of, Room}
use Rattle.lines.proofs.Keeps.{kept_back, fill_back, none_kept}
use Rattle.table.specs.declared.table.Table.{Table}
use Rattle.stream.specs.declared.Clerk.{Clerk}
use Rattle.stream.specs.declared.place.RanInPlace.{RanInPlace}
use Rattle.stream.specs.declared.Fed.{Fed}
use Rattle.stream.specs.declared.ClerkAfter.{ClerkAfter}
use Rattle.stream.specs.Onward.{State, Unread, Open, Shut, Given, still, open_of, lines_done, lines_of, onward}
use Rattle.stream.specs.InPlace.{InPlace, answers_front, in_place_of, ran_of, awaits_block}
use Rattle.stream.specs.Feeding.{state_at, kept_by, clerk_in, Held, Gave, heard_of, FedOn, goes_in_place, used_of, buffer_of}
use Rattle.stream.proofs.Onward.{shut_onward, kept_onward, ends_onward}
use Rattle.stream.proofs.Runs.{place_none, uses_some, uses_none}
use Rattle.stream.proofs.InPlace.{placed, placed_front}
use Rattle.stream.proofs.Steps.{state_shut, state_else}

-- ---- the two kinds of lines alike

kept_heard : (room : ℕ) (opened : Bool) (t : Table) (k : Kept) (part : List ℕ) → (gather_of (lines_of opened) k part).kept.lines < lines_of opened
    → onward room (state_at opened t) k (take (gather_of (lines_of opened) k part).used part) ≡ still (state_at opened t) (gather_of (lines_of opened) k part).kept
kept_heard room true t k part h = kept_onward room (Open t) refl k part h
kept_heard room false t k part h = kept_onward room Unread refl k part h

ends_heard : (room : ℕ) (opened : Bool) (t : Table) (k : Kept) (part : List ℕ) → k.lines < lines_of opened → lines_of opened ≤ (gather_of (lines_of opened) k part).kept.lines
    → onward room (state_at opened t) k (take (gather_of (lines_of opened) k part).used part) ≡ lines_done room (state_at opened t) (gather_of (lines_of opened) k part).kept.bytes
ends_heard room true t k part l h = ends_onward room (Open t) refl k part l h
ends_heard room false t k part l h = ends_onward room Unread refl k part l h

-- nothing is kept behind whole lines
pub done_nothing : (room : ℕ) (s : State) (lines : List ℕ) → (lines_done room s lines).kept ≡ nothing
done_nothing room (Open t) lines = refl
done_nothing room Shut lines = refl
done_nothing room Unread lines = go (opened_of lines)
  where
    go : (o : Result Sheet Refusal) → (open_of room o).kept ≡ nothing
    go (Ok s) = refl
    go (Err why) = refl

pub fill_in : (t : Table) (s : State) (m : Fill) → (clerk_in t s m).fill ≡ m
fill_in t Unread m = refl
fill_in t (Open u) m = refl
fill_in t Shut m = refl

-- a clerk that is not shut, by whether its sheet was read
abbrev pub clerk_at : Bool → Table → Fill → Clerk
clerk_at o t m = record { opened = o; shut = false; table = t; fill = m }

clerk_at_law : (opened : Bool) (t : Table) (m : Fill) → clerk_at opened t m ≡ clerk_in t (state_at opened t) m
clerk_at_law true t m = refl
clerk_at_law false t m = refl

-- ---- by way of the buffer

-- what the bytes lead to, said otherwise
fed_by : {c : Clerk} {buf part out buf2 out2 : List ℕ} {r : Fed} (x : Given) → heard_of (length out) c buf part r.used ≡ x
    → Gave c.table x out out2 r.clerk r.written r.short → kept_by r.clerk buf2 ≡ x.kept → FedOn (length out) c buf part out buf2 out2 r
fed_by {c} {buf} {part} {out} {buf2} {out2} {r} x e g k = record {
  gave = subst (λ (y : Given). Gave c.table y out out2 r.clerk r.written r.short) (sym e) g;
  kept = k ∙ ap (λ (y : Given). y.kept) (sym e);
}

module _ (opened : Bool) (t : Table) (m : Fill) (buf part out buf2 : List ℕ) {got : Progress} {want : ℕ} (n : want ≡ lines_of opened)
    (e : got ≡ progress_of (gather_of want (kept_in m buf) part)) (f : buf2 ≡ over (gather_of want (kept_in m buf) part).kept.bytes buf) where
  abbrev g : Gathered
  g = gather_of (lines_of opened) (kept_in m buf) part

  got_is : got ≡ progress_of g
  got_is = e ∙ ap (λ (w : ℕ). progress_of (gather_of w (kept_in m buf) part)) n

  buf_is : buf2 ≡ over g.kept.bytes buf
  buf_is = f ∙ ap (λ (w : ℕ). over (gather_of w (kept_in m buf) part).kept.bytes buf) n

  pub used_is : (got.used ≡ g.used) × (buf2 ≡ over g.kept.bytes buf)
  used_is = (ap (λ (x : Progress). x.used) got_is, buf_is)

  fill_is : got.fill ≡ fill_of g.kept
  fill_is = ap (λ (x : Progress). x.fill) got_is

  heard_is : heard_of (length out) (clerk_at opened t m) buf part got.used ≡ onward (length out) (state_at opened t) (kept_in m buf) (take g.used part)
  heard_is =
      ap (λ (s : State). onward (length out) s (kept_in m buf) (take got.used part)) (state_else (clerk_at opened t m) refl)
      ∙ ap (λ (i : ℕ). onward (length out) (state_at opened t) (kept_in m buf) (take i part)) used_is.0

  pub fed_kept : got.fill.lines < want
      → FedOn (length out) (clerk_at opened t m) buf part out buf2 out (record { clerk = clerk_at opened t got.fill; used = got.used; written = 0; short = false })
  fed_kept h =
      fed_by (still (state_at opened t) g.kept)
      (heard_is ∙ kept_heard (length out) opened t (kept_in m buf) part (omega (arith, n, ap (λ (x : Fill). x.lines) fill_is)))
      (record { clerk = clerk_at_law opened t got.fill ∙ ap (clerk_in t (state_at opened t)) fill_is; wrote = record { count = refl; sheet = refl }; short = refl })
      (ap (λ (x : Fill). kept_in x buf2) fill_is ∙ ap (kept_in (fill_of g.kept)) buf_is ∙ kept_back g.kept buf)

  pub fed_whole : {s : ClerkAfter} {out2 : List ℕ} → m.lines < lines_of opened → want ≤ got.fill.lines
      → Gave t (lines_done (length out) (state_at opened t) (take (got.fill.count - 0) (drop 0 buf2))) out out2 s.clerk s.written s.short
      → FedOn (length out) (clerk_at opened t m) buf part out buf2 out2 (record { clerk = s.clerk; used = got.used; written = s.written; short = s.short })
  fed_whole {s} {out2} l h w =
      let i : got.fill.count - 0 ≡ length g.kept.bytes = omega (arith, ap (λ (x : Fill). x.count) fill_is) in
      let bytes : take (got.fill.count - 0) (drop 0 buf2) ≡ g.kept.bytes =
      ap (λ (j : ℕ). take j buf2) i ∙ ap (take (length g.kept.bytes)) buf_is ∙ take-append_seam g.kept.bytes (drop (length g.kept.bytes) buf) in
      let x : Given = lines_done (length out) (state_at opened t) g.kept.bytes in
      let v : Gave t x out out2 s.clerk s.written s.short =
      subst (λ (y : List ℕ). Gave t (lines_done (length out) (state_at opened t) y) out out2 s.clerk s.written s.short) bytes w in
      let z : x.kept ≡ nothing = done_nothing (length out) (state_at opened t) g.kept.bytes in
      let fill : s.clerk.fill ≡ fill_of nothing = ap (λ (d : Clerk). d.fill) v.clerk ∙ fill_in t x.state (fill_of x.kept) ∙ ap fill_of z in
      fed_by x
      (heard_is ∙ ends_heard (length out) opened t (kept_in m buf) part l (omega (arith, n, ap (λ (y : Fill). y.lines) fill_is)))
      v
      (ap (λ (y : Fill). kept_in y buf2) fill ∙ sym z)

-- ---- shut

pub fed_shut : (c : Clerk) (buf part out : List ℕ) {u : ℕ} → Held c → c.fill.count ≤ length buf → c.shut ≡ true
    → FedOn (length out) c buf part out buf out (record { clerk = c; used = u; written = 0; short = false })
fed_shut c buf part out {u} h n e =
    fed_by (still Shut (kept_by c buf))
    (ap (λ (s : State). onward (length out) s (kept_by c buf) (take u part)) (state_shut c e) ∙ shut_onward (length out) (kept_by c buf) (take u part))
    (record { clerk = same (h.shut e) e (fill_back c.fill buf n); wrote = record { count = refl; sheet = refl }; short = refl })
    refl
  where
    same : {o p s q : Bool} {m l : Fill} → o ≡ p → s ≡ q → m ≡ l
        → ◌≡◌ {A = Clerk} (record { opened = o; shut = s; table = c.table; fill = m }) (record { opened = p; shut = q; table = c.table; fill = l })
    same a b d = cc

-- ---- in place

-- a clerk that awaits a block has read the sheet and keeps nothing
pub awaits_is : (opened : Bool) (m : Fill) → awaits_block opened m ≡ true → (opened ≡ true) × (m.lines ≡ 0) × (m.width ≡ 0)
awaits_is opened m h =
    let l = both_true (eqb m.lines 0) (both (eqb m.width 0) opened) h in
    let w = both_true (eqb m.width 0) opened l.1 in
    (w.1, eqb-true m.lines 0 l.0, eqb-true m.width 0 w.0)

module _ (t : Table) (m : Fill) (part out : List ℕ) {out1 : List ℕ} {a : RanInPlace} (e : a ≡ ran_of (in_place_of t part (length out)) part)
    (b : out1 ≡ over (in_place_of t part (length out)).bytes out) where
  front_none : a.used ≡ 0 → answers_front t part (length out) ≡ false
  front_none z = ⊎_elim (λ h. absurd (omega (arith, uses_some t part (length out) h, ap (λ (x : RanInPlace). x.used) e))) (λ h. h) (test (answers_front t part (length out)))

  front_some : (a.used ≡ 0 → ⊥) → answers_front t part (length out) ≡ true
  front_some n = ⊎_elim (λ h. h) (λ h. absurd (n (ap (λ (x : RanInPlace). x.used) e ∙ uses_none t part (length out) h))) (test (answers_front t part (length out)))

  -- no block was answered: nothing was written
  pub none_written : a.used ≡ 0 → out1 ≡ out
  none_written z =
      b ∙ ap (λ (p : List ℕ). over p out) (ap (λ (x : InPlace). x.bytes) (place_none t part (length out) (front_none z)))

  module _ (buf : List ℕ) (r : Room m) (w : awaits_block true m ≡ true) where
    pub fed-placed : {z : Fill} → (a.used ≡ 0 → ⊥) → z ≡ fill_of nothing
        → FedOn (length out) (clerk_at true t m) buf part out buf out1 (record { clerk = clerk_at true a.table z; used = a.used; written = a.written; short = false })
    fed-placed {z} n y =
        let p = in_place_of t part (length out) in
        let q = placed (length out) t part in
        let k = awaits_is true m w in
        let heard : heard_of (length out) (clerk_at true t m) buf part a.used ≡ onward (length out) (Open t) nothing q.front =
        ap (λ (s : State). onward (length out) s (kept_in m buf) (take a.used part)) (state_else (clerk_at true t m) refl)
        ∙ ap (λ (x : Kept). onward (length out) (Open t) x (take a.used part)) (none_kept m buf r k.1 k.2)
        ∙ ap (onward (length out) (Open t) nothing) (ap (λ (x : RanInPlace). take x.used part) e ∙ placed_front (length out) t part) in
        let x : Given = onward (length out) (Open t) nothing q.front in
        fed_by x heard
        (record {
          clerk = same (ap (λ (u : RanInPlace). u.table) e) y ∙ ap (λ (s : State). clerk_in t s (fill_of nothing)) (sym q.state) ∙ ap (λ (u : Kept). clerk_in t x.state (fill_of u)) (sym q.kept);
          wrote = record { count = ap (λ (u : RanInPlace). u.written) e ∙ ap length (sym q.bytes); sheet = b ∙ ap (λ (l : List ℕ). over l out) (sym q.bytes) };
          short = sym q.short;
        })
        (ap (λ (u : Fill). kept_in u buf) y ∙ sym q.kept)
      where
        same : {u v : Table} {x y : Fill} → u ≡ v → x ≡ y → clerk_at true u x ≡ clerk_in t (Open v) y
        same p q = cc

    -- how far
    pub used-placed : (a.used ≡ 0 → ⊥) → (a.used ≡ used_of (clerk_at true t m) buf part (length out)) × (buf ≡ buffer_of (clerk_at true t m) buf part (length out))
    unfolding used_of buffer_of
    used-placed n =
        let goes : goes_in_place (clerk_at true t m) part (length out) ≡ true = ap (λ (x : Bool). both x (answers_front t part (length out))) w ∙ front_some n in (
          ap (λ (x : RanInPlace). x.used) e
              ∙ sym (ap (λ (x : Bool). pick x (ran_of (in_place_of t part (length out)) part).used (gather_of 5 (kept_in m buf) part).used) goes),
          sym (ap (λ (x : Bool). pick x buf (over (gather_of 5 (kept_in m buf) part).kept.bytes buf)) goes),
        )

-- ---- how far any call goes

module _ (c : Clerk) (buf part : List ℕ) (room : ℕ) where
  pub used_shut : c.shut ≡ true → (length part ≡ used_of c buf part room) × (buf ≡ buffer_of c buf part room)
  unfolding used_of buffer_of
  used_shut e = (
    sym (ap (λ (x : Bool). pick x (length part) (pick (goes_in_place c part room) (ran_of (in_place_of c.table part room) part).used (gather_of (lines_of c.opened) (kept_by c buf) part).used)) e),
    sym (ap (λ (x : Bool). pick x buf (pick (goes_in_place c part room) buf (over (gather_of (lines_of c.opened) (kept_by c buf) part).kept.bytes buf))) e),
  )

  pub used_gathered : {u : ℕ} {buf2 : List ℕ} → c.shut ≡ false → goes_in_place c part room ≡ false
      → (u ≡ (gather_of (lines_of c.opened) (kept_by c buf) part).used) × (buf2 ≡ over (gather_of (lines_of c.opened) (kept_by c buf) part).kept.bytes buf)
      → (u ≡ used_of c buf part room) × (buf2 ≡ buffer_of c buf part room)
  unfolding used_of buffer_of
  used_gathered {u} {buf2} e z h = (
    h.0
        ∙ sym (ap (λ (x : Bool). pick x (length part) (pick (goes_in_place c part room) (ran_of (in_place_of c.table part room) part).used (gather_of (lines_of c.opened) (kept_by c buf) part).used)) e
        ∙ ap (λ (x : Bool). pick x (ran_of (in_place_of c.table part room) part).used (gather_of (lines_of c.opened) (kept_by c buf) part).used) z),
    h.1
        ∙ sym (ap (λ (x : Bool). pick x buf (pick (goes_in_place c part room) buf (over (gather_of (lines_of c.opened) (kept_by c buf) part).kept.bytes buf))) e
        ∙ ap (λ (x : Bool). pick x buf (over (gather_of (lines_of c.opened) (kept_by c buf) part).kept.bytes buf)) z),
  )

  pub used_kept : {a : Bool} {u : ℕ} {buf2 : List ℕ} → c.shut ≡ false → a ≡ awaits_block c.opened c.fill → a ≡ false
      → (u ≡ (gather_of (lines_of c.opened) (kept_by c buf) part).used) × (buf2 ≡ over (gather_of (lines_of c.opened) (kept_by c buf) part).kept.bytes buf)
      → (u ≡ used_of c buf part room) × (buf2 ≡ buffer_of c buf part room)
  used_kept e f n h = used_gathered e (ap (λ (x : Bool). both x (answers_front c.table part room)) (sym f ∙ n)) h

-- no block was answered in place
pub used_none : (t : Table) (m : Fill) (part out : List ℕ) {a : RanInPlace} → a ≡ ran_of (in_place_of t part (length out)) part → (buf : List ℕ) {u : ℕ} {buf2 : List ℕ} → a.used ≡ 0
    → (u ≡ (gather_of 5 (kept_in m buf) part).used) × (buf2 ≡ over (gather_of 5 (kept_in m buf) part).kept.bytes buf)
    → (u ≡ used_of (clerk_at true t m) buf part (length out)) × (buf2 ≡ buffer_of (clerk_at true t m) buf part (length out))
used_none t m part out e buf z h =
    used_gathered (clerk_at true t m) buf part (length out) refl (ap (both (awaits_block true m)) (front_none t m part out e refl z) ∙ both_none (awaits_block true m)) h

-- ---- a clerk that is not shut, field by field

pub clerk_is : (c : Clerk) (o : Bool) → c.shut ≡ false → c.opened ≡ o → c ≡ clerk_at o c.table c.fill
clerk_is c o e f =
    ap (λ (s : Bool). record { opened = c.opened; shut = s; table = c.table; fill = c.fill }) e
    ∙ ap (λ (x : Bool). clerk_at x c.table c.fill) f

pub awaits_open : (opened : Bool) (m : Fill) {a : Bool} → a ≡ awaits_block opened m → a ≡ true → awaits_block true m ≡ true
awaits_open opened m e f =
    let h = sym e ∙ f in
    ap (λ (o : Bool). awaits_block o m) (sym (awaits_is opened m h).0) ∙ h

module _ {c d : Clerk} {buf part : List ℕ} {room : ℕ} where
  pub fed_as : {out buf2 out2 : List ℕ} {r : Fed} → c ≡ d → FedOn room d buf part out buf2 out2 r → FedOn room c buf part out buf2 out2 r
  fed_as {out} {buf2} {out2} {r} e f = subst (λ (x : Clerk). FedOn room x buf part out buf2 out2 r) (sym e) f

pub used_as : {c d : Clerk} (buf part : List ℕ) (room : ℕ) {u : ℕ} {buf2 : List ℕ} → c ≡ d → (u ≡ used_of d buf part room) × (buf2 ≡ buffer_of d buf part room) → (u ≡ used_of c buf part room) × (buf2 ≡ buffer_of c buf part room)
used_as buf part room {u} {buf2} e f = subst (λ (x : Clerk). (u ≡ used_of x buf part room) × (buf2 ≡ buffer_of x buf part room)) (sym e) f

pub fed_out : {c : Clerk} {buf part out out1 buf2 out2 : List ℕ} {r : Fed} → out1 ≡ out → FedOn (length out1) c buf part out1 buf2 out2 r → FedOn (length out) c buf part out buf2 out2 r
fed_out {c} {buf} {part} {out} {out1} {buf2} {out2} {r} e f = subst (λ (x : List ℕ). FedOn (length x) c buf part x buf2 out2 r) e f
