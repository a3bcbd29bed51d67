-- A call of `feed`: behind a bad sheet, or by way of the buffer, it does with the bytes that it uses up what they do one by one. For the proofs of the functions.
-- Assumes nothing.
use mathlib.Core.Path.{◌≡◌, refl, sym, ap, subst, ◌∙◌}
use mathlib.Core.List.{List}
use mathlib.Core.Bool.{Bool, true, false}
use Prim.Native.Nat.{ℕ, ◌-◌, ◌≤◌, ◌<◌}
use native.Mathlib.Omega.{arith}
use lib.ListN.{length, take, drop}
use lib.Seq.{take-append_seam}
use Rattle.std.specs.Prelude.{Result, Ok, Err}
use Rattle.paper.specs.declared.refusal.Refusal.{Refusal}
use Rattle.laws.specs.Tests.{pick}
use Rattle.writing.specs.AnswerSheet.{over}
use Rattle.paper.specs.declared.Sheet.{Sheet}
use Rattle.text.specs.TableSheet.{sheet_of}
use Rattle.lines.specs.declared.Fill.{Fill}
use Rattle.lines.specs.declared.Progress.{Progress}
use Rattle.lines.specs.Kept.{Kept, nothing, Gathered, gather_of, kept_in, fill_of, progress_of, Room, lines_of}
use Rattle.lines.proofs.Keeps.{kept_back, fill_back}
use Rattle.copier.specs.declared.Copier.{Copier}
use Rattle.copier.specs.declared.Fed.{Fed}
use Rattle.copier.specs.declared.CopierAfter.{CopierAfter}
use Rattle.copier.specs.Onward.{State, Unread, Open, Shut, Given, still, sheet_done, lines_done, onward}
use Rattle.copier.specs.Feeding.{state_at, kept_by, copier_in, Held, Gave, heard_of, FedOn, used_of, buffer_of}
use Rattle.copier.proofs.Onward.{shut_onward, kept_onward, ends_onward}
use Rattle.copier.proofs.Steps.{state_shut, state_else}

-- ---- the two kinds of lines alike
kept_heard : (opened : Bool) (s : Sheet) (n : ℕ) (k : Kept) (part : List ℕ) → (gather_of (lines_of opened) k part).kept.lines < lines_of opened
    → onward (state_at opened s n) k (take (gather_of (lines_of opened) k part).used part) ≡ still (state_at opened s n) (gather_of (lines_of opened) k part).kept
kept_heard true s n k part h = kept_onward (Open s n) refl k part h
kept_heard false s n k part h = kept_onward Unread refl k part h

ends_heard : (opened : Bool) (s : Sheet) (n : ℕ) (k : Kept) (part : List ℕ) → k.lines < lines_of opened → lines_of opened ≤ (gather_of (lines_of opened) k part).kept.lines
    → onward (state_at opened s n) k (take (gather_of (lines_of opened) k part).used part) ≡ lines_done (state_at opened s n) (gather_of (lines_of opened) k part).kept.bytes
ends_heard true s n k part l h = ends_onward (Open s n) refl k part l h
ends_heard false s n k part l h = ends_onward Unread refl k part l h

-- nothing is kept behind whole lines
done_nothing : (s : State) (lines : List ℕ) → (lines_done s lines).kept ≡ nothing
done_nothing (Open s n) lines = refl
done_nothing Shut lines = refl
done_nothing Unread lines = go (sheet_of lines)
  where
    go : (o : Result Sheet Refusal) → (sheet_done o).kept ≡ nothing
    go (Ok s) = refl
    go (Err why) = refl

fill_in : (s : State) (m : Fill) → (copier_in s m).fill ≡ m
fill_in Unread m = refl
fill_in (Open s n) m = refl
fill_in Shut m = refl

-- ---- a copier whose sheet is not bad, by whether its sheet was read

abbrev pub copier_at : Bool → Sheet → ℕ → Fill → Copier
copier_at o s n m = record { opened = o; shut = false; sheet = s; count = n; fill = m }

-- it is its own with another fill too
own_fill : (o : Bool) (s : Sheet) (n : ℕ) (m k : Fill) → copier_at o s n m ≡ copier_in (state_at o s n) m → copier_at o s n k ≡ copier_in (state_at o s n) k
own_fill true s n m k e = refl
own_fill false s n m k e = same (ap (λ (c : Copier). c.sheet) e) (ap (λ (c : Copier). c.count) e)
  where
    same : {t u : Sheet} {i j : ℕ} → t ≡ u → i ≡ j → copier_at false t i k ≡ copier_at false u j k
    same p q = cc

module _ (o : Bool) (s : Sheet) (n : ℕ) (m : Fill) (h : Held (copier_at o s n m)) where
  own : copier_at o s n m ≡ copier_in (state_at o s n) m
  own = h.own ∙ ap (λ (x : State). copier_in x m) (state_else (copier_at o s n m) refl)

  own_with : (k : Fill) → copier_at o s n k ≡ copier_in (state_at o s n) k
  own_with k = own_fill o s n m k own

  pub held_with : (k : Fill) → Room k → k.lines < lines_of o → Held (copier_at o s n k)
  held_with k r l = record { own = own_with k ∙ ap (λ (x : State). copier_in x k) (sym (state_else (copier_at o s n k) refl)); room = r; lines = l }

-- ---- by way of the buffer

-- what the bytes lead to, said otherwise
fed_by : {c : Copier} {buf part copy notes buf2 copy2 notes2 : List ℕ} {r : Fed} (x : Given) → heard_of c buf part r.used ≡ x
    → Gave x copy notes copy2 notes2 r.copier r.written r.noted → kept_by r.copier buf2 ≡ x.kept → FedOn c buf part copy notes buf2 copy2 notes2 r
fed_by {c} {buf} {part} {copy} {notes} {buf2} {copy2} {notes2} {r} x e g k = record {
  gave = subst (λ (y : Given). Gave y copy notes copy2 notes2 r.copier r.written r.noted) (sym e) g;
  kept = k ∙ ap (λ (y : Given). y.kept) (sym e);
}

module _ (o : Bool) (s : Sheet) (n : ℕ) (m : Fill) (h : Held (copier_at o s n m)) (buf part copy notes buf2 : List ℕ) {got : Progress} {want : ℕ} (w : want ≡ lines_of o)
    (e : got ≡ progress_of (gather_of want (kept_in m buf) part)) (f : buf2 ≡ over (gather_of want (kept_in m buf) part).kept.bytes buf) where
  abbrev g : Gathered
  g = gather_of (lines_of o) (kept_in m buf) part

  got_is : got ≡ progress_of g
  got_is = e ∙ ap (λ (i : ℕ). progress_of (gather_of i (kept_in m buf) part)) w

  buf_is : buf2 ≡ over g.kept.bytes buf
  buf_is = f ∙ ap (λ (i : ℕ). over (gather_of i (kept_in m buf) part).kept.bytes buf) w

  pub used_is : (got.used ≡ used_of (copier_at o s n m) buf part) × (buf2 ≡ buffer_of (copier_at o s n m) buf part)
  unfolding used_of buffer_of
  used_is = (ap (λ (x : Progress). x.used) got_is, buf_is)

  fill_is : got.fill ≡ fill_of g.kept
  fill_is = ap (λ (x : Progress). x.fill) got_is

  heard_is : heard_of (copier_at o s n m) buf part got.used ≡ onward (state_at o s n) (kept_in m buf) (take g.used part)
  heard_is =
      ap (λ (x : State). onward x (kept_in m buf) (take got.used part)) (state_else (copier_at o s n m) refl)
      ∙ ap (λ (i : ℕ). onward (state_at o s n) (kept_in m buf) (take i part)) (ap (λ (x : Progress). x.used) got_is)

  pub fed_kept : got.fill.lines < want
      → FedOn (copier_at o s n m) buf part copy notes buf2 copy notes (record { copier = copier_at o s n got.fill; used = got.used; written = 0; noted = 0 })
  fed_kept l =
      fed_by (still (state_at o s n) g.kept)
      (heard_is ∙ kept_heard o s n (kept_in m buf) part (omega (arith, w, ap (λ (x : Fill). x.lines) fill_is)))
      (record {
        copier = own_with o s n m h got.fill ∙ ap (copier_in (state_at o s n)) fill_is;
        copied = record { count = refl; sheet = refl };
        said = record { count = refl; sheet = refl };
      })
      (ap (λ (x : Fill). kept_in x buf2) fill_is ∙ ap (kept_in (fill_of g.kept)) buf_is ∙ kept_back g.kept buf)

  pub fed_whole : {t : CopierAfter} {copy2 notes2 : List ℕ} → want ≤ got.fill.lines
      → Gave (lines_done (state_at o s n) (take (got.fill.count - 0) (drop 0 buf2))) copy notes copy2 notes2 t.copier t.written t.noted
      → FedOn (copier_at o s n m) buf part copy notes buf2 copy2 notes2 (record { copier = t.copier; used = got.used; written = t.written; noted = t.noted })
  fed_whole {t} {copy2} {notes2} l v =
      let i : got.fill.count - 0 ≡ length g.kept.bytes = omega (arith, ap (λ (x : Fill). x.count) fill_is) in
      let bytes : take (got.fill.count - 0) (drop 0 buf2) ≡ g.kept.bytes =
      ap (λ (j : ℕ). take j buf2) i ∙ ap (take (length g.kept.bytes)) buf_is ∙ take-append_seam g.kept.bytes (drop (length g.kept.bytes) buf) in
      let x : Given = lines_done (state_at o s n) g.kept.bytes in
      let u : Gave x copy notes copy2 notes2 t.copier t.written t.noted =
      subst (λ (y : List ℕ). Gave (lines_done (state_at o s n) y) copy notes copy2 notes2 t.copier t.written t.noted) bytes v in
      fed_by x
      (heard_is ∙ ends_heard o s n (kept_in m buf) part h.lines (omega (arith, w, ap (λ (y : Fill). y.lines) fill_is)))
      u
      (ap (λ (d : Copier). kept_in d.fill buf2) u.copier
      ∙ ap (λ (k : Fill). kept_in k buf2) (fill_in x.state (fill_of x.kept))
      ∙ ap (λ (k : Kept). kept_in (fill_of k) buf2) (done_nothing (state_at o s n) g.kept.bytes)
      ∙ sym (done_nothing (state_at o s n) g.kept.bytes))

-- ---- behind a bad sheet

pub fed_shut : (c : Copier) (buf part copy notes : List ℕ) → Held c → c.fill.count ≤ length buf → c.shut ≡ true
    → FedOn c buf part copy notes buf copy notes (record { copier = c; used = length part; written = 0; noted = 0 })
fed_shut c buf part copy notes h l e =
    fed_by (still Shut (kept_by c buf))
    (ap (λ (x : State). onward x (kept_by c buf) (take (length part) part)) (state_shut c e) ∙ shut_onward (kept_by c buf) (take (length part) part))
    (record {
      copier = h.own ∙ ap (λ (x : State). copier_in x c.fill) (state_shut c e) ∙ ap (copier_in Shut) (fill_back c.fill buf l);
      copied = record { count = refl; sheet = refl };
      said = record { count = refl; sheet = refl };
    })
    refl

pub used_shut : (c : Copier) (buf part : List ℕ) → c.shut ≡ true → (length part ≡ used_of c buf part) × (buf ≡ buffer_of c buf part)
unfolding used_of buffer_of
used_shut c buf part e = (
  sym (ap (λ (x : Bool). pick x (length part) (gather_of (lines_of c.opened) (kept_by c buf) part).used) e),
  sym (ap (λ (x : Bool). pick x buf (over (gather_of (lines_of c.opened) (kept_by c buf) part).kept.bytes buf)) e),
)

-- ---- a copier that is not shut, field by field

pub copier_is : (c : Copier) → c.shut ≡ false → c ≡ copier_at c.opened c.sheet c.count c.fill
copier_is c e = ap (λ (s : Bool). record { opened = c.opened; shut = s; sheet = c.sheet; count = c.count; fill = c.fill }) e

pub held_as : (c : Copier) → c.shut ≡ false → Held c → Held (copier_at c.opened c.sheet c.count c.fill)
held_as c e h = subst Held (copier_is c e) h

pub fed_as : {c d : Copier} {buf part copy notes buf2 copy2 notes2 : List ℕ} {r : Fed} → c ≡ d → FedOn d buf part copy notes buf2 copy2 notes2 r
    → FedOn c buf part copy notes buf2 copy2 notes2 r
fed_as {c} {d} {buf} {part} {copy} {notes} {buf2} {copy2} {notes2} {r} e f = subst (λ (x : Copier). FedOn x buf part copy notes buf2 copy2 notes2 r) (sym e) f

pub used_as : {c d : Copier} (buf part : List ℕ) {u : ℕ} {buf2 : List ℕ} → c ≡ d → (u ≡ used_of d buf part) × (buf2 ≡ buffer_of d buf part)
    → (u ≡ used_of c buf part) × (buf2 ≡ buffer_of c buf part)
used_as buf part {u} {buf2} e f = subst (λ (x : Copier). (u ≡ used_of x buf part) × (buf2 ≡ buffer_of x buf part)) (sym e) f
