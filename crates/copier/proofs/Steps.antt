-- Whole lines, the sheet or a block, and the close: a copy is no longer than the lines that it copies, so what the calls say and write is what is given. For the
-- proofs of the functions. Assumes nothing.
use mathlib.Core.Path.{◌≡◌, refl, sym, ap, subst, ◌∙◌}
use mathlib.Core.List.{List, []}
use mathlib.Core.Bool.{Bool, true, false, not}
use Prim.Native.Nat.{ℕ, ◌-◌, ◌≤◌}
use native.Mathlib.Omega.{arith}
use lib.ListN.{length, take, drop, length-append, length-take}
use lib.Dec.{eqb}
use borrow.Author.Tests.{le-leb, eq-eqb, ne_eqb}
use Rattle.std.specs.Prelude.{Result, Ok, Err}
use Rattle.paper.specs.declared.refusal.Refusal.TheVariants.{BadSheet, NoRoom}
use Rattle.paper.specs.declared.refusal.Refusal.{Refusal}
use Rattle.laws.specs.Tests.{pick}
use Rattle.paper.specs.RefusalNumbers.{taken, out_of_range, when}
use Rattle.paper.specs.Paper.{is_sheet}
use Rattle.paper.specs.declared.Sheet.{Sheet}
use Rattle.paper.specs.declared.Entry.{Entry}
use Rattle.text.specs.Codes.{eleven}
use Rattle.text.specs.TableSheet.{sheet_of, sheet_end}
use Rattle.text.proofs.SheetLaws.{sheet_is}
use Rattle.blocks.specs.Block.{block_of, rest_of}
use Rattle.blocks.specs.Entry.{parsed_of}
use Rattle.blocks.specs.declared.Block.{Block}
use Rattle.blocks.specs.declared.Block.TheVariants.{Raw, Malformed, Nothing}
use Rattle.writing.specs.AnswerSheet.{Wrote, over, fits, sheet_after}
use Rattle.lines.specs.Kept.{nothing, fill_of}
use Rattle.lines.proofs.Keeps.{empty_room}
use Rattle.logs.specs.declared.copy.Copied.{Copied}
use Rattle.logs.specs.LogText.{sheet_text, entry_text, is_entry, put_of, put_after}
use Rattle.logs.specs.FairCopy.{entry_code, form_code, block_code, entry_copy, form_copy, block_copy, note_text, note_most, note_in, note_of, next_number, copied_as, entry_copied, form_copied, copied_of}
use Rattle.logs.proofs.EntryText.{accepted_back}
use Rattle.logs.proofs.SheetText.{sheet_back}
use Rattle.copier.specs.declared.Copier.{Copier}
use Rattle.copier.specs.Onward.{State, Unread, Open, Shut, Given, still, block_done, sheet_done, lines_done, closing}
use Rattle.copier.specs.Feeding.{state_at, state_of, kept_by, copier_in, Held, Gave}

-- ---- a block's copy is no longer than the block

-- a block that the reader accepts is written back byte for byte
back_most : (log : List ℕ) (n k seat a b : ℕ) (e : Entry) → block_of log ≡ Raw n k seat a b → parsed_of k seat a b ≡ Ok e → length (entry_text n e) ≤ length log
back_most log n k seat a b e p q =
    omega (arith, ap length (accepted_back log n k seat a b e p q), length-append (entry_text n e) (rest_of log))

-- so where the buffer is as long as the block, its copy has room
module _ (s : Sheet) (log buffer : List ℕ) (h : length log ≤ length buffer) where
  abbrev Is : Copied → ℕ → List ℕ → Type 0
  Is r code bs = (r ≡ record { code = code; written = length bs }) × (length bs ≤ length buffer)

  entry_is : (good : Bool) (bs : List ℕ) → length bs ≤ length buffer → Is (copied_as (put_of good bs buffer)) (when (not good) out_of_range) (pick good bs [])
  entry_is true bs l = (ap (λ (t : Bool). copied_as (pick t (Ok (length bs)) (Err NoRoom))) (le-leb (length bs) (length buffer) l), l)
  entry_is false bs l = (refl, omega arith)

  parsed_is : (n k seat a b : ℕ) (p : Result Entry Refusal) → block_of log ≡ Raw n k seat a b → parsed_of k seat a b ≡ p
      → Is (entry_copied s n p buffer) (entry_code s n p) (entry_copy s n p)
  parsed_is n k seat a b (Err why) e f = (refl, omega arith)
  parsed_is n k seat a b (Ok x) e f = entry_is (is_entry s n x) (entry_text n x) (omega (arith, back_most log n k seat a b x e f))

  form_is : (b : Block) → block_of log ≡ b → Is (form_copied s b buffer) (form_code s b) (form_copy s b)
  form_is Malformed e = (refl, omega arith)
  form_is Nothing e = (refl, omega arith)
  form_is (Raw n k seat a b) e = parsed_is n k seat a b (parsed_of k seat a b) e refl

  pub copied_is : Is (copied_of s log buffer) (block_code s log) (block_copy s log)
  unfolding copied_of block_code block_copy
  copied_is = form_is (block_of log) refl

  copy_fits : sheet_after (block_copy s log) buffer ≡ over (block_copy s log) buffer
  copy_fits = ap (λ (t : Bool). pick t (over (block_copy s log) buffer) buffer) (le-leb (length (block_copy s log)) (length buffer) copied_is.1)

  pub block_copied : {k : Copied} {new : List ℕ} → k ≡ copied_of s log buffer → new ≡ sheet_after (block_copy s log) buffer
      → Wrote (block_copy s log) buffer new k.written × (k.code ≡ block_code s log)
  block_copied {k} {new} e f =
      let q = e ∙ copied_is.0 in
      (record { count = ap (λ (x : Copied). x.written) q; sheet = f ∙ copy_fits }, ap (λ (x : Copied). x.code) q)

-- and a sheet's no longer than the sheet
module _ (log : List ℕ) (s : Sheet) (e : sheet_of log ≡ Ok s) (buffer : List ℕ) (h : length log ≤ length buffer) where
  pub sheet_copied : {k : Copied} {new : List ℕ} → k ≡ copied_as (put_of (is_sheet s) (sheet_text s) buffer) → new ≡ put_after (is_sheet s) (sheet_text s) buffer
      → Wrote (sheet_text s) buffer new k.written
  sheet_copied {k} {new} f g =
      let good : is_sheet s ≡ true = sheet_is log s e in
      let l : length (sheet_text s) ≤ length buffer = omega (arith, ap length (sheet_back log s e), length-append (sheet_text s) (sheet_end log)) in
      let fit : fits (sheet_text s) buffer ≡ true = le-leb (length (sheet_text s)) (length buffer) l in
      record {
        count =
            ap (λ (x : Copied). x.written) f
            ∙ ap (λ (t : Bool). (copied_as (put_of t (sheet_text s) buffer)).written) good
            ∙ ap (λ (t : Bool). (copied_as (pick t (Ok (length (sheet_text s))) (Err NoRoom))).written) fit;
        sheet =
            g
            ∙ ap (λ (t : Bool). put_after t (sheet_text s) buffer) good
            ∙ ap (λ (t : Bool). pick t (over (sheet_text s) buffer) buffer) fit;
      }

-- ---- whole lines

pub held_in : (s : State) → Held (copier_in s (fill_of nothing))
unfolding state_of
held_in Unread = record { own = refl; room = empty_room; lines = omega arith }
held_in (Open s n) = record { own = refl; room = empty_room; lines = omega arith }
held_in Shut = record { own = refl; room = empty_room; lines = omega arith }

-- with nothing kept a copier in a state is held
pub made : {d : Copier} (s : State) → d ≡ copier_in s (fill_of nothing) → (d ≡ copier_in s (fill_of nothing)) × Held d
made {d} s e = (e, subst Held (sym e) (held_in s))

note_room : (n code room : ℕ) → note_most ≤ room → note_in n code room ≡ note_of n code
note_room n code room h = ap (λ (t : Bool). pick (eqb code taken) [] (pick t (note_text n code) [])) (le-leb note_most room h)

pub block_gave : (s : Sheet) (count : ℕ) (block copy notes : List ℕ) → length block ≤ length copy → note_most ≤ length notes
    → {n : ℕ} {k : Copied} {d : Copier} {copy2 notes2 : List ℕ} {noted : ℕ} → n ≡ next_number count → k ≡ copied_of s block copy
    → copy2 ≡ sheet_after (block_copy s block) copy → Wrote (note_in n k.code (length notes)) notes notes2 noted → d ≡ copier_in (Open s n) (fill_of nothing)
    → Gave (block_done s count block) copy notes copy2 notes2 d k.written noted
block_gave s count block copy notes h r {n} {k} {d} {copy2} {notes2} {noted} e f g w q =
    let b = block_copied s block copy h f g in
    record {
      copier = q ∙ ap (λ (i : ℕ). copier_in (Open s i) (fill_of nothing)) e;
      copied = b.0;
      said = subst (λ (l : List ℕ). Wrote l notes notes2 noted)
          (note_room n k.code (length notes) r ∙ ap (λ (i : ℕ). note_of i k.code) e ∙ ap (note_of (next_number count)) b.1) w;
    }

module _ (block copy notes : List ℕ) {o : Result Sheet Refusal} (e : o ≡ sheet_of block) where
  pub bad_gave : {notes2 : List ℕ} {d : Copier} {r : ℕ} {why : Refusal} → o ≡ Err why → Wrote eleven notes notes2 r → d ≡ copier_in Shut (fill_of nothing)
      → Gave (lines_done Unread block) copy notes copy notes2 d 0 r
  bad_gave {notes2} {d} {r} q w g =
      subst (λ (x : Result Sheet Refusal). Gave (sheet_done x) copy notes copy notes2 d 0 r) (sym q ∙ e)
      (record { copier = g; copied = record { count = refl; sheet = refl }; said = w })

  pub read_gave : {s : Sheet} {k : Copied} {copy2 : List ℕ} {d : Copier} → o ≡ Ok s → length block ≤ length copy
      → k ≡ copied_as (put_of (is_sheet s) (sheet_text s) copy) → copy2 ≡ put_after (is_sheet s) (sheet_text s) copy → d ≡ copier_in (Open s 0) (fill_of nothing)
      → Gave (lines_done Unread block) copy notes copy2 notes d k.written 0
  read_gave {s} {k} {copy2} {d} q h f g c =
      subst (λ (x : Result Sheet Refusal). Gave (sheet_done x) copy notes copy2 notes d k.written 0) (sym q ∙ e)
      (record { copier = c; copied = sheet_copied block s (sym e ∙ q) copy h f g; said = record { count = refl; sheet = refl } })

pub gave_as : (s : Sheet) (count : ℕ) (block : List ℕ) {o p : Bool} {copy notes copy2 notes2 : List ℕ} {w n : ℕ} {d : Copier} → p ≡ o
    → Gave (lines_done (state_at o s count) block) copy notes copy2 notes2 d w n → Gave (lines_done (state_at p s count) block) copy notes copy2 notes2 d w n
gave_as s count block {o} {p} {copy} {notes} {copy2} {notes2} {w} {n} {d} e g =
    subst (λ (x : Bool). Gave (lines_done (state_at x s count) block) copy notes copy2 notes2 d w n) (sym e) g

-- ---- the state of a copier

pub state_shut : (c : Copier) → c.shut ≡ true → state_of c ≡ Shut
unfolding state_of
state_shut c e = ap (λ (b : Bool). pick b Shut (state_at c.opened c.sheet c.count)) e

pub state_else : (c : Copier) → c.shut ≡ false → state_of c ≡ state_at c.opened c.sheet c.count
unfolding state_of
state_else c e = ap (λ (b : Bool). pick b Shut (state_at c.opened c.sheet c.count)) e

-- ---- the four answers of closing

module _ (c : Copier) (buf copy notes : List ℕ) where
  abbrev Closes : List ℕ → List ℕ → ℕ → ℕ → Given → Type 0
  Closes copy2 notes2 w n x = Wrote x.copy copy copy2 w × (Wrote x.notes notes notes2 n × ((w ≤ length copy) × (n ≤ length notes)))

  abbrev closing_is : Given
  closing_is = closing (state_of c) (kept_by c buf)

  closed_by : {copy2 notes2 : List ℕ} {w n : ℕ} (s : State) → state_of c ≡ s → Closes copy2 notes2 w n (closing s (kept_by c buf)) → Closes copy2 notes2 w n closing_is
  closed_by {copy2} {notes2} {w} {n} s e h = subst (λ (x : State). Closes copy2 notes2 w n (closing x (kept_by c buf))) (sym e) h

  none : (s : State) → Closes copy notes 0 0 (still s nothing)
  none s = (record { count = refl; sheet = refl }, (record { count = refl; sheet = refl }, (omega arith, omega arith)))

  pub close_shut : c.shut ≡ true → Closes copy notes 0 0 closing_is
  close_shut e = closed_by Shut (state_shut c e) (none Shut)

  open_is : c.shut ≡ false → c.opened ≡ true → state_of c ≡ Open c.sheet c.count
  open_is e f = state_else c e ∙ ap (λ (b : Bool). state_at b c.sheet c.count) f

  size : c.fill.count ≤ length buf → length (take c.fill.count buf) ≡ c.fill.count
  size h = omega (arith, length-take c.fill.count buf)

  pub close_none : c.fill.count ≤ length buf → c.shut ≡ false → c.opened ≡ true → c.fill.count ≡ 0 → Closes copy notes 0 0 closing_is
  close_none h e f g =
      closed_by (Open c.sheet c.count) (open_is e f)
      (subst (λ (b : Bool). Closes copy notes 0 0 (pick b (still (Open c.sheet c.count) nothing) (block_done c.sheet c.count (take c.fill.count buf))))
      (sym (eq-eqb (length (take c.fill.count buf)) 0 (size h ∙ g))) (none (Open c.sheet c.count)))

  pub close_block : {d : Copier} {copy2 notes2 : List ℕ} {w n : ℕ} → c.fill.count ≤ length buf → c.shut ≡ false → c.opened ≡ true → (c.fill.count ≡ 0 → ⊥)
      → Gave (block_done c.sheet c.count (take (c.fill.count - 0) (drop 0 buf))) copy notes copy2 notes2 d w n → w ≤ length copy → n ≤ length notes
      → Closes copy2 notes2 w n closing_is
  close_block {d} {copy2} {notes2} {w} {n} h e f g p wl nl =
      let i : c.fill.count - 0 ≡ c.fill.count = omega arith in
      let log : List ℕ = take c.fill.count buf in
      let q : Gave (block_done c.sheet c.count log) copy notes copy2 notes2 d w n =
      subst (λ (j : ℕ). Gave (block_done c.sheet c.count (take j buf)) copy notes copy2 notes2 d w n) i p in
      closed_by (Open c.sheet c.count) (open_is e f)
      (subst (λ (z : Bool). Closes copy2 notes2 w n (pick z (still (Open c.sheet c.count) nothing) (block_done c.sheet c.count log)))
      (sym (ne_eqb (length log) 0 (λ z. g (sym (size h) ∙ z))))
      (q.copied, (q.said, (wl, nl))))

  pub close_bad : {notes2 : List ℕ} {n : ℕ} → c.shut ≡ false → c.opened ≡ false → Wrote eleven notes notes2 n → note_most ≤ length notes → Closes copy notes2 0 n closing_is
  close_bad e f w l =
      closed_by Unread (state_else c e ∙ ap (λ (b : Bool). state_at b c.sheet c.count) f)
      (record { count = refl; sheet = refl }, (w, (omega arith, omega (arith, w.count))))
