-- Whole lines, the sheet or a block, and the close: what the calls say and write is what is given. For the proofs of the functions.
use Rattle.std.specs.Prelude.{Result, Ok, Err}
use Rattle.paper.specs.declared.refusal.Refusal.TheVariants.{BadSheet, NoRoom}
use Rattle.paper.specs.declared.refusal.Refusal.{Refusal}
use Rattle.desk.specs.Log.{opened_of, eleven, fitting, table_in}
use mathlib.Core.Path.{◌≡◌, refl, sym, ap, subst, ◌∙◌}
use mathlib.Core.List.{List, [], ◌∷◌}
use mathlib.Core.Bool.{Bool, true, false, true≢false}
use Prim.Native.Nat.{ℕ, ◌-◌, ◌≤◌}
use native.Mathlib.Omega.{arith}
use lib.ListN.{length, take, drop, length-take}
use lib.Dec.{eqb}
use borrow.Author.Tests.{eq-eqb, ne_eqb}
use Rattle.laws.specs.Tests.{pick}
use Rattle.paper.specs.declared.Sheet.{Sheet}
use Rattle.writing.specs.AnswerSheet.{Wrote, fits, sheet_after}
use Rattle.lines.specs.declared.Fill.{Fill}
use Rattle.lines.specs.Kept.{nothing, fill_of}
use Rattle.lines.proofs.Keeps.{empty_room}
use Rattle.table.specs.declared.table.Table.{Table}
use Rattle.table.specs.Take.{Sound, fresh_table}
use Rattle.desk.specs.declared.Answered.{Answered}
use Rattle.desk.specs.Desk.{judged_of, block_bytes, answered_from, answered_of}
use Rattle.desk.proofs.Whole.{answered_parts, fitting_within}
use Rattle.stream.specs.declared.Clerk.{Clerk}
use Rattle.stream.specs.Onward.{State, Unread, Open, Shut, Given, code_in, answer_of, open_of, lines_done, closing, any_short}
use Rattle.stream.specs.Feeding.{state_at, state_of, kept_by, clerk_in, Held, Gave}

-- 12, and no other code, says that there was no room
short_one : (t : Table) (block : List ℕ) (room : ℕ) → any_short (code_in t block room ∷ []) ≡ eqb (code_in t block room) 12
short_one t block room = go (eqb (code_in t block room) 12)
  where
    go : (b : Bool) → pick b true false ≡ b
    go true = refl
    go false = refl

-- the code that the desk gives
pub answered_code : (t : Table) (block sheet : List ℕ) → (answered_of t block sheet).code ≡ code_in t block (length sheet)
unfolding answered_of code_in
answered_code t block sheet = go (fits (block_bytes t block) sheet)
  where
    go : (b : Bool) → (answered_from t (judged_of t block) (pick b (Ok (length (block_bytes t block))) (Err NoRoom))).code ≡ pick b (judged_of t block).code 12
    go true = refl
    go false = refl

-- a box that is not shut by its sheet has read it or not
open_held : (t : Table) (m : Fill) → Sound t → m ≡ fill_of nothing → Held (clerk_in t (Open t) m)
open_held t m h e = subst (λ (x : Fill). Held (clerk_in t (Open t) x)) (sym e) (record {
  sound = h;
  room = empty_room;
  lines = omega arith;
  shut = λ q. absurd (true≢false (sym q));
})

shut_held : (t : Table) (m : Fill) → Sound t → m ≡ fill_of nothing → Held (clerk_in t Shut m)
shut_held t m h e = subst (λ (x : Fill). Held (clerk_in t Shut x)) (sym e) (record {
  sound = h;
  room = empty_room;
  lines = omega arith;
  shut = λ q. refl;
})

module _ (t : Table) (block out : List ℕ) where
  pub block_gave : {a : Answered} {new : List ℕ} {m : Fill} {b : Bool} → a ≡ answered_of t block out → new ≡ sheet_after (block_bytes t block) out → m ≡ fill_of nothing
      → b ≡ eqb a.code 12 → Sound a.table
      → Gave t (lines_done (length out) (state_at true t) block) out new (record { opened = true; shut = false; table = a.table; fill = m }) a.written b
      × (Held (record { opened = true; shut = false; table = a.table; fill = m }) × (a.written ≤ length out))
  block_gave {a} {new} {m} {b} e f g q h =
      let p = answered_parts t block out in
      let w : Wrote (fitting (block_bytes t block) (length out)) out new a.written = rw (e, f) p.1 in
      let table : a.table ≡ table_in t block (length out) = ap (λ (x : Answered). x.table) e ∙ p.0 in (
        record {
          clerk = same table g;
          wrote = w;
          short = q ∙ ap (λ (x : Answered). eqb x.code 12) e ∙ ap (λ (n : ℕ). eqb n 12) (answered_code t block out) ∙ sym (short_one t block (length out));
        },
        (open_held a.table m h g, omega (arith, w.count, fitting_within (block_bytes t block) (length out))),
      )
    where
      same : {u v : Table} {x y : Fill} → u ≡ v → x ≡ y
          → ◌≡◌ {A = Clerk} (record { opened = true; shut = false; table = u; fill = x }) (record { opened = true; shut = false; table = v; fill = y })
      same p q = cc

  pub bad_gave : {o : Result Sheet Refusal} {new : List ℕ} {m : Fill} {r : ℕ} → o ≡ opened_of block → {why : Refusal} → o ≡ Err why → Wrote (fitting eleven (length out)) out new r → m ≡ fill_of nothing → Sound t
      → Gave t (lines_done (length out) (state_at false t) block) out new (record { opened = false; shut = true; table = t; fill = m }) r false
      × (Held (record { opened = false; shut = true; table = t; fill = m }) × (r ≤ length out))
  bad_gave {o} {new} {m} {r} e q w g h =
      let z : open_of (length out) (Err BadSheet) ≡ open_of (length out) (opened_of block) = ap (open_of (length out)) (sym q ∙ e) in (
        subst (λ (x : Given). Gave t x out new (record { opened = false; shut = true; table = t; fill = m }) r false) z (record { clerk = ap (clerk_in t Shut) g; wrote = w; short = refl }),
        (shut_held t m h g, omega (arith, w.count, fitting_within eleven (length out))),
      )

  pub read_gave : {o : Result Sheet Refusal} {s : Sheet} {u : Table} {m : Fill} → o ≡ opened_of block → o ≡ Ok s → (u ≡ fresh_table s) × Sound u → m ≡ fill_of nothing
      → Gave t (lines_done (length out) (state_at false t) block) out out (record { opened = true; shut = false; table = u; fill = m }) 0 false
      × (Held (record { opened = true; shut = false; table = u; fill = m }) × (0 ≤ length out))
  read_gave {o} {s} {u} {m} e q f g =
      let z : open_of (length out) (Ok s) ≡ open_of (length out) (opened_of block) = ap (open_of (length out)) (sym q ∙ e) in (
        subst (λ (x : Given). Gave t x out out (record { opened = true; shut = false; table = u; fill = m }) 0 false) z
            (record { clerk = same f.0 g; wrote = record { count = refl; sheet = refl }; short = refl }),
        (open_held u m f.1 g, omega arith),
      )
    where
      same : {u v : Table} {x y : Fill} → u ≡ v → x ≡ y
          → ◌≡◌ {A = Clerk} (record { opened = true; shut = false; table = u; fill = x }) (record { opened = true; shut = false; table = v; fill = y })
      same p q = cc

pub gave_as : (room : ℕ) (block : List ℕ) {o p : Bool} {t : Table} {out out2 : List ℕ} {w : ℕ} {d : Clerk} {b : Bool} → p ≡ o → Gave t (lines_done room (state_at o t) block) out out2 d w b
    → Gave t (lines_done room (state_at p t) block) out out2 d w b
gave_as room block {o} {p} {t} {out} {out2} {w} {d} {b} e g = subst (λ (x : Bool). Gave t (lines_done room (state_at x t) block) out out2 d w b) (sym e) g

-- ---- the state of a clerk

pub state_shut : (c : Clerk) → c.shut ≡ true → state_of c ≡ Shut
unfolding state_of
state_shut c e = ap (λ (b : Bool). pick b Shut (state_at c.opened c.table)) e

pub state_else : (c : Clerk) → c.shut ≡ false → state_of c ≡ state_at c.opened c.table
unfolding state_of
state_else c e = ap (λ (b : Bool). pick b Shut (state_at c.opened c.table)) e

-- ---- the four answers of closing

module _ (c : Clerk) (buf out : List ℕ) where
  abbrev Closes : List ℕ → ℕ → Bool → Given → Type 0
  Closes new r b x = Wrote x.bytes out new r × ((b ≡ any_short x.codes) × (r ≤ length out))

  abbrev closing_is : Given
  closing_is = closing (length out) (state_of c) (kept_by c buf)

  closed_by : {new : List ℕ} {r : ℕ} {b : Bool} (s : State) → state_of c ≡ s → Closes new r b (closing (length out) s (kept_by c buf)) → Closes new r b closing_is
  closed_by {new} {r} {b} s e w = subst (λ (x : State). Closes new r b (closing (length out) x (kept_by c buf))) (sym e) w

  pub close_shut : c.shut ≡ true → Closes out 0 false closing_is
  close_shut e = closed_by Shut (state_shut c e) (record { count = refl; sheet = refl }, (refl, omega arith))

  open_is : c.shut ≡ false → c.opened ≡ true → state_of c ≡ Open c.table
  open_is e f = state_else c e ∙ ap (λ (b : Bool). state_at b c.table) f

  size : c.fill.count ≤ length buf → length (take c.fill.count buf) ≡ c.fill.count
  size h = omega (arith, length-take c.fill.count buf)

  pub close_none : c.fill.count ≤ length buf → c.shut ≡ false → c.opened ≡ true → c.fill.count ≡ 0 → Closes out 0 false closing_is
  close_none h e f g =
      closed_by (Open c.table) (open_is e f)
      (subst (λ (b : Bool). Closes out 0 false (pick b (record { state = Open c.table; kept = nothing; codes = []; bytes = [] }) (answer_of (length out) c.table (take c.fill.count buf))))
      (sym (eq-eqb (length (take c.fill.count buf)) 0 (size h ∙ g))) (record { count = refl; sheet = refl }, (refl, omega arith)))

  pub close_block : {d : Clerk} {new : List ℕ} {w : ℕ} {b : Bool} → c.fill.count ≤ length buf → c.shut ≡ false → c.opened ≡ true → (c.fill.count ≡ 0 → ⊥)
      → Gave c.table (lines_done (length out) (state_at true c.table) (take (c.fill.count - 0) (drop 0 buf))) out new d w b → w ≤ length out → Closes new w b closing_is
  close_block {d} {new} {w} {b} h e f g p m =
      let n : c.fill.count - 0 ≡ c.fill.count = omega arith in
      let log : List ℕ = take c.fill.count buf in
      let q : Gave c.table (answer_of (length out) c.table log) out new d w b =
      subst (λ (i : ℕ). Gave c.table (answer_of (length out) c.table (take i buf)) out new d w b) n p in
      closed_by (Open c.table) (open_is e f)
      (subst (λ (z : Bool). Closes new w b (pick z (record { state = Open c.table; kept = nothing; codes = []; bytes = [] }) (answer_of (length out) c.table log)))
      (sym (ne_eqb (length log) 0 (λ z. g (sym (size h) ∙ z))))
      (q.wrote, (q.short, m)))

  pub close_bad : {new : List ℕ} {r : ℕ} → c.shut ≡ false → c.opened ≡ false → Wrote (fitting eleven (length out)) out new r → Closes new r false closing_is
  close_bad e f w =
      closed_by Unread (state_else c e ∙ ap (λ (b : Bool). state_at b c.table) f) (w, (refl, omega (arith, w.count, fitting_within eleven (length out))))
