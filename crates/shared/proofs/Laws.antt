-- Laws of a block at a table that shares a pool: how it is judged (`judged_right`, `judged_any`), what is shown of it (`shown_small`), and its answer (`answered_said`,
-- `answered_kept`, `answered_none`). Assumes nothing.
use mathlib.Core.Path.{◌≡◌, sym, ap, subst, ◌∙◌}
use mathlib.Core.List.{List, []}
use mathlib.Core.Bool.{Bool, true, false, false≢true}
use Prim.Native.Nat.{ℕ, ◌≤◌, ◌<◌, ◌^◌}
use native.Mathlib.Omega.{arith}
use lib.ListN.{length}
use Rattle.std.specs.Prelude.{Option, Result, Ok, Err}
use Rattle.paper.specs.declared.refusal.Refusal.TheVariants.{NoRoom}
use Rattle.paper.specs.declared.refusal.Refusal.{Refusal}
use Rattle.laws.specs.Tests.{pick}
use Rattle.paper.specs.RefusalNumbers.{shares_pool}
use Rattle.writing.specs.AnswerSheet.{sheet_after, written_of}
use Rattle.answers.specs.Answer.{SmallShown, answer_bytes}
use Rattle.answers.specs.declared.Shown.{Shown}
use Rattle.table.specs.declared.table.Table.{Table}
use Rattle.table.specs.Take.{Sound}
use Rattle.royal.specs.Royal.{royal_now}
use Rattle.pool.specs.Jackpot.{most, settled_pool, no_hand}
use Rattle.pool.specs.declared.Pool.{Pool}
use Rattle.pool.specs.declared.Hand.{Hand}
use Rattle.pool.specs.declared.Settled.{Settled}
use Rattle.pool.proofs.Hands.{hand_most}
use Rattle.amends.specs.Righting.{right_key, is_right}
use Rattle.amends.proofs.Judging.{right_small}
use Rattle.paper.specs.Paper.{is_game}
use Rattle.paper.proofs.Sheets.{good_ranged}
use Rattle.text.specs.Line.{line_number}
use Rattle.text.specs.TableSheet.{value_in}
use Rattle.desk.specs.Desk.{shown_of, refused_at, judged_of, SmallPaid, Closed}
use Rattle.desk.specs.declared.Judged.{Judged}
use Rattle.desk.proofs.Laws.{small_none, writes_none, keeps_all}
use Rattle.desk.proofs.Room.{log_closed}
use Rattle.shared.specs.declared.SharedAnswer.{SharedAnswer}
use Rattle.shared.specs.Shared.{corrected_number, judged_at, hand_of, settled_at, with_jackpot, shown_at, judged_bytes_at, bytes_at, room_at, said, kept, shared_from}

-- ---- judged
abbrev pub Fit : Judged → Type 0
Fit j = Sound j.table × SmallPaid j.payout × (j.n < 10 ^ 9) × Closed j.table j.payout

pub judged_right : (t : Table) (log : List ℕ) {b : Bool} {n : ℕ} {r : Judged} → b ≡ is_right log → b ≡ true → (n ≡ corrected_number log) × (n < 10 ^ 9) → r ≡ refused_at t n shares_pool
    → Sound t → (r ≡ judged_at t log) × Sound r.table × SmallPaid r.payout × (r.n < 10 ^ 9) × Closed r.table r.payout
unfolding judged_at
judged_right t log {b} {n} {r} p q e f h =
    let is : is_right log ≡ true = sym p ∙ q in
    let j : r ≡ pick (is_right log) (refused_at t (corrected_number log) shares_pool) (judged_of t log) =
    f ∙ ap (λ (k : ℕ). refused_at t k shares_pool) e.0 ∙ sym (ap (λ (z : Bool). pick z (refused_at t (corrected_number log) shares_pool) (judged_of t log)) is) in
    let fit : Fit (refused_at t n shares_pool) = (h, small_none, e.1, λ (z : false ≡ true). absurd (false≢true z)) in
    let g = subst Fit (sym f) fit in
    (j, g.0, g.1, g.2, g.3)

pub judged_any : (t : Table) (log : List ℕ) {b : Bool} {r : Judged} → b ≡ is_right log → b ≡ false
    → (r ≡ judged_of t log) × Sound r.table × SmallPaid r.payout × (r.n < 10 ^ 9)
    → (r ≡ judged_at t log) × Sound r.table × SmallPaid r.payout × (r.n < 10 ^ 9) × Closed r.table r.payout
unfolding judged_at
judged_any t log p q f =
    (f.0 ∙ sym (ap (λ (z : Bool). pick z (refused_at t (corrected_number log) shares_pool) (judged_of t log)) (sym p ∙ q)), f.1, f.2, f.3, log_closed t log f.0)

-- the number of a correction has nine digits at most
pub corrected_is : (log : List ℕ) {n : Option ℕ} {r : ℕ} → n ≡ line_number right_key log → r ≡ value_in n → (r ≡ corrected_number log) × (r < 10 ^ 9)
corrected_is log e f = (f ∙ ap value_in e, omega (arith, f, right_small log e))

-- ---- the hand
pub sound_game : (t : Table) → Sound t → is_game t.sheet.game ≡ true
sound_game t h = (good_ranged t.sheet h.payable.sheet).game

pub hand_settled : (t : Table) (j : Judged) {b : Bool} → j.payout.settled ≡ true → b ≡ royal_now t
    → ◌≡◌ {A = Hand} (record { drop = j.payout.drop; royal = b }) (hand_of t j)
unfolding hand_of
hand_settled t j p e =
    ap (λ (b : Bool). record { drop = j.payout.drop; royal = b }) e
    ∙ sym (ap (λ (z : Bool). pick z (record { drop = j.payout.drop; royal = royal_now t }) no_hand) p)

pub hand_none : (t : Table) (j : Judged) → j.payout.settled ≡ false → no_hand ≡ hand_of t j
unfolding hand_of
hand_none t j p = sym (ap (λ (z : Bool). pick z (record { drop = j.payout.drop; royal = royal_now t }) no_hand) p)

-- ---- shown
pub shown_small : (s : Shown) (amount : ℕ) → SmallShown s → amount < 10 ^ 9 → SmallShown (with_jackpot amount s)
unfolding with_jackpot
shown_small s amount m l = record {
  n = m.n;
  code = m.code;
  turn = m.turn;
  mark = m.mark;
  count = m.count;
  pots = m.pots;
  closed = m.closed;
  back = m.back;
  payout = record { fee = m.payout.fee; jackpot = l; rows = m.payout.rows; unclaimed = m.payout.unclaimed };
}

pub shown_is : (j : Judged) (amount : ℕ) {s r : Shown} → s ≡ shown_of j.n j.code j.table j.payout → (r ≡ with_jackpot amount s) × SmallShown r
    → (r ≡ shown_at j amount) × SmallShown r
shown_is j amount e f = (f.0 ∙ ap (with_jackpot amount) e, f.1)

pub won_small : (p : Pool) (h : Hand) {s : Settled} → p.held ≤ most → s ≡ settled_pool p h → s.jackpot < 10 ^ 9
won_small p h {s} l e = omega (arith, ap (λ (x : Settled). x.jackpot) e, (hand_most p h l).1)

pub pool_small : (p : Pool) (h : Hand) {s : Settled} → p.held ≤ most → s ≡ settled_pool p h → s.pool.held ≤ most
pool_small p h {s} l e = omega (arith, ap (λ (x : Settled). x.pool.held) e, (hand_most p h l).0)

pub said_fit : {u t : Table} {q p : Pool} → u ≡ t → q ≡ p → Sound t → p.held ≤ most → Sound u × (q.held ≤ most)
said_fit e f a b = (subst Sound (sym e) a, subst (λ (x : Pool). x.held ≤ most) (sym f) b)

pub kept_fit : {b : Bool} {t : Table} {p : Pool} {r : SharedAnswer} → r ≡ kept b t p → Sound t → p.held ≤ most → Sound r.table × (r.pool.held ≤ most)
kept_fit {b} {t} {p} {r} e a l = (subst (λ (x : SharedAnswer). Sound x.table) (sym e) a, subst (λ (x : SharedAnswer). x.pool.held ≤ most) (sym e) l)

-- ---- answered
module _ (t : Table) (p : Pool) (log sheet : List ℕ) {j : Judged} {s : Settled} {h : Hand} (ej : j ≡ judged_at t log) (eh : h ≡ hand_of t j) (es : s ≡ settled_pool p h) where
  settled_is : s ≡ settled_at t p j
  settled_is = es ∙ ap (settled_pool p) eh

  -- the bytes, of what was judged
  bytes_are : judged_bytes_at t p j ≡ bytes_at t p log
  unfolding bytes_at
  bytes_are = ap (judged_bytes_at t p) ej

  shown_bytes : {v : Shown} → j.block ≡ true → v ≡ shown_at j s.jackpot → answer_bytes v ≡ bytes_at t p log
  shown_bytes {v} b e =
      ap answer_bytes (e ∙ ap (λ (x : Settled). shown_at j x.jackpot) settled_is)
      ∙ sym (ap (λ (z : Bool). pick z (answer_bytes (shown_at j (settled_at t p j).jackpot)) []) b)
      ∙ bytes_are

  -- what is said where so many bytes were written
  said_from : (k : ℕ) → said j s k ≡ shared_from t p (judged_at t log) (Ok k)
  said_from k = ap (λ (x : Settled). said j x k) settled_is ∙ ap (λ (x : Judged). shared_from t p x (Ok k)) ej

  kept_from : kept j.block t p ≡ shared_from t p (judged_at t log) (Err NoRoom)
  kept_from = ap (λ (x : Judged). kept x.block t p) ej

  pub answered : {v : Shown} {w : Result ℕ Refusal} {r : SharedAnswer} {out : List ℕ} → j.block ≡ true → v ≡ shown_at j s.jackpot → w ≡ written_of (answer_bytes v) sheet
      → out ≡ sheet_after (answer_bytes v) sheet → r ≡ shared_from t p (judged_at t log) w → Sound r.table × (r.pool.held ≤ most)
      → (r ≡ shared_from t p (judged_at t log) (written_of (bytes_at t p log) sheet)) × ((out ≡ sheet_after (bytes_at t p log) sheet) × (Sound r.table × (r.pool.held ≤ most)))
  answered b e f g i z =
      let eb = shown_bytes b e in
      (i ∙ ap (shared_from t p (judged_at t log)) (f ∙ ap (λ (x : List ℕ). written_of x sheet) eb), (g ∙ ap (λ (x : List ℕ). sheet_after x sheet) eb, z))

  pub answered_said : {r : SharedAnswer} {w : Result ℕ Refusal} {k : ℕ} → r ≡ said j s k → w ≡ Ok k → r ≡ shared_from t p (judged_at t log) w
  answered_said {r} {w} {k} e f = e ∙ said_from k ∙ ap (shared_from t p (judged_at t log)) (sym f)

  pub answered_kept : {r : SharedAnswer} {w : Result ℕ Refusal} → r ≡ kept j.block t p → {why : Refusal} → w ≡ Err why → r ≡ shared_from t p (judged_at t log) w
  answered_kept e f = e ∙ kept_from ∙ ap (shared_from t p (judged_at t log)) (sym f)

  -- where there is no block nothing is written
  pub answered_none : {r : SharedAnswer} → j.block ≡ false → r ≡ said j s 0 → Sound r.table × (r.pool.held ≤ most)
      → (r ≡ shared_from t p (judged_at t log) (written_of (bytes_at t p log) sheet)) × ((sheet ≡ sheet_after (bytes_at t p log) sheet) × (Sound r.table × (r.pool.held ≤ most)))
  answered_none {r} b e z =
      let none : bytes_at t p log ≡ [] = sym bytes_are ∙ ap (λ (x : Bool). pick x (answer_bytes (shown_at j (settled_at t p j).jackpot)) []) b in (
        e ∙ said_from 0 ∙ ap (shared_from t p (judged_at t log)) (sym (writes_none sheet) ∙ ap (λ (x : List ℕ). written_of x sheet) (sym none)),
        (sym (keeps_all sheet) ∙ ap (λ (x : List ℕ). sheet_after x sheet) (sym none), z),
      )

pub room_some : (t : Table) (p : Pool) (log : List ℕ) {j : Judged} {s : Settled} {h : Hand} {v : Shown} {r : ℕ} → j ≡ judged_at t log → h ≡ hand_of t j → s ≡ settled_pool p h
    → j.block ≡ true → v ≡ shown_at j s.jackpot → r ≡ length (answer_bytes v) → r ≡ room_at t p log
unfolding room_at
room_some t p log ej eh es b e f = f ∙ ap length (shown_bytes t p log [] ej eh es b e)

pub room_none : (t : Table) (p : Pool) (log : List ℕ) {j : Judged} → j ≡ judged_at t log → j.block ≡ false → 0 ≡ room_at t p log
unfolding room_at bytes_at
room_none t p log {j} e b =
    sym (ap length (ap (judged_bytes_at t p) (sym e) ∙ ap (λ (x : Bool). pick x (answer_bytes (shown_at j (settled_at t p j).jackpot)) []) b))
