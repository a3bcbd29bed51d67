-- A block judged, answered and kept, step by step. Assumes nothing.
use mathlib.Core.Path.{◌≡◌, refl, sym, ap, ◌∙◌, subst}
use mathlib.Core.Bool.{Bool, true, false}
use mathlib.Core.List.{List}
use Prim.Native.Nat.{ℕ, ◌+◌, ◌-◌, ◌≤◌}
use native.Mathlib.Omega.{arith}
use lib.ListN.{length}
use lib.Dec.{eqb, leb}
use borrow.Author.Tests.{leb-true}
use Rattle.std.specs.Prelude.{Result, Ok, Err}
use Rattle.paper.specs.declared.refusal.Refusal.TheVariants.{NoRoom}
use Rattle.paper.specs.declared.refusal.Refusal.{Refusal}
use Rattle.laws.specs.Tests.{pick, both, either}
use Rattle.paper.specs.SheetAndEntries.{made}
use Rattle.paper.specs.declared.Numbers.{Numbers}
use Rattle.blocks.specs.declared.Block.{Block}
use Rattle.blocks.specs.declared.Block.TheVariants.{Raw, Malformed, Nothing}
use Rattle.writing.specs.AnswerSheet.{fits, written_of}
use Rattle.table.specs.Take.{Sound}
use Rattle.table.specs.declared.table.Table.{Table}
use Rattle.records.specs.Stored.{entry_in, put_record}
use Rattle.fresh.specs.Reading.{rowed_of, index_after, index_to}
use Rattle.desk.specs.Desk.{judge_block, refused_at, SmallPaid}
use Rattle.desk.specs.declared.Judged.{Judged}
use Rattle.desk.proofs.Laws.{small_none}
use Rattle.ledger.specs.Keeping.{was_taken, answered_as, hands_after, log_after, index_kept}
use Rattle.ledger.specs.Entering.{is_full, numbers_in, held_back, judged_entry}
use Rattle.ledger.specs.declared.Book.{Book}
use Rattle.ledger.specs.Righting as righting

-- ---- an entry judged

pub numbers_raw : (x : Block) {n k s a b : ℕ} → x ≡ Raw n k s a b → made k s a b ≡ numbers_in x
numbers_raw x e = ap numbers_in (sym e)

pub numbers_malformed : (x : Block) → x ≡ Malformed → made 0 0 0 0 ≡ numbers_in x
numbers_malformed x e = ap numbers_in (sym e)

pub numbers_nothing : (x : Block) → x ≡ Nothing → made 0 0 0 0 ≡ numbers_in x
numbers_nothing x e = ap numbers_in (sym e)

abbrev Kept : Judged → Judged → ℕ → Type 0
Kept r j n = (r ≡ j) × Sound r.table × SmallPaid r.payout × (r.n ≡ n)

module _ (t : Table) (full : Bool) (j : Judged) where
  pub held_yes : {e b : Bool} {r : Judged} → e ≡ either (eqb j.code 0) (leb 4 j.code) → b ≡ both full e → b ≡ true → Sound t → r ≡ refused_at t j.n 15
      → Kept r (held_back t full j) j.n
  unfolding held_back
  held_yes {e} {b} {r} f g h s q = (
    q ∙ sym (ap (λ (x : Bool). pick x (refused_at t j.n 15) j) (sym (g ∙ ap (both full) f) ∙ h)),
    subst (λ (x : Judged). Sound x.table) (sym q) s,
    subst (λ (x : Judged). SmallPaid x.payout) (sym q) small_none,
    ap (λ (x : Judged). x.n) q,
  )

  pub held_no : {e b : Bool} → e ≡ either (eqb j.code 0) (leb 4 j.code) → b ≡ both full e → b ≡ false → Sound j.table → SmallPaid j.payout
      → Kept j (held_back t full j) j.n
  unfolding held_back
  held_no {e} {b} f g h s p = (sym (ap (λ (x : Bool). pick x (refused_at t j.n 15) j) (sym (g ∙ ap (both full) f) ∙ h)), s, p, refl)

pub entry_judged : (b : Book) (block : Block) (log index : ℕ) {x : Numbers} {full : Bool} {j r : Judged} → x ≡ numbers_in block
    → full ≡ is_full b.table.taken b.hands (eqb x.kind 2) log index → j ≡ judge_block b.table block → r ≡ held_back b.table full j
    → r ≡ judged_entry b block log index
unfolding judged_entry
entry_judged b block log index {x} {full} {j} {r} e f g h =
    h ∙ ap (held_back b.table full) g
    ∙ ap (λ (y : Bool). held_back b.table y (judge_block b.table block))
    (f ∙ ap (λ (y : Numbers). is_full b.table.taken b.hands (eqb y.kind 2) log index) e)

-- ---- its answer

pub taken_bytes : (w : Result ℕ Refusal) (code : ℕ) {k : ℕ} → w ≡ Ok k → eqb code 0 ≡ was_taken w code
taken_bytes w code e = ap (λ (x : Result ℕ Refusal). was_taken x code) (sym e)

pub taken_none : (w : Result ℕ Refusal) (code : ℕ) {why : Refusal} → w ≡ Err why → false ≡ was_taken w code
taken_none w code e = ap (λ (x : Result ℕ Refusal). was_taken x code) (sym e)

pub told_bytes : (b : Book) (j : Judged) (hands : ℕ) (w : Result ℕ Refusal) {k : ℕ} → w ≡ Ok k
    → record { block = j.block; code = j.code; book = record { table = j.table; hands = hands }; written = k } ≡ answered_as b j hands w
told_bytes b j hands w e = ap (answered_as b j hands) (sym e)

pub told_none : (b : Book) (j : Judged) (hands : ℕ) (w : Result ℕ Refusal) {why : Refusal} → w ≡ Err why
    → record { block = j.block; code = 12; book = b; written = 0 } ≡ answered_as b j hands w
told_none b j hands w e = ap (answered_as b j hands) (sym e)

-- no more is written than the sheet holds
pub told_within : (b : Book) (j : Judged) (hands : ℕ) (bs sheet : List ℕ) → (answered_as b j hands (written_of bs sheet)).written ≤ length sheet
told_within b j hands bs sheet = go (fits bs sheet) refl
  where
    go : (x : Bool) → fits bs sheet ≡ x → (answered_as b j hands (pick x (Ok (length bs)) (Err NoRoom))).written ≤ length sheet
    go true e = leb-true (length bs) (length sheet) e
    go false e = omega arith

-- ---- kept

module _ (ok : Bool) (b : Book) (x : Numbers) (log index : List ℕ) where
  pub keep_yes : {hands : ℕ} {l i : List ℕ} → ok ≡ true → l ≡ put_record log b.table.taken x → hands ≡ rowed_of (eqb x.kind 2) b.hands
      → i ≡ index_after (eqb x.kind 2) b.hands (b.table.taken + 1) b.table.chairs index
      → (hands ≡ hands_after ok b x) × ((l ≡ log_after ok b x log) × (i ≡ index_kept ok b x index))
  unfolding log_after index_kept
  keep_yes e f g h = (
    g ∙ sym (ap (λ (t : Bool). pick t (rowed_of (eqb x.kind 2) b.hands) b.hands) e),
    (
      f ∙ sym (ap (λ (t : Bool). pick t (put_record log b.table.taken x) log) e),
      h ∙ sym (ap (λ (t : Bool). pick t (index_after (eqb x.kind 2) b.hands (b.table.taken + 1) b.table.chairs index) index) e),
    ),
  )

  pub keep_no : ok ≡ false → (b.hands ≡ hands_after ok b x) × ((log ≡ log_after ok b x log) × (index ≡ index_kept ok b x index))
  unfolding log_after index_kept
  keep_no e = (
    sym (ap (λ (t : Bool). pick t (rowed_of (eqb x.kind 2) b.hands) b.hands) e),
    (
      sym (ap (λ (t : Bool). pick t (put_record log b.table.taken x) log) e),
      sym (ap (λ (t : Bool). pick t (index_after (eqb x.kind 2) b.hands (b.table.taken + 1) b.table.chairs index) index) e),
    ),
  )

module _ (ok : Bool) (t : Table) (n : ℕ) (x : Numbers) (log index : List ℕ) where
  pub rewrite_yes : {m : ℕ} {l seen i : List ℕ} → ok ≡ true → m ≡ n - 1 → l ≡ put_record log m x → seen ≡ l → i ≡ index_to t.sheet (entry_in seen) t.taken index
      → (l ≡ righting.log_after ok n x log) × (i ≡ righting.index_after ok t n x log index)
  unfolding righting.log_after righting.index_after
  rewrite_yes {m} {l} {seen} {i} e f g s h =
      let put : l ≡ put_record log (n - 1) x = g ∙ ap (λ (k : ℕ). put_record log k x) f in (
        put ∙ sym (ap (λ (b : Bool). pick b (put_record log (n - 1) x) log) e),
        h ∙ ap (λ (u : List ℕ). index_to t.sheet (entry_in u) t.taken index) (s ∙ put)
            ∙ sym (ap (λ (b : Bool). pick b (index_to t.sheet (entry_in (put_record log (n - 1) x)) t.taken index) index) e),
      )

  pub rewrite_no : ok ≡ false → (log ≡ righting.log_after ok n x log) × (index ≡ righting.index_after ok t n x log index)
  unfolding righting.log_after righting.index_after
  rewrite_no e = (
    sym (ap (λ (b : Bool). pick b (put_record log (n - 1) x) log) e),
    sym (ap (λ (b : Bool). pick b (index_to t.sheet (entry_in (put_record log (n - 1) x)) t.taken index) index) e),
  )
