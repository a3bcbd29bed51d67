-- What `record_at` is where eight bytes are left, and where not; and a turn over the records of a log. Assumes nothing.
use mathlib.Core.Path.{◌≡◌, refl, sym, ◌∙◌, ap, subst}
use Prim.Native.Nat.{ℕ, zero, suc, ◌+◌, ◌-◌, ◌<◌, ◌≤◌}
use mathlib.Core.Bool.{Bool, true, false}
use Rattle.std.specs.Prelude.{Option, Some, None, is_some, unwrap_or}
use mathlib.Core.Logic.{inl, inr}
use mathlib.Core.List.{List, [], ◌∷◌}
use lib.ListN.{length, get_or, get_or-eq_default}
use native.Mathlib.Omega.{arith}
use native.Mathlib.Nat.{not-suc-le-zero}
use lib.Dec.{ltb}
use borrow.Author.Tests.{lt-ltb, le-ltb, ltb-true, ltb-false, eq-eqb, ne_eqb}
use Rattle.laws.specs.Tests.{pick}
use Rattle.paper.specs.declared.Entry.TheVariants.{Sit, Leave, Hand, Hole, Fold, Check, Call, Wager, Board, Dead, Settle, Void}
use Rattle.blocks.specs.Entry.{entry_at}
use Rattle.laws.proofs.Tests.{test}
use Rattle.records.specs.declared.Record.{Record}
use Rattle.records.specs.Bytes.{word_at}
use Rattle.records.specs.Stored.{no_record, record_at, behind}
use Rattle.records.specs.Reading.{later_of, last_on, last_hand}

module _ (log : List ℕ) (at : ℕ) where
  abbrev some : ℕ → Option Record
  some a = Some (record { kind = get_or log at 0; seat = get_or log (at + 1) 0; b = get_or log (at + 2) 0; a = a })

  pub absent : {left : ℕ} → left ≡ length log - at → left < 8 → None ≡ record_at log at
  unfolding record_at
  absent {left} e l = sym (ap (λ (t : Bool). pick t None (some (word_at log (at + 4)))) (ap (λ (m : ℕ). ltb m 8) (sym e) ∙ lt-ltb left 8 l))

  pub present : {left a : ℕ} → left ≡ length log - at → 8 ≤ left → a ≡ word_at log (at + 4) → some a ≡ record_at log at
  unfolding record_at
  present {left} {a} e l ea =
      ap some ea ∙ sym (ap (λ (t : Bool). pick t None (some (word_at log (at + 4)))) (ap (λ (m : ℕ). ltb m 8) (sym e) ∙ le-ltb left 8 l))

  gone : length log - at < 8 → is_some (record_at log at) ≡ false
  gone l = ap (λ (r : Option Record). is_some r) (sym (absent refl l))

  here : 8 ≤ length log - at → is_some (record_at log at) ≡ true
  here l = ap (λ (r : Option Record). is_some r) (sym (present refl l refl))

  pub here_long : is_some (record_at log at) ≡ true → 8 ≤ length log - at
  here_long e = elim (test (ltb (length log - at) 8)) [
    | inl y ↦ absurd (yes-no (sym e ∙ gone (ltb-true (length log - at) 8 y)))
    | inr n ↦ ltb-false (length log - at) 8 n
  ]
    where
      yes-no : true ≡ false → ⊥
      yes-no h = subst (λ (t : Bool). pick t (Unit {0}) ⊥) h tt

  pub next_is : 8 ≤ length log - at → behind log at ≡ at + 8
  next_is l = ap (λ (t : Bool). pick t (at + 8) at) (here l)

  pub next_stays : length log - at < 8 → behind log at ≡ at
  next_stays l = ap (λ (t : Bool). pick t (at + 8) at) (gone l)

-- ---- the place behind the last `hand` record

pub later_hand : (last next : ℕ) (r : Record) → r.kind ≡ 2 → next ≡ later_of last next r
later_hand last next r e = sym (ap (λ (t : Bool). pick t next last) (eq-eqb r.kind 2 e))

pub later_other : (last next : ℕ) (r : Record) → (r.kind ≡ 2 → ⊥) → last ≡ later_of last next r
later_other last next r e = sym (ap (λ (t : Bool). pick t next last) (ne_eqb r.kind 2 e))

module _ (log : List ℕ) where
  -- a turn: the record r is there
  pub turn : (f at last : ℕ) {r : Record} → record_at log at ≡ Some r → length log - at ≤ f
      → last_on f log at last ≡ last_on (f - 1) log (at + 8) (later_of last (at + 8) r)
  turn zero at last e h = absurd (not-suc-le-zero {n = 0} (omega (arith, here_long log at (ap (λ (o : Option Record). is_some o) e), h)))
  turn (suc f) at last {r} e h =
      ap (λ (o : Option Record). pick (is_some o) (last_on f log (at + 8) (later_of last (at + 8) (unwrap_or o no_record))) last) e
      ∙ (let q : f ≡ suc f - 1 = omega arith in ap (λ (k : ℕ). last_on k log (at + 8) (later_of last (at + 8) r)) q)

  -- the end
  pub done : (f at last : ℕ) → record_at log at ≡ None → last_on f log at last ≡ last
  done zero at last e = refl
  done (suc f) at last e = ap (λ (o : Option Record). pick (is_some o) (last_on f log (at + 8) (later_of last (at + 8) (unwrap_or o no_record))) last) e

  pub all_of : last_on (length log) log 0 0 ≡ last_hand log
  unfolding last_hand
  all_of = refl

-- ---- past the twelve kinds there is none: such a record has `void`

pub entry_none : (k s a b : ℕ) → 12 ≤ k → Void ≡ entry_at k s a b
entry_none k s a b h =
    sym (get_or-eq_default (Sit s a ∷ Leave s ∷ Hand s ∷ Hole s a b ∷ Fold s ∷ Check s ∷ Call s ∷ Wager s a ∷ Board a ∷ Dead s ∷ Settle ∷ Void ∷ []) Void h)
