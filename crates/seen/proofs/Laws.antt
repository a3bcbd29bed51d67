-- What is known of seats and entries, by each test of the code. Assumes nothing.
use Prim.Native.Nat.{ℕ, zero, suc, ◌+◌, ◌-◌, ◌≤◌, ◌<◌, min}
use mathlib.Core.Path.{◌≡◌, refl, sym, ap, ◌∙◌}
use mathlib.Core.Bool.{Bool, true, false, not}
use mathlib.Core.List.{List}
use lib.ListN.{length, set, replicate}
use lib.Seq.{set_out}
use lib.Dec.{eqb, ltb}
use native.Mathlib.Omega.{arith}
use borrow.Author.Tests.{lt-ltb, le-ltb}
use Rattle.laws.specs.Tests.{pick, both}
use Rattle.paper.specs.Paper.{taken}
use Rattle.chairs.specs.Chairs.{round_of}
use Rattle.chairs.specs.declared.Chair.{Chair}
use Rattle.table.specs.Settle.{no_payout}
use Rattle.table.specs.declared.table.Play.{Play}
use Rattle.table.specs.declared.table.Board.{Board}
use Rattle.table.specs.declared.table.Payout.{Payout}
use Rattle.seen.specs.Seats.{least_for}
use Rattle.seen.specs.Told.{kind_hand, kind_dead, marked_at, dead_after, paid_after, board_after}
use Rattle.seen.specs.declared.told.Act.{Act}

pub pick_true : {A : Type 0} (b : Bool) (x y : A) → b ≡ true → x ≡ pick b x y
pick_true b x y e = sym (ap (λ (t : Bool). pick t x y) e)

pub pick_false : {A : Type 0} (b : Bool) (x y : A) → b ≡ false → y ≡ pick b x y
pick_false b x y e = sym (ap (λ (t : Bool). pick t x y) e)

-- ---- the killed hands

pub mark_in : (dead : List Bool) (s : ℕ) → (s ≡ 0 → ⊥) → marked_at dead s ≡ set dead (s - 1) true
mark_in dead zero h = absurd (h refl)
mark_in dead (suc k) h = ap (λ (n : ℕ). set dead n true) (omega arith)

pub mark_out : (dead : List Bool) (s : ℕ) → length dead < s → marked_at dead s ≡ dead
mark_out dead zero h = refl
mark_out dead (suc k) h = set_out dead k true (omega arith)

abbrev opens : ℕ → Act → Bool
opens code a = both (eqb code taken) (eqb a.kind kind_hand)

abbrev kills : ℕ → Act → Bool
kills code a = both (eqb code taken) (eqb a.kind kind_dead)

module _ (dead : List Bool) (code : ℕ) (a : Act) where
  abbrev otherwise : List Bool
  otherwise = pick (kills code a) (marked_at dead a.seat) dead

  pub dead_opens : opens code a ≡ true → replicate 10 false ≡ dead_after dead code a
  unfolding dead_after
  dead_opens e = pick_true (opens code a) (replicate 10 false) otherwise e

  pub dead_kills : {r : List Bool} → opens code a ≡ false → kills code a ≡ true → r ≡ marked_at dead a.seat → r ≡ dead_after dead code a
  unfolding dead_after
  dead_kills e k m = m ∙ pick_true (kills code a) (marked_at dead a.seat) dead k ∙ pick_false (opens code a) (replicate 10 false) otherwise e

  pub dead_stays : opens code a ≡ false → kills code a ≡ false → dead ≡ dead_after dead code a
  unfolding dead_after
  dead_stays e k = pick_false (kills code a) (marked_at dead a.seat) dead k ∙ pick_false (opens code a) (replicate 10 false) otherwise e

-- ---- the last settlement and its board

module _ (old paid : Payout) (opened : Bool) where
  pub paid_settled : paid.settled ≡ true → paid ≡ paid_after old paid opened
  unfolding paid_after
  paid_settled e = pick_true paid.settled paid (pick opened no_payout old) e

  pub paid_opened : {r : Payout} → paid.settled ≡ false → opened ≡ true → r ≡ no_payout → r ≡ paid_after old paid opened
  unfolding paid_after
  paid_opened e o n = n ∙ pick_true opened no_payout old o ∙ pick_false paid.settled paid (pick opened no_payout old) e

  pub paid_old : paid.settled ≡ false → opened ≡ false → old ≡ paid_after old paid opened
  unfolding paid_after
  paid_old e o = pick_false opened no_payout old o ∙ pick_false paid.settled paid (pick opened no_payout old) e

module _ (old new : Board) (opened : Bool) where
  pub board_opened : opened ≡ true → new ≡ board_after old new opened
  unfolding board_after
  board_opened e = pick_true opened new old e

  pub board_old : opened ≡ false → old ≡ board_after old new opened
  unfolding board_after
  board_old e = pick_false opened new old e

-- ---- the least wager

module _ (p : Play) (c : Chair) where
  abbrev whole : ℕ
  whole = round_of c + c.stack

  abbrev lesser : ℕ
  lesser = min (p.mark + p.lift) whole

  pub least_spent : c.dealt.spent ≡ true → 0 ≡ least_for p c
  unfolding least_for
  least_spent e = sym (ap (λ (b : Bool). pick (both (not b) (ltb p.mark whole)) lesser 0) e)

  may : c.dealt.spent ≡ false → pick (ltb p.mark whole) lesser 0 ≡ least_for p c
  unfolding least_for
  may e = sym (ap (λ (b : Bool). pick (both (not b) (ltb p.mark whole)) lesser 0) e)

  pub least_short : c.dealt.spent ≡ false → whole ≤ p.mark → 0 ≡ least_for p c
  least_short e h = pick_false (ltb p.mark whole) lesser 0 (le-ltb _ _ h) ∙ may e

  pub least_is : {r : ℕ} → c.dealt.spent ≡ false → p.mark < whole → r ≡ lesser → r ≡ least_for p c
  least_is e h m = m ∙ pick_true (ltb p.mark whole) lesser 0 (lt-ltb _ _ h) ∙ may e
