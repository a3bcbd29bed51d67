-- Change request No. 8, "how many turns": a taken fold, check or call lowers the count of owing seats, and no entry but wager, hand and board raises it; so with
-- n seats at most n - 1 turn entries follow a wager, and n a round's opening, before nobody owes. For any sheet and any entries. Assumes nothing.
use Prim.Native.Nat.{ℕ, ◌+◌, ◌≤◌, ◌<◌}
use mathlib.Core.Bool.{true, false}
use mathlib.Core.Path.{◌≡◌, sym, ap, ◌∙◌}
use mathlib.Core.List.{List, [], ◌∷◌, ◌++◌}
use mathlib.Core.Logic.{⊎_elim}
use native.Mathlib.Omega.{arith}
use lib.ListN.{length}
use Rattle.laws.specs.Tests.{one}
use Rattle.laws.specs.Lists.{All}
use Rattle.laws.proofs.Tests.{test}
use Rattle.paper.specs.Paper.{is_sheet}
use Rattle.paper.specs.declared.Sheet.{Sheet}
use Rattle.paper.specs.declared.Entry.{Entry}
use Rattle.paper.specs.declared.Entry.TheVariants.{Wager}
use Rattle.chairs.specs.Chairs.{seats_from}
use Rattle.table.specs.State.{seat_of}
use Rattle.table.specs.Betting.{owes}
use Rattle.table.specs.Take.{applied_to}
use Rattle.table.specs.declared.table.Table.{Table}
use Rattle.table.proofs.Laws.{sheet_seats}
use Rattle.table.proofs.Sounds.{passed}
use Rattle.history.specs.History.{run, AllTaken}
use Rattle.history.specs.Owing.{owing_seats, is_turn, turns_in, is_wager, is_opening, Quiet, StillOwing}
use Rattle.history.proofs.AsNoted.{reached}
use Rattle.history.proofs.Late.{taken_part}
use Rattle.history.proofs.Turns.{next_taken, owes_as_noted}
use Rattle.history.proofs.Under.{count_same, count_most}
use Rattle.history.proofs.Owed.{owing_at, falls_at, wagered_at, opening_nobody, no_turn, taken_aside}

module _ (sheet : Sheet) (ok : is_sheet sheet ≡ true) where
  -- by the notebook as many seats owe as at the table
  owing_is : (es : List Entry) → AllTaken sheet es → owing_seats sheet es ≡ owing_at (run sheet es).sheet.seats (run sheet es)
  unfolding owing_seats
  owing_is es a =
      sym (count_same (λ s. owes (run sheet es) (seat_of (run sheet es) s)) _ (owes_as_noted sheet ok es a) (seats_from 0 sheet.seats))
      ∙ ap (λ (z : Sheet). owing_at z.seats (run sheet es)) (sym (reached sheet ok es a).rules)

  -- the same after one more, by the table before it
  owing_next : (e : Entry) (es : List Entry) → AllTaken sheet (e ∷ es) → owing_seats sheet (e ∷ es) ≡ owing_at (run sheet es).sheet.seats (applied_to (run sheet es) e)
  unfolding owing_seats run
  owing_next e es a =
      let t = run sheet es in
      let k = length es + 1 in
      let u = run sheet (e ∷ es) in
      sym (count_same (λ s. owes u (seat_of u s)) _ (owes_as_noted sheet ok (e ∷ es) a) (seats_from 0 sheet.seats))
      ∙ ap (λ (v : Table). owing_at sheet.seats v) (next_taken t k e a.0)
      ∙ taken_aside sheet.seats k (applied_to t e)
      ∙ ap (λ (z : Sheet). owing_at z.seats (applied_to t e)) (sym (reached sheet ok es a.1).rules)

  -- a taken fold, check or call lowers the count of owing seats by at least one, and no entry but wager, hand and board raises it
  pub owing_falls : (e : Entry) (es : List Entry) → AllTaken sheet (e ∷ es) → Quiet e → owing_seats sheet (e ∷ es) + one (is_turn e) ≤ owing_seats sheet es
  owing_falls e es a k =
      let t = run sheet es in
      omega (arith, owing_next e es a, owing_is es a.1, falls_at t (reached sheet ok es a.1).sound.standing e (passed t (length es + 1) e a.0).moment k)

  -- with n seats: at most n owe, at a round's opening as ever; after a taken wager at most n - 1
  pub owing_most : (es : List Entry) → owing_seats sheet es ≤ sheet.seats
  unfolding owing_seats
  owing_most es = count_most _ 0 sheet.seats

  pub owing_after : (x a : ℕ) (es : List Entry) → AllTaken sheet (Wager x a ∷ es) → owing_seats sheet (Wager x a ∷ es) + 1 ≤ sheet.seats
  owing_after x a es w =
      let t = run sheet es in
      let h = reached sheet ok es w.1 in
      let n : t.sheet.seats ≡ sheet.seats = ap (λ (z : Sheet). z.seats) h.rules in
      omega (arith, n, owing_next (Wager x a) es w, wagered_at t h.sound.standing x a (passed t (length es + 1) (Wager x a) w.0).moment)

  -- any list of taken entries with no wager, hand or board: each turn entry among them is one less that owes
  pub turns_enough : (later es : List Entry) → AllTaken sheet (later ++ es) → All Quiet later → owing_seats sheet (later ++ es) + turns_in later ≤ owing_seats sheet es
  unfolding turns_in
  turns_enough [] es w k = omega arith
  turns_enough (e ∷ later) es w k = omega (arith, turns_enough later es w.1 k.1, owing_falls e (later ++ es) w k.0)

  -- while someone owes no hand and no board card is taken, so then "none of them a wager" is enough
  quiet_one : (e : Entry) (es : List Entry) → AllTaken sheet (e ∷ es) → 0 < owing_seats sheet es → is_wager e ≡ false → Quiet e
  quiet_one e es w o n = record { wager = n; opening = ⊎_elim (λ (h : is_opening e ≡ true). absurd (none h)) (λ (h : is_opening e ≡ false). h) (test (is_opening e)) }
    where
      none : is_opening e ≡ true → ⊥
      none h =
          let t = run sheet es in
          omega (arith, o, owing_is es w.1, opening_nobody t (reached sheet ok es w.1).sound.standing e (passed t (length es + 1) e w.0).moment h)

  pub quiet_while_owing : (later es : List Entry) → AllTaken sheet (later ++ es) → StillOwing sheet later es → All (λ (e : Entry). is_wager e ≡ false) later → All Quiet later
  quiet_while_owing [] es w o n = tt
  quiet_while_owing (e ∷ later) es w o n = (quiet_one e (later ++ es) w o.0 n.0, quiet_while_owing later es w.1 o.1 n.1)

  -- where nobody owes the turn is 0, as the answer says
  pub nobody_turn : (es : List Entry) → AllTaken sheet es → owing_seats sheet es ≡ 0 → (run sheet es).play.turn ≡ 0
  nobody_turn es w z = no_turn (run sheet es) (reached sheet ok es w).sound.standing (sym (owing_is es w) ∙ z)

  -- "after a taken wager, at most nine further taken turn entries, none of them a wager, leave nobody owing; at most ten from a round's opening". Where someone
  -- owes before each entry there are never more of them; and after so many nobody owes. From a round's opening, or any other place, with n seats at most n:
  module _ (later es : List Entry) (w : AllTaken sheet (later ++ es)) (still : StillOwing sheet later es) (none : All (λ (e : Entry). is_wager e ≡ false) later) where
    turns-left : owing_seats sheet (later ++ es) + turns_in later ≤ owing_seats sheet es
    turns-left = turns_enough later es w (quiet_while_owing later es w still none)

    pub opening-turns : owing_seats sheet (later ++ es) + turns_in later ≤ sheet.seats
    opening-turns = omega (arith, turns-left, owing_most es)

    pub ten-turns : (turns_in later ≤ 10) × (10 ≤ turns_in later → owing_seats sheet (later ++ es) ≡ 0)
    ten-turns = (omega (arith, opening-turns, sheet_seats sheet ok), λ k. omega (arith, opening-turns, sheet_seats sheet ok, k))

  -- after a taken wager, with n seats at most n - 1:
  module _ (later es : List Entry) (x a : ℕ) (w : AllTaken sheet (later ++ (Wager x a ∷ es))) (still : StillOwing sheet later (Wager x a ∷ es))
      (none : All (λ (e : Entry). is_wager e ≡ false) later) where
    pub wager-turns : owing_seats sheet (later ++ (Wager x a ∷ es)) + turns_in later + 1 ≤ sheet.seats
    wager-turns = omega (arith, turns-left later (Wager x a ∷ es) w still none, owing_after x a es (taken_part sheet later (Wager x a ∷ es) w))

    pub nine-turns : (turns_in later ≤ 9) × (9 ≤ turns_in later → owing_seats sheet (later ++ (Wager x a ∷ es)) ≡ 0)
    nine-turns = (omega (arith, wager-turns, sheet_seats sheet ok), λ k. omega (arith, wager-turns, sheet_seats sheet ok, k))
