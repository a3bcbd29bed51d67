-- Laws of a hand's sittings, place by place; the chips of a hand and the hand from their parts. Assumes nothing.
use Rattle.std.proofs.Common.{ℕ, suc, ◌+◌, ◌<◌, ◌≡◌, Bool, List, [], ◌∷◌, ◌∙◌, Option, map, length, get_or, ltb, count_by, refl, ap, ap₂, add-zero, arith}
use Rattle.std.specs.Option.{is_none}
use Rattle.laws.specs.Tests.{either}
use Rattle.chairs.specs.declared.Chair.{Chair}
use Rattle.chairs.proofs.Laws.{unread}
use Rattle.table.specs.declared.table.Table.{Table}
use Rattle.table.specs.declared.table.Payout.{Payout}
use Rattle.notes.specs.declared.Notes.{Notes}
use Rattle.pots.specs.declared.Pots.{Pots}
use Rattle.pots.specs.declared.Pot.{Pot}
use Rattle.section.specs.declared.Best.{Best}
use Rattle.section.specs.declared.Charged.{Charged}
use Rattle.section.specs.declared.Part.{Part}
use Rattle.section.specs.declared.Hand.{Hand as SectionHand}
use Rattle.pots.specs.Heights.{mask_at}
use Rattle.pots.specs.Runs.{padded}
use Rattle.pots.specs.Settle.{sole}
use Rattle.chairs.specs.Chairs.{column_of}
use Rattle.chairs.specs.What.{Total, Sitting, Live, Here}
use Rattle.table.specs.Settle.{pots_now, back_now}
use Rattle.spots.specs.Spots.{reach_of_first}
use Rattle.spots.specs.declared.Chips.{Chips}
use Rattle.cards.specs.Hands.{ranking_of}
use Rattle.cards.specs.Order.{best_of}
use Rattle.cards.specs.declared.Hand.{Hand}
use Rattle.dealings.specs.Dealings.{shown_as, best_of_two, part_at, parts_from, score_in, chips_shown, each_paid, charged_by, hand_shown}

-- the sittings from place j on, place by place
pub parts_each : (m : Notes) (t : Table) (low : ℕ) (alone : Bool) (paid : List ℕ) (j : ℕ) (cs : List Chair) (ys : List Part) → length ys ≡ length cs
    → ((i : ℕ) (e : Part) → i < length ys → get_or ys i e ≡ part_at m t low alone (get_or cs i unread) (j + i) (get_or paid (j + i) 0)) → ys ≡ parts_from m t low alone paid j cs
parts_each m t low alone paid j [] [] l h = refl
parts_each m t low alone paid j [] (y ∷ ys) l h = absurd (omega arith)
parts_each m t low alone paid j (c ∷ cs) [] l h = absurd (omega arith)
parts_each m t low alone paid j (c ∷ cs) (y ∷ ys) l h =
    let e : y ≡ part_at m t low alone c j (get_or paid j 0) = rw add-zero at (h 0 y (omega arith)) in
    ap₂ (λ a b. a ∷ b) e (parts_each m t low alone paid (suc j) cs ys (omega arith) (λ i z k. moved i z (h (suc i) z (omega arith))))
  where
    moved : (i : ℕ) (z : Part) → get_or ys i z ≡ part_at m t low alone (get_or cs i unread) (j + suc i) (get_or paid (j + suc i) 0) → get_or ys i z ≡ part_at m t low alone (get_or cs i unread) (suc j + i) (get_or paid (suc j + i) 0)
    moved i z e = let k : suc j + i ≡ j + suc i = omega arith in rw k e

same_pots : (ps : Pots) (n : ℕ) (l : List Pot) → ps.n ≡ n → ps.list ≡ l → ps ≡ record { n = n; list = l }
same_pots ps n l e f = ap₂ (λ (x : ℕ) (y : List Pot). record { n = x; list = y }) e f

abbrev chips_by : Notes → ℕ → List ℕ → List ℕ → ℕ → ℕ → Pots → ℕ → Chips
chips_by m d ts ss lv hr ps b = record { hand = m.hands; columns = d; totals = ts; sittings = ss; live = lv; here = hr; pots = ps; back = b }

pub chips_made : {d lv hr b : ℕ} {ts ss : List ℕ} {ps : Pots} (m : Notes) (t : Table)
    → ts ≡ map (column_of Total) t.chairs → ss ≡ map (column_of Sitting) t.chairs → d ≡ count_by (ltb 0) ss
    → lv ≡ mask_at (map (column_of Live) t.chairs) 1 → hr ≡ mask_at (map (column_of Here) t.chairs) 1 → ps.n ≡ length (pots_now t) → ps.list ≡ padded 9 (pots_now t) → b ≡ back_now t
    → chips_by m d ts ss lv hr ps b ≡ chips_shown m t
unfolding chips_shown
chips_made {ps = ps} m t e1 e2 e3 e4 e5 p1 p2 e6 =
    let q = same_pots ps _ _ p1 p2 in
    rw (q, e3, e4, e5, e1, e2, e6) refl

-- the best of seven cards, shown
pub two_made : {h : Hand} {r : Best} (deck : ℕ) (d k : List ℕ)
    → h ≡ best_of (ranking_of deck) (get_or d 0 0 ∷ get_or d 1 0 ∷ get_or k 0 0 ∷ get_or k 1 0 ∷ get_or k 2 0 ∷ get_or k 3 0 ∷ get_or k 4 0 ∷ []) → r ≡ shown_as deck h → r ≡ best_of_two deck d k
unfolding best_of_two
two_made deck d k e q = q ∙ ap (λ (x : Hand). shown_as deck x) e

-- a hand from what was found of it
pub hand_made : {chips : Chips} {low : ℕ} {one-live alone : Bool} {parts : List Part} {scores paid-each : List ℕ} {ch : Option Charged} (m : Notes) (t : Table) (paid : Option Payout)
    → chips ≡ chips_shown m t → low ≡ reach_of_first chips.totals chips.pots chips.pots.n → one-live ≡ sole 10 chips.live → alone ≡ either (is_none paid) one-live → paid-each ≡ each_paid paid
    → parts ≡ parts_from m t low alone paid-each 0 t.chairs → scores ≡ map score_in parts → ch ≡ charged_by paid
    → record { chips = chips; parts = parts; scores = scores; charged = ch } ≡ hand_shown m t paid
unfolding hand_shown
hand_made m t paid e1 e2 e3 e4 e5 e6 e7 e8 = rw (e8, e7, e6, e5, e4, e3, e2, e1) refl
