-- Document 01, "The answer block": "`mark` (0 without a hand)". Where no hand is open the notebook's mark is 0, and so is the mark of every table that taken entries
-- lead to. Assumes nothing.
use Prim.Native.Nat.{ℕ, ◌+◌}
use mathlib.Core.Bool.{Bool, true, false, true≢false}
use mathlib.Core.Path.{◌≡◌, refl, sym, ap, ◌∙◌}
use mathlib.Core.List.{List, [], ◌∷◌}
use lib.ListN.{length}
use lib.Dec.{leb}
use Rattle.laws.specs.Tests.{pick}
use Rattle.paper.specs.Paper.{is_sheet}
use Rattle.paper.specs.declared.Sheet.{Sheet}
use Rattle.paper.specs.declared.Entry.{Entry}
use Rattle.paper.specs.declared.Entry.TheVariants.{Sit, Leave, Hand, Hole, Fold, Check, Call, Wager, Board, Dead, Settle, Void}
use Rattle.chairs.specs.declared.Dealt.{Dealt}
use Rattle.chairs.proofs.Over.{all_at}
use Rattle.table.specs.Betting.{wager_code}
use Rattle.table.specs.Standing.{Standing, Cleared}
use Rattle.table.specs.Take.{kind_code}
use Rattle.table.specs.declared.table.Table.{Table}
use Rattle.table.proofs.Codes.{wager_live}
use Rattle.table.proofs.Sounds.{passed}
use Rattle.history.specs.Notebook.{Play, Notebook, with_play, with_hand, with_board, every_part, next_round, laid, new_play, noted_by, notebook}
use Rattle.history.specs.History.{run, AllTaken}
use Rattle.history.proofs.AsNoted.{as_noted}
use Rattle.history.proofs.Reached.{reached_standing}

-- without a hand no mark
abbrev Unmarked : Play → Type 0
Unmarked p = p.opened ≡ false → p.mark ≡ 0

-- a wager is taken in an open hand only: without a hand no seat has a live record
wager_open : (t : Table) (x a : ℕ) → Standing t → wager_code t x a ≡ 0 → t.play.opened ≡ false → ⊥
wager_open t x a st c h = true≢false (sym (wager_live t x a c) ∙ ap (λ (d : Dealt). d.live) (all_at Cleared t.chairs x refl (st.cleared h)))

-- one entry more; a wager needs that a hand is open
noted_mark : (sheet : Sheet) (n : Notebook) (t : Table) (e : Entry) → Unmarked n.play → Standing t → t.play.opened ≡ n.play.opened → kind_code t e ≡ 0
    → Unmarked (noted_by sheet n e).play
noted_mark sheet n t (Sit x a) u st o c = u
noted_mark sheet n t (Leave x) u st o c = u
noted_mark sheet n t (Hand p) u st o c = λ h. absurd (true≢false h)
noted_mark sheet n t (Hole x a b) u st o c = u
noted_mark sheet n t (Fold x) u st o c = u
noted_mark sheet n t (Check x) u st o c = u
noted_mark sheet n t (Call x) u st o c = u
noted_mark sheet n t (Wager x a) u st o c = λ h. absurd (wager_open t x a st c (o ∙ h))
noted_mark sheet n t (Board k) u st o c = go (leb 3 (n.board.count + 1))
  where
    lies : Notebook
    lies = with_board n (laid n.board k)

    go : (b : Bool) → Unmarked (pick b (with_play (with_hand lies (every_part n.hand next_round)) (new_play sheet n.play)) lies).play
    go true = λ h. refl
    go false = u
noted_mark sheet n t (Dead x) u st o c = u
noted_mark sheet n t Settle u st o c = λ h. refl
noted_mark sheet n t Void u st o c = u

module _ (sheet : Sheet) (ok : is_sheet sheet ≡ true) where
  pub mark_noted : (es : List Entry) → AllTaken sheet es → (notebook sheet es).play.opened ≡ false → (notebook sheet es).play.mark ≡ 0
  unfolding notebook
  mark_noted [] a = λ h. refl
  mark_noted (e ∷ es) a =
      noted_mark sheet (notebook sheet es) (run sheet es) e (mark_noted es a.1) (reached_standing sheet ok es a.1)
      (ap (λ (p : Play). p.opened) (as_noted sheet ok es a.1).play) (passed (run sheet es) (length es + 1) e a.0).moment

  -- "`mark` (0 without a hand)"
  pub mark_none : (es : List Entry) → AllTaken sheet es → (run sheet es).play.opened ≡ false → (run sheet es).play.mark ≡ 0
  mark_none es a h =
      let p = (as_noted sheet ok es a).play in
      ap (λ (q : Play). q.mark) p ∙ mark_noted es a (sym (ap (λ (q : Play). q.opened) p) ∙ h)
