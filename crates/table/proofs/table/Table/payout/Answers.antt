-- `table::settle::payout` meets its contract: where one hand is live, what each is due goes by no score, so zeros may stand for the scores.
-- Assumes nothing.
use Prim.Native.Nat.{ℕ, ◌≤◌}
use mathlib.Core.Path.{◌≡◌, refl, sym, ap, ◌∙◌}
use mathlib.Core.Bool.{Bool, true, false}
use mathlib.Core.List.{List, []}
use native.Mathlib.Omega.{arith}
use lib.ListN.{length, get_or, replicate}
use borrow.Author.Tests.{eqb-true}
use Rattle.laws.specs.Tests.{pick}
use Rattle.laws.specs.Bits.{ones}
use Rattle.laws.proofs.Sums.{map_length, zeros_at}
use Rattle.pots.specs.declared.Commission.{Commission}
use Rattle.pots.specs.Settle.{sole}
use Rattle.pots.specs.Hand.{due_of}
use Rattle.pots.proofs.Alone.{due_alone}
use Rattle.chairs.specs.Chairs.{column_of}
use Rattle.table.specs.declared.table.Table.{Table}
use Rattle.table.specs.Settle.{totals_of, score_of, scores_of}
use Rattle.table.proofs.Laws.{totals_within, sheet_rate, sheet_step, sheet_game, scores_within, due_small, due_now_law, payout_is}
use Rattle.chairs.specs.What as what
use Rattle.table.proofs.table.Table.payout.Goals as goal

-- ---- the scores that are needed
module _ (t : Table) (sc : List ℕ) (live : ℕ) (is : sc ≡ pick (sole 10 live) (replicate 10 0) (scores_of t)) where
  within : (i : ℕ) → get_or sc i 0 ≤ 100000000
  within i = rw is (go (sole 10 live))
    where
      go : (b : Bool) → get_or (pick b (replicate 10 0) (scores_of t)) i 0 ≤ 100000000
      go true = omega (arith, zeros_at 10 i)
      go false = scores_within t.sheet.deck t.sheet.game t.board t.chairs (scores_of t) refl i

  -- they do as well as the scores of all
  as_all : (ts due : List ℕ) (rule : Commission) (puck : ℕ) → length t.chairs ≡ 10 → ts ≡ totals_of t → due ≡ due_of ts live sc rule puck → due ≡ due_of ts live (scores_of t) rule puck
  as_all ts due rule puck size ts-is due-is = due-is ∙ ap (λ (s : List ℕ). due_of ts live s rule puck) is ∙ go (sole 10 live) refl
    where
      ten : length ts ≡ 10
      ten = ap length ts-is ∙ map_length (column_of what.Total) t.chairs ∙ size

      long : length (scores_of t) ≡ length ts
      long = map_length (score_of t.sheet.deck t.sheet.game t.board) t.chairs ∙ sym (map_length (column_of what.Total) t.chairs) ∙ sym (ap length ts-is)

      go : (b : Bool) → sole 10 live ≡ b → due_of ts live (pick b (replicate 10 0) (scores_of t)) rule puck ≡ due_of ts live (scores_of t) rule puck
      go true e =
          due_alone ts live (scores_of t) (replicate 10 0) rule puck (ap (λ n. ones n live) ten ∙ eqb-true (ones 10 live) 1 e) long (sym ten)
      go false e = refl

pub scores_needed-sc-requires : goal.scores_needed-sc-requires
scores_needed-sc-requires c = sheet_game c.args.self.sheet c.requires.0.sheet

pub settle_hand-s-requires : goal.settle_hand-s-requires
settle_hand-s-requires c =
    let h = c.requires.0 in
    let t = c.args.self in (
      rw c.rows-put.ensures.0 (omega (arith, totals_within t.chairs, h.chips)),
      rw c.commission.ensures (sheet_rate t.sheet h.sheet),
      rw c.commission.ensures (sheet_step t.sheet h.sheet),
      h.puck,
      within t _ c.rows-put.result.live c.scores_needed-sc.ensures,
    )

pub pay_out-p-requires : goal.pay_out-p-requires
pay_out-p-requires c =
    let t = c.args.self in
    let put = c.rows-put.ensures in
    let due = as_all t c.scores_needed-sc.result c.rows-put.result.live c.scores_needed-sc.ensures c.rows-put.result.totals c.settle_hand-s.result.due c.commission.result t.play.puck c.requires.1.size put.0 c.settle_hand-s.ensures.1 in
    rw (due_now_law t _ (scores_of t) _ [] [] _ 0 0 0 _ put.0 put.2 refl c.commission.ensures due) (due_small t c.requires.0)

pub returns : goal.returns
returns c =
    let t = c.args.self in
    let put = c.rows-put.ensures in
    let due = as_all t c.scores_needed-sc.result c.rows-put.result.live c.scores_needed-sc.ensures c.rows-put.result.totals c.settle_hand-s.result.due c.commission.result t.play.puck c.requires.1.size put.0 c.settle_hand-s.ensures.1 in
    payout_is t _ (scores_of t) _ _ _ _ _ _ _ _ put.0 put.2 refl c.commission.ensures due c.settle_hand-s.ensures.0 c.settle_hand-s.ensures.2 put.3 c.pay_out-p.ensures.0 c.pay_out-p.ensures.1 put.1
