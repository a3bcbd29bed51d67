-- P1 to P12 of document 01 hold of the definitions: a single table (specs/Examples.antt) under a single claim, which antt computes; and P3 and P4 as the general
-- facts that they are examples of. Assumes nothing.
use Prim.Native.Nat.{ℕ, ◌<◌}
use mathlib.Core.Bool.{true, false}
use mathlib.Core.Path.{◌≡◌, refl, sym, ap, ◌∙◌, subst}
use lib.ListN.{get_or}
use lib.Dec.{ltb}
use borrow.Author.Tests.{ltb-true}
use mathlib.Core.List.{List, map}
use Rattle.answers.specs.Answer.{two_bytes, row_bytes, state_bytes, jackpot_bytes, payout_bytes, table_bytes, answer_bytes}
use Rattle.laws.specs.Often.{SameNumbers}
use Rattle.cards.specs.declared.Hand.{Hand as HandWorth}
use Rattle.cards.proofs.Above.{higher, beats_irrefl}
use Rattle.cards.proofs.Mixed.{value_same}
use Rattle.cards.specs.Cards.{rank, before, put, in_order, ordered, is_wheel, lowered, in_row, all_alike, one_suit}
use Rattle.cards.specs.Hands.{class_of, ranks_of, class_of_cards, value_of as value_of_hands}
use Rattle.cards.specs.Order.{ranking52, beats_by, above, better_by, keep, choices, best_of, spells, strength_by}
use Rattle.desk.specs.Desk.{shown_of, judged_of, block_bytes}
use Rattle.desk.specs.Log.{opened_of, output_of}
use Rattle.history.specs.History.{run}
use Rattle.laws.specs.Lists.{max_of, sum_of}
use Rattle.paper.specs.Paper.{is_sheet, is_seat, in_range}
use Rattle.pots.specs.Hand.{winners_of, plus, lowest_after, drop_of, won_of, unclaimed_of}
use Rattle.pots.specs.Heights.{has, chips_at, live_of, mask_at, contenders, contested, contest, over, back_at, back_of, returned_of}
use Rattle.pots.specs.Runs.{join, runs, keyed, pots_of, padded}
use Rattle.pots.specs.Settle.{uncut_of, fee_of, fees_of, ones, share_out, shares_of}
use Rattle.table.specs.Betting.{live_hands, only_with_chips, owes, first_owing, after_act, turn_code, call_code, called_to, is_wager, wager_code, wagered_to, folded_to}
use Rattle.table.specs.Opening.{next_dealt_in, is_puck, hand_code, posted_to, opened_to}
use Rattle.table.specs.Settle.{settle_code, pots_now, back_now, score_of, payout_now, settled_to}
use Rattle.table.specs.Sittings.{sit_code, sat_to}
use Rattle.table.specs.Take.{code_of, next_of, payout_of}
use Rattle.blocks.specs.Block.{rest_of, kind_of, block_of}
use Rattle.blocks.specs.Entry.{parsed_of}
use Rattle.text.specs.Line.{value_of as value_of_line, number_line}
use Rattle.text.specs.Number.{well_formed, number_of, digits}
use Rattle.text.specs.TableSheet.{sheet_number, sheet_with, sheet_of, sheet_end}
use Rattle.mission.specs.Examples.{wins_all, passes, all_pass, twelve}

pub all_twelve : all_pass twelve ≡ true
unfolding before put in_order ordered is_wheel lowered in_row all_alike one_suit class_of ranks_of class_of_cards value_of_hands above better_by keep choices best_of has chips_at live_of mask_at contenders contested contest over max_of sum_of back_at back_of returned_of join runs keyed pots_of uncut_of fee_of fees_of ones share_out shares_of winners_of plus lowest_after drop_of won_of is_sheet is_seat in_range live_hands only_with_chips owes first_owing after_act next_dealt_in turn_code sit_code sat_to is_puck hand_code posted_to opened_to call_code called_to is_wager wager_code wagered_to code_of next_of run sheet_number sheet_with sheet_of sheet_end value_of_line number_line rest_of kind_of block_of well_formed number_of digits parsed_of folded_to settle_code pots_now back_now score_of payout_now settled_to payout_of padded unclaimed_of spells strength_by two_bytes row_bytes state_bytes jackpot_bytes payout_bytes table_bytes answer_bytes shown_of judged_of block_bytes opened_of output_of
all_twelve = refl

-- what a row `wins_all` says: the five cards beat every hand of the class, whatever its ranks
pub wins_all_law : (five : List ℕ) (k : ℕ) → passes (wins_all five k) ≡ true → (h : HandWorth) → h.class ≡ k → beats_by ranking52 (value_of_hands ranking52 five) h ≡ true
wins_all_law five k e h c =
    higher (get_or ranking52.places (value_of_hands ranking52 five).class 0) (get_or ranking52.places h.class 0) _ _
    (subst (λ (j : ℕ). get_or ranking52.places j 0 < get_or ranking52.places (value_of_hands ranking52 five).class 0) (sym c) (ltb-true (get_or ranking52.places k 0) (get_or ranking52.places (value_of_hands ranking52 five).class 0) e))

-- P3 in general: a full house beats any flush that isn't straight
pub full_over_flush : (a b : List ℕ) → (value_of_hands ranking52 a).class ≡ 2 → (value_of_hands ranking52 b).class ≡ 3 → beats_by ranking52 (value_of_hands ranking52 a) (value_of_hands ranking52 b) ≡ true
full_over_flush a b e f = wins_all_law a 3 (ap (λ (k : ℕ). ltb (get_or ranking52.places 3 0) (get_or ranking52.places k 0)) e) (value_of_hands ranking52 b) f

-- P4 in general: the same ranks, in any order and in other suits, tie where both are a flush or neither is
pub ranks_tie : (a b c : List ℕ) → SameNumbers a c → map rank c ≡ map rank b → one_suit c ≡ one_suit b
    → (beats_by ranking52 (value_of_hands ranking52 a) (value_of_hands ranking52 b) ≡ false) × (beats_by ranking52 (value_of_hands ranking52 b) (value_of_hands ranking52 a) ≡ false)
ranks_tie a b c s r o =
    let e : value_of_hands ranking52 a ≡ value_of_hands ranking52 b = value_same ranking52 a c s ∙ worth in
    (subst (λ (h : HandWorth). beats_by ranking52 (value_of_hands ranking52 a) h ≡ false) e (beats_irrefl ranking52 (value_of_hands ranking52 a)), subst (λ (h : HandWorth). beats_by ranking52 h (value_of_hands ranking52 a) ≡ false) e (beats_irrefl ranking52 (value_of_hands ranking52 a)))
  where
    worth : value_of_hands ranking52 c ≡ value_of_hands ranking52 b
    worth = unfold value_of_hands class_of_cards ranks_of in rw (r, o) refl
