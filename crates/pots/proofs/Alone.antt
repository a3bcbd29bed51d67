-- Where one hand is live it contends alone for each pot, so what each sitting is due goes by no score: "A sole contender needs no cards".
-- For any number of seats.
-- Assumes nothing.
use Prim.Native.Nat.{ℕ, ◌-◌, ◌/◌, ◌%◌, ◌≤◌, zero-le}
use mathlib.Core.Path.{◌≡◌, refl, sym, ap, ap₂, ◌∙◌, subst}
use mathlib.Core.Bool.{Bool, true, false}
use mathlib.Core.List.{List, [], ◌∷◌, map}
use native.Mathlib.Omega.{arith}
use lib.Dec.{eqb}
use lib.ListN.{length, replicate}
use borrow.Author.Tests.{eqb-true}
use Rattle.laws.specs.Lists.{All}
use Rattle.laws.specs.Tests.{pick}
use Rattle.laws.specs.Bits.{ones}
use Rattle.laws.proofs.Bits.{ones_zero}
use Rattle.pots.specs.Heights.{has, chips_at, live_of, mask_at, contenders, contested, contest, returned_of}
use Rattle.pots.specs.declared.Pot.{Pot}
use Rattle.pots.specs.declared.Commission.{Commission}
use Rattle.pots.specs.Runs.{pots_of}
use Rattle.pots.specs.Settle.{fee_of, shares_of}
use Rattle.pots.specs.Hand.{winners_of, plus, won_of, drop_of_hand, due_of}
use Rattle.pots.proofs.Chips.{has_none}
use Rattle.pots.proofs.Masks.{has_le, live_length, ones_mask}
use Rattle.pots.proofs.PotRuns.{pots_all}
use Rattle.pots.proofs.Winners.{winners_sole}
use Rattle.pots.proofs.Hands.{Manned, manned, pots_manned}

-- ---- no pot has more contenders than hands are live
live_bit : (t live h : ℕ) → 1 ≤ h → has (pick (eqb (live % 2) 1) t 0) h ≤ live % 2
live_bit t live h p = go (eqb (live % 2) 1) refl
  where
    go : (b : Bool) → eqb (live % 2) 1 ≡ b → has (pick b t 0) h ≤ live % 2
    go true e = omega (arith, has_le t h, eqb-true (live % 2) 1 e)
    go false e = omega (arith, has_none 0 h p)

live_few : (ts : List ℕ) (live h : ℕ) → 1 ≤ h → chips_at (live_of ts live) h ≤ ones (length ts) live
unfolding chips_at live_of ones
live_few [] live h p = zero-le
live_few (t ∷ ts) live h p = omega (arith, live_bit t live h p, live_few ts (live / 2) h p)

pub contenders_few : (ts : List ℕ) (live : ℕ) → All (λ (p : Pot). ones (length ts) p.who ≤ ones (length ts) live) (pots_of ts live)
unfolding contest contenders
contenders_few ts live = pots_all (λ m. ones (length ts) m ≤ ones (length ts) live) ts live few
  where
    few : (h : ℕ) → 1 ≤ h → ones (length ts) (contest ts live h) ≤ ones (length ts) live
    few h p = go (contested ts live h)
      where
        go : (b : Bool) → ones (length ts) (pick b (mask_at (live_of ts live) h) 0) ≤ ones (length ts) live
        go true =
            let e : ones (length (live_of ts live)) (mask_at (live_of ts live) h) ≡ ones (length ts) (mask_at (live_of ts live) h) = ap (λ k. ones k (mask_at (live_of ts live) h)) (live_length ts live) in
            omega (arith, e, ones_mask (live_of ts live) h, live_few ts live h p)
        go false = omega (arith, ones_zero (length ts))

-- ---- pots with one contender each are won whatever the scores are
module _ (scores others : List ℕ) (n : length others ≡ length scores) (rule : Commission) (puck : ℕ) where
  won_alone : (left off : ℕ) (ps : List Pot) → Manned (length scores) ps → All (λ (p : Pot). ones (length scores) p.who ≤ 1) ps
      → won_of others rule puck left off ps ≡ won_of scores rule puck left off ps
  unfolding won_of
  won_alone left off [] m a = ap (λ k. replicate k 0) n
  won_alone left off (p ∷ ps) (manned w m) a =
      let rest = p.amount - fee_of rule left p.amount - off in
      let one : ones (length scores) p.who ≡ 1 = omega (arith, w, a.0) in
      let win : winners_of others p.who ≡ winners_of scores p.who =
      winners_sole others p.who (ap (λ k. ones k p.who) n ∙ one) ∙ sym (winners_sole scores p.who one) in
      ap₂ plus (ap₂ (λ (k v : ℕ). shares_of k rest v puck) n win) (won_alone (left - fee_of rule left p.amount) 0 ps m a.1)

-- where one hand is live, what each is due is the same with any scores
pub due_alone : (ts : List ℕ) (live : ℕ) (scores others : List ℕ) (rule : Commission) (puck : ℕ) → ones (length ts) live ≡ 1
    → length scores ≡ length ts → length others ≡ length ts → due_of ts live others rule puck ≡ due_of ts live scores rule puck
due_alone ts live scores others rule puck one n m =
    ap (λ w. plus w (map (returned_of ts live) ts))
    (won_alone scores others (m ∙ sym n) rule puck rule.cap (drop_of_hand ts live rule) (pots_of ts live)
    (subst (λ k. Manned k (pots_of ts live)) (sym n) (pots_manned ts live))
    (subst (λ k. All (λ (p : Pot). ones k p.who ≤ 1) (pots_of ts live)) (sym n)
    (subst (λ k. All (λ (p : Pot). ones (length ts) p.who ≤ k) (pots_of ts live)) one (contenders_few ts live))))
