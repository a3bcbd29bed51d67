-- How a round is judged: 2 before 8, and a round that gets neither has every wager at most 100,000. Assumes nothing.
use mathlib.Core.Path.{◌≡◌}
use mathlib.Core.Bool.{Bool, true, false}
use Prim.Native.Nat.{ℕ, ◌≤◌}
use lib.Dec.{eqb}
use borrow.Author.Tests.{ltb-false}
use Rattle.std.specs.Prelude.{Ok, Err}
use Rattle.laws.specs.Tests.{pick, either}
use Rattle.laws.proofs.Tests.{either_false}
use Rattle.banked.specs.Hands.{high_card, card_twice}
use Rattle.banked.specs.Rounds.{too_much, wrong_number, round_code, outcome_of, settled_of, Bounded}
use Rattle.banked.specs.declared.Round.{Round}
use Rattle.paper.specs.declared.refusal.Refusal.TheVariants.{OutOfRange, CardTwice}
use Rattle.paper.specs.RefusalNumbers as paper

pub pick_most : (b : Bool) (x y m : ℕ) → x ≤ m → y ≤ m → pick b x y ≤ m
pick_most true x y m h k = h
pick_most false x y m h k = k

pub bounded : (r : Round) → wrong_number r ≡ false → Bounded r
unfolding wrong_number
bounded r e =
    let four = either (too_much r.dealer) (high_card r.deal) in
    let three = either (too_much r.extra) four in
    let two = either (too_much r.jackpot) three in
    let p = either_false (eqb r.ante 0) (either (too_much r.ante) two) e in
    let q = either_false (too_much r.ante) two p.1 in
    let j = either_false (too_much r.jackpot) three q.1 in
    let x = either_false (too_much r.extra) four j.1 in
    let d = either_false (too_much r.dealer) (high_card r.deal) x.1 in
    record {
      ante = ltb-false _ _ q.0;
      jackpot = ltb-false _ _ j.0;
      extra = ltb-false _ _ x.0;
      dealer = ltb-false _ _ d.0;
    }

module _ (r : Round) where
  pub gets_two : wrong_number r ≡ true → (Err OutOfRange ≡ outcome_of r) × (paper.out_of_range ≡ round_code r)
  unfolding outcome_of round_code
  gets_two e = (rw e, rw e)

  pub gets_eight : wrong_number r ≡ false → card_twice r.deal ≡ true → (Err CardTwice ≡ outcome_of r) × (paper.card_twice ≡ round_code r)
  unfolding outcome_of round_code
  gets_eight e t = (rw (e, t), rw (e, t))

  pub gets_paid : wrong_number r ≡ false → card_twice r.deal ≡ false → (Ok (settled_of r) ≡ outcome_of r) × (paper.taken ≡ round_code r)
  unfolding outcome_of round_code
  gets_paid e t = (rw (e, t), rw (e, t))
