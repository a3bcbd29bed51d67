-- After a fold no hand of seven cards decides anything: what comes back of every wager but the dealer's extra is 0. Assumes nothing.
use mathlib.Core.Path.{◌≡◌, refl, ap}
use mathlib.Core.Bool.{Bool, true, false}
use Prim.Native.Nat.{ℕ}
use native.Mathlib.Omega.{arith}
use borrow.Author.Tests.{eqb-false}
use Rattle.laws.specs.Tests.{pick}
use Rattle.banked.specs.Fates.{ante_fate, play_fate, jackpot_fate, extra_fate, dealer_extra_fate}
use Rattle.banked.specs.Hands.{players_hand, dealers_hand, dealers_flop_hand, standing_of}
use Rattle.banked.specs.Books.{back_of}
use Rattle.banked.specs.Rounds.{is_fold, flop_stake, turn_stake, river_stake, stakes_of, backs_of}
use Rattle.banked.specs.declared.Round.{Round}
use Rattle.banked.specs.declared.Deal.{Deal}
use Rattle.banked.specs.declared.Choice.{Choice}
use Rattle.banked.specs.declared.Choice.TheVariants.{Fold, Stay}
use Rattle.banked.specs.declared.judged.Seven.{Seven}
use Rattle.banked.specs.declared.fates.Fate.{Fate}
use Rattle.banked.specs.declared.fates.Fate.TheVariants.{Lost, Returned, Odds, Times}

-- of no stake nothing comes back, whatever its fate
pub none_staked : (f : Fate) → back_of f 0 ≡ 0
unfolding back_of
none_staked Lost = refl
none_staked Returned = refl
none_staked (Odds n) = omega arith
none_staked (Times n) = omega arith

pub folded_backs : (s : Seven) (d : Deal) {x : ℕ} → s.flop ≡ 0 → s.turn ≡ 0 → s.river ≡ 0 → x ≡ back_of (dealer_extra_fate (dealers_flop_hand d)) s.dealer
    → record { ante = 0; flop = 0; turn = 0; river = 0; jackpot = 0; extra = 0; dealer = x } ≡ backs_of s true d
unfolding backs_of ante_fate jackpot_fate extra_fate back_of
folded_backs s d p q r e = let play = play_fate (standing_of (players_hand d) (dealers_hand d)) in rw (e, p, q, r, none_staked play)

-- a fold places no flop, turn or river wager
pub fold_stakes : (r : Round) → is_fold r.choice ≡ true → ((stakes_of r).flop ≡ 0) × ((stakes_of r).turn ≡ 0) × ((stakes_of r).river ≡ 0)
unfolding stakes_of
fold_stakes r e = go r.choice r.ante e
  where
    no-fold : false ≡ true → ⊥
    no-fold q = eqb-false 1 0 refl (ap (λ (t : Bool). pick t 0 1) q)

    go : (c : Choice) (ante : ℕ) → is_fold c ≡ true → (flop_stake c ante ≡ 0) × (turn_stake c ante ≡ 0) × (river_stake c ante ≡ 0)
    go Fold ante e = (refl, refl, refl)
    go (Stay t v) ante e = absurd (no-fold e)
