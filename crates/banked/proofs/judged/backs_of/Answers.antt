-- `banked::judged::backs_of` meets its contract. Assumes nothing.
use Rattle.banked.specs.Rounds.{backs_of}
use native.Mathlib.Omega.{arith}
use Rattle.banked.proofs.judged.backs_of.Goals as goal

pub back_of-requires : goal.back_of-requires
back_of-requires c = (c.ante_fate.ensures.1, omega (arith, c.requires.ante))

pub back_of-requires-2 : goal.back_of-requires-2
back_of-requires-2 c = (c.play_fate-play.ensures.1, omega (arith, c.requires.flop))

pub back_of-requires-3 : goal.back_of-requires-3
back_of-requires-3 c = (c.play_fate-play.ensures.1, omega (arith, c.requires.turn))

pub back_of-requires-4 : goal.back_of-requires-4
back_of-requires-4 c = (c.play_fate-play.ensures.1, omega (arith, c.requires.river))

pub back_of-requires-5 : goal.back_of-requires-5
back_of-requires-5 c = (c.jackpot_fate.ensures.1, omega (arith, c.requires.jackpot))

pub back_of-requires-6 : goal.back_of-requires-6
back_of-requires-6 c = (c.extra_fate.ensures.1, omega (arith, c.requires.extra))

pub back_of-requires-7 : goal.back_of-requires-7
back_of-requires-7 c = (c.extra_fate-2.ensures.1, omega (arith, c.requires.dealer))

pub returns : goal.returns
unfolding backs_of
returns c = let s = c.requires in (
  rw (c.back_of-7.ensures.is, c.extra_fate-2.ensures.0, c.back_of-6.ensures.is, c.extra_fate.ensures.0, c.back_of-5.ensures.is, c.jackpot_fate.ensures.0, c.back_of-4.ensures.is, c.back_of-3.ensures.is, c.back_of-2.ensures.is, c.back_of.ensures.is, c.ante_fate.ensures.0, c.flop_hand_of-dealers.ensures, c.flop_hand_of-flop_hand.ensures, c.play_fate-play.ensures.0, c.standing_of-standing.ensures, c.hand_of.ensures, c.hand_of-player.ensures),
  record {
    ante = omega (arith, s.ante, c.back_of.ensures.small);
    flop = omega (arith, s.flop, c.back_of-2.ensures.small);
    turn = omega (arith, s.turn, c.back_of-3.ensures.small);
    river = omega (arith, s.river, c.back_of-4.ensures.small);
    jackpot = omega (arith, s.jackpot, c.back_of-5.ensures.small);
    extra = omega (arith, s.extra, c.back_of-6.ensures.small);
    dealer = omega (arith, s.dealer, c.back_of-7.ensures.small);
  },
)
