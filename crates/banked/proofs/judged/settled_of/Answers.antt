-- `settled_of` meets its contract.
use native.Mathlib.Omega.{arith}
use Rattle.banked.specs.Rounds.{settled_of}
use Rattle.banked.proofs.judged.settled_of.Goals as goal

pub returns : goal.returns
unfolding settled_of
returns c = (
  rw (c.short_of-2.ensures, c.short_of.ensures, c.total-back.ensures.0, c.total-staked.ensures.0, c.round_backs-backs.ensures.0, c.stakes_of-stakes.ensures.0),
  record {
    backs = c.round_backs-backs.ensures.1;
    staked = c.total-staked.ensures.1;
    back = c.total-back.ensures.1;
    won = omega (arith, c.short_of.ensures, c.total-back.ensures.1);
    lost = omega (arith, c.short_of-2.ensures, c.total-staked.ensures.1);
  },
)
