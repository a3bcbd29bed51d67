-- `folded_backs` meets its contract.
use Rattle.banked.proofs.Folds.{folded_backs}
use mathlib.Core.Path.{ap, ◌∙◌}
use mathlib.Core.Bool.{false}
use Rattle.banked.specs.Fates.{extra_fate}
use Rattle.banked.specs.Books.{back_of}
use Rattle.banked.specs.declared.fates.Fate.{Fate}
use native.Mathlib.Omega.{arith}
use Rattle.banked.proofs.judged.folded_backs.Goals as goal

pub returns : goal.returns
returns c = let s = c.requires in (
  folded_backs c.args.s c.args.d s.1 s.2 s.3 (c.back_of.ensures.is
      ∙ ap (λ (f : Fate). back_of f c.args.s.dealer) (c.extra_fate.ensures.0 ∙ ap (extra_fate false) c.flop_hand_of-flop.ensures)),
  record { ante = omega arith; flop = omega arith; turn = omega arith; river = omega arith; jackpot = omega arith; extra = omega arith; dealer = omega (arith, s.0.dealer, c.back_of.ensures.small) },
)
