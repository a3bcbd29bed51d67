-- `next` meets its contract.
-- Assumes nothing.
use Rattle.std.proofs.Common.{◌≡◌, ℕ, ◌∙◌, refl, min, fold, reverse, rules}
use lib.Dec.{ltb}
use Rattle.laws.specs.Tests.{pick}
use Rattle.pots.specs.Levels.{next_of}
use Rattle.pots.proofs.Backward.{fold_back}
use Rattle.pots.proofs.next.Goals as goal

pub returns : goal.returns
unfolding next_of
returns c =
    let a = c.args in
    let f = λ (m : ℕ) (x : ℕ). pick (ltb a.lo x) (min x m) m in
    let e : c.fold.result ≡ fold f a.cap (reverse a.xs) = search rules in
    e ∙ fold_back f (λ l. next_of l a.lo a.cap) a.cap refl (λ x xs. refl) a.xs
