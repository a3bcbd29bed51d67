-- `with_five` meets its contract: the ten choices of three. Assumes nothing.
use mathlib.Core.Path.{sym, ap₂, ◌∙◌}
use Rattle.laws.specs.Tests.{either}
use Rattle.royal.proofs.Laws.{with_five}
use Rattle.royal.proofs.with_five.Goals as goal

pub returns : goal.returns
returns c =
    c.either-5.ensures ∙ ap₂ either c.is_royal-8.ensures (c.either-4.ensures ∙ ap₂ either c.is_royal-9.ensures (c.either-3.ensures ∙ ap₂ either c.is_royal-10.ensures (c.either-with_a.ensures ∙ ap₂ either c.is_royal-6.ensures (c.either-2.ensures ∙ ap₂ either c.is_royal-7.ensures (c.either-with_d.ensures ∙ ap₂ either c.is_royal-5.ensures (c.either-with_b.ensures ∙ ap₂ either c.is_royal-3.ensures (c.either.ensures ∙ ap₂ either c.is_royal-4.ensures (c.either-with_c.ensures ∙ ap₂ either c.is_royal.ensures c.is_royal-2.ensures))))))))
    ∙ sym (with_five _ _ _ _ _ _ _)
