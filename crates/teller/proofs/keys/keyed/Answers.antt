-- `teller::keys::keyed` meets its contract: a line of a key, whose number has at most nine digits. Assumes nothing.
use Rattle.teller.proofs.Saying.{value_small}
use Rattle.teller.specs.declared.keys.Line.{Line}
use Rattle.text.specs.TableSheet.{value_in}
use lib.Dec.{lit<}
use Prim.Native.Nat.{ℕ, ◌<◌, ◌^◌}
use mathlib.Core.Path.{refl, sym, ap, ◌∙◌, subst}
use Rattle.teller.proofs.keys.keyed.Goals as goal

pub returns-then-has_key : goal.returns-then-has_key
returns-then-has_key c = let e = c.unwrap_or.ensures ∙ ap value_in c.read_key_number-x.ensures in
    (rw (sym c.has_key.ensures ∙ c.if-has_key.true) (rw (c.unwrap_or.ensures, c.is_some.ensures, c.read_key_number-x.ensures) refl), subst (λ (n : ℕ). n < 10 ^ 9) (sym e) (value_small c.args.key.now c.args.line.now))

pub returns : goal.returns
returns c = (rw (sym c.has_key.ensures ∙ c.if-has_key.false) c.other.ensures, subst (λ (l : Line). l.value < 10 ^ 9) (sym c.other.ensures) (lit< tt))
