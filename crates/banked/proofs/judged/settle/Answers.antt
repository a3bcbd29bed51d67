-- `banked::judged::settle` meets its contract. Assumes nothing.
use Rattle.banked.proofs.Codes.{bounded, gets_two, gets_eight, gets_paid}
use mathlib.Core.Path.{sym, ◌∙◌}
use Rattle.banked.proofs.judged.settle.Goals as goal

pub returns-then-wrong_number : goal.returns-then-wrong_number
returns-then-wrong_number c = record { is = gets_two c.args.r (sym c.wrong_number.ensures ∙ c.if-wrong_number.true); small = tt }

pub returns-then-card_twice : goal.returns-then-card_twice
returns-then-card_twice c = record { is = gets_eight c.args.r (sym c.wrong_number.ensures ∙ c.if-wrong_number.false) (sym c.card_twice.ensures ∙ c.if-card_twice.true); small = tt }

pub settled_of-requires : goal.settled_of-requires
settled_of-requires c = bounded c.args.r (sym c.wrong_number.ensures ∙ c.if-wrong_number.false)

pub returns : goal.returns
returns c = let p = gets_paid c.args.r (sym c.wrong_number.ensures ∙ c.if-wrong_number.false) (sym c.card_twice.ensures ∙ c.if-card_twice.false) in
    record { is = (rw c.settled_of.ensures.0 p.0, p.1); small = c.settled_of.ensures.1 }
