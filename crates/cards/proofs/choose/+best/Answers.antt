-- `cards::choose::best` meets its contract. Assumes nothing.
use Rattle.cards.specs.Packed.{hand_in}
use Rattle.cards.proofs.Searched.{found_five, found_more}
use native.Mathlib.Omega.{arith}
use borrow.Author.Rules.{rules}
use Rattle.cards.proofs.choose.+best.Goals as goal

pub in_full-requires : goal.in_full-requires
in_full-requires t c = (c.requires.3, c.requires.4)

pub returns-then-have-eq5 : goal.returns-then-have-eq5
returns-then-have-eq5 t c =
    let s = c in
    let a = s.args in
    record { is = found_five a.ranking (hand_in a.so_far) _ a.chosen a.have a.at a.cards.now c.if-have-eq5.true c.in_full.ensures.0; small = c.in_full.ensures.1 }

pub overflow_sub-cards : goal.overflow_sub-cards
overflow_sub-cards t c = omega arith

pub best_of_few-requires : goal.best_of_few-requires
best_of_few-requires t c =
    let s = c in (omega arith, omega arith, omega arith, omega arith, s.requires.3, s.requires.4)

pub returns-then-cards-at-le8 : goal.returns-then-cards-at-le8
returns-then-cards-at-le8 t c = record { is = c.best_of_few.ensures.is; small = c.best_of_few.ensures.small }

pub overflow_add-at : goal.overflow_add-at
overflow_add-at t c = omega arith

pub bounds-cards-at : goal.bounds-cards-at
bounds-cards-at t c = omega arith

pub push-requires : goal.push-requires
push-requires t c = search rules

pub overflow_add-have : goal.overflow_add-have
overflow_add-have t c = omega arith

pub best-with-requires : goal.best-with-requires
best-with-requires t c =
    let s = c in (omega arith, (omega arith, omega arith, omega arith, s.requires.3, s.requires.4))

pub overflow_add-at-2 : goal.overflow_add-at-2
overflow_add-at-2 t c = omega arith

pub best-requires : goal.best-requires
best-requires t c =
    let s = c in (omega arith, (omega arith, omega arith, omega arith, s.requires.3, c.best-with.ensures.small))

pub returns : goal.returns
returns t c =
    let s = c in
    let a = s.args in record {
      is = found_more a.ranking (hand_in a.so_far) _ a.chosen a.have a.at a.cards.now c.push.result (hand_in c.best-with.result) s.requires.1
          c.if-have-eq5.false (omega arith) c.push.ensures.0 c.push.ensures.1 c.best-with.ensures.is c.best.ensures.is;
      small = c.best.ensures.small;
    }
