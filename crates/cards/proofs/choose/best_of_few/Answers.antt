-- `cards::choose::best_of_few` meets its contract. Assumes nothing.
use native.Mathlib.Omega.{arith}
use Rattle.cards.specs.Packed.{hand_in}
use Rattle.cards.proofs.Packing.{few-stands, all_small, all_found, few-found, hand_nine}
use Rattle.cards.proofs.choose.best_of_few.Goals as goal

pub overflow_mul-rest : goal.overflow_mul-rest
overflow_mul-rest c =
    let s = c in
    let a = s.args in
    omega (arith, all_small a.chosen a.have c.unit_of-unit.result c.unit_of-unit.ensures.is c.unit_of-unit.ensures.small.0 a.ranking (hand_in a.so_far) a.at c.packed-rest.result a.cards.now (omega arith) (omega arith) c.packed-rest.ensures.is c.packed-rest.ensures.small c.if-left-have.true)

pub overflow_add-rest : goal.overflow_add-rest
overflow_add-rest c =
    let s = c in
    let a = s.args in
    omega (arith, all_small a.chosen a.have c.unit_of-unit.result c.unit_of-unit.ensures.is c.unit_of-unit.ensures.small.0 a.ranking (hand_in a.so_far) a.at c.packed-rest.result a.cards.now (omega arith) (omega arith) c.packed-rest.ensures.is c.packed-rest.ensures.small c.if-left-have.true)

pub returns-then-left-have : goal.returns-then-left-have
returns-then-left-have c =
    let s = c in
    let a = s.args in
    record { is = all_found a.chosen a.have c.unit_of-unit.result c.unit_of-unit.ensures.is c.unit_of-unit.ensures.small.0 a.ranking (hand_in a.so_far) a.at c.packed-rest.result a.cards.now (omega arith) (omega arith) c.packed-rest.ensures.is c.packed-rest.ensures.small _ c.if-left-have.true c.in_full.ensures.0; small = c.in_full.ensures.1 }

pub search-requires : goal.search-requires
search-requires c =
    let s = c in
    let a = s.args in
    (few-stands a.chosen a.have c.unit_of-unit.result c.unit_of-unit.ensures.is c.unit_of-unit.ensures.small.0 a.ranking (hand_in a.so_far) a.at c.packed-rest.result a.cards.now (omega arith) (omega arith) c.packed-rest.ensures.is c.packed-rest.ensures.small c.if-left-have.false, s.requires.4, s.requires.5)

pub returns : goal.returns
returns c =
    let s = c in
    let a = s.args in
    record { is = few-found a.chosen a.have c.unit_of-unit.result c.unit_of-unit.ensures.is c.unit_of-unit.ensures.small.0 a.ranking (hand_in a.so_far) a.at c.packed-rest.result a.cards.now (omega arith) (omega arith) c.packed-rest.ensures.is c.packed-rest.ensures.small s.requires.4 _ (hand_nine a.ranking a.so_far s.requires.5) c.if-left-have.false c.search.ensures.is; small = c.search.ensures.small }
