-- `cards::choose::search` meets its contract. Assumes nothing.
use native.Mathlib.Omega.{arith}
use Rattle.cards.specs.Packed.{hand_in}
use Rattle.cards.proofs.Standing.{unit_small, with_small, five_small, stands_with, stands_without, last_found, next-found, without-found, six_found}
use Rattle.cards.proofs.choose.+search.Goals as goal

pub returns-then-have-eq6 : goal.returns-then-have-eq6
returns-then-have-eq6 t c =
    let s = c in
    let a = s.args in
    record { is = six_found a.ranking (hand_in a.so_far) a.rest a.spare a.chosen a.have a.unit s.requires.0 c.if-have-eq6.true; small = s.requires.2 }

pub overflow_mul-with : goal.overflow_mul-with
overflow_mul-with t c =
    let s = c in
    let a = s.args in
    omega (arith, with_small a.rest a.spare a.chosen a.have a.unit s.requires.0 c.if-have-eq6.false, unit_small a.rest a.spare a.chosen a.have a.unit s.requires.0 c.if-have-eq6.false)

pub overflow_add-with : goal.overflow_add-with
overflow_add-with t c =
    let s = c in
    let a = s.args in
    omega (arith, with_small a.rest a.spare a.chosen a.have a.unit s.requires.0 c.if-have-eq6.false, unit_small a.rest a.spare a.chosen a.have a.unit s.requires.0 c.if-have-eq6.false)

pub overflow_mul-more : goal.overflow_mul-more
overflow_mul-more t c =
    let s = c in
    let a = s.args in
    omega (arith, five_small a.rest a.spare a.chosen a.have a.unit s.requires.0 c.if-have-eq6.false c.if-spare-eq1.true)

pub overflow_add-more : goal.overflow_add-more
overflow_add-more t c =
    let s = c in
    let a = s.args in
    omega (arith, five_small a.rest a.spare a.chosen a.have a.unit s.requires.0 c.if-have-eq6.false c.if-spare-eq1.true)

pub better-without-requires : goal.better-without-requires
better-without-requires t c = (c.requires.1, c.requires.2)

pub overflow_add-have : goal.overflow_add-have
overflow_add-have t c = omega arith

pub overflow_mul-unit : goal.overflow_mul-unit
overflow_mul-unit t c =
    let s = c in
    let a = s.args in
    omega (arith, unit_small a.rest a.spare a.chosen a.have a.unit s.requires.0 c.if-have-eq6.false)

pub search-requires : goal.search-requires
search-requires t c =
    let s = c in
    let a = s.args in
    (omega (arith, s.requires.0.some, s.requires.0.most, c.if-have-eq6.false), (stands_with a.rest a.spare a.chosen a.have a.unit s.requires.0 c.if-have-eq6.false, s.requires.1, c.better-without.ensures.1))

pub returns-then-spare-eq1 : goal.returns-then-spare-eq1
returns-then-spare-eq1 t c =
    let s = c in
    let a = s.args in
    let h = hand_in a.so_far in record {
      is = next-found a.rest a.spare a.chosen a.have a.unit s.requires.0 c.if-have-eq6.false a.ranking h (hand_in c.better-without.result) _
          (last_found a.rest a.spare a.chosen a.have a.unit s.requires.0 c.if-have-eq6.false a.ranking h (hand_in c.better-without.result) c.if-spare-eq1.true c.better-without.ensures.0) c.search.ensures.is;
      small = c.search.ensures.small;
    }

pub overflow_sub-spare : goal.overflow_sub-spare
overflow_sub-spare t c =
    let s = c in
    omega (arith, s.requires.0.some)

pub search-without-requires : goal.search-without-requires
search-without-requires t c =
    let s = c in
    let a = s.args in
    (omega (arith, s.requires.0.some, s.requires.0.most, c.if-spare-eq1.false), (stands_without a.rest a.spare a.chosen a.have a.unit s.requires.0 c.if-have-eq6.false c.if-spare-eq1.false, s.requires.1, s.requires.2))

pub overflow_add-have-2 : goal.overflow_add-have-2
overflow_add-have-2 t c = omega arith

pub overflow_mul-unit-2 : goal.overflow_mul-unit-2
overflow_mul-unit-2 t c =
    let s = c in
    let a = s.args in
    omega (arith, unit_small a.rest a.spare a.chosen a.have a.unit s.requires.0 c.if-have-eq6.false)

pub search-requires-2 : goal.search-requires-2
search-requires-2 t c =
    let s = c in
    let a = s.args in
    (omega (arith, s.requires.0.some, s.requires.0.most, c.if-have-eq6.false), (stands_with a.rest a.spare a.chosen a.have a.unit s.requires.0 c.if-have-eq6.false, s.requires.1, c.search-without.ensures.small))

pub returns : goal.returns
returns t c =
    let s = c in
    let a = s.args in
    let h = hand_in a.so_far in record {
      is = next-found a.rest a.spare a.chosen a.have a.unit s.requires.0 c.if-have-eq6.false a.ranking h (hand_in c.search-without.result) _
          (without-found a.rest a.spare a.chosen a.have a.unit s.requires.0 c.if-have-eq6.false a.ranking h (hand_in c.search-without.result) c.search-without.ensures.is) c.search-2.ensures.is;
      small = c.search-2.ensures.small;
    }
