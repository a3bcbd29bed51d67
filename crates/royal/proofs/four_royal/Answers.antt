-- `four_royal` meets its contract: the six pairs. Assumes nothing.
use mathlib.Core.Path.{◌≡◌, sym, ◌∙◌}
use lib.ListN.{length}
use Rattle.royal.proofs.Laws.{four_hole, six_either}
use borrow.Author.Rules.{rules}
use Rattle.royal.proofs.four_royal.Goals as goal

pub returns : goal.returns
returns c =
    let s = c in
    let d = s.args.h.cards in
    let ld : length d ≡ 4 = search rules in
    six_either c.with_two-5.ensures c.with_two-6.ensures c.with_two-3.ensures c.with_two-4.ensures c.with_two.ensures c.with_two-2.ensures c.either-with_3.ensures c.either.ensures c.either-with_2.ensures c.either-2.ensures c.either-3.ensures
    ∙ sym (four_hole s.args.h.count d s.args.b.cards s.requires ld)
