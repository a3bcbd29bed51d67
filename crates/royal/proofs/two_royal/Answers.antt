-- `two_royal` meets its contract. Assumes nothing.
use mathlib.Core.Path.{◌≡◌, sym, ◌∙◌}
use lib.ListN.{length}
use Rattle.royal.proofs.Laws.{two_hole}
use borrow.Author.Rules.{rules}
use Rattle.royal.proofs.two_royal.Goals as goal

pub returns : goal.returns
returns c =
    let s = c in
    let d = s.args.h.cards in
    let ld : length d ≡ 4 = search rules in
    c.with_two.ensures ∙ sym (two_hole s.args.h.count d s.args.b.cards s.requires ld)
