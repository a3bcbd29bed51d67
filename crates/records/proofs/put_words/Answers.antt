-- `put_words` meets its contract. Each answer but the last holds of any ten words or fewer; the last needs all ten.
use Rattle.records.proofs.Words.{going_start, going_room, going_part, going_turn, going_done}
use lib.ListN.{length, length-take}
use mathlib.Core.Path.{◌≡◌, refl}
use native.Mathlib.Omega.{arith}
use borrow.Author.Rules.{rules}
use Rattle.records.proofs.put_words.Goals as goal

pub loop-w-init : goal.loop-w-init
loop-w-init c = going_start _ _

pub slice_bounds-put_word-count : goal.slice_bounds-put_word-count
slice_bounds-put_word-count c = let n : length c.args.ws ≡ 10 = search rules in omega (arith, going_room c.loop-w.invariant (grind (arith, n, length-take)) c.requires (omega (arith, n)))

pub slice_bounds-put_word-start : goal.slice_bounds-put_word-start
slice_bounds-put_word-start c = let n : length c.args.ws ≡ 10 = search rules in omega (arith, going_room c.loop-w.invariant (grind (arith, n, length-take)) c.requires (omega (arith, n)))

pub put_word-at-requires : goal.put_word-at-requires
put_word-at-requires c = let n : length c.args.ws ≡ 10 = search rules in going_part c.loop-w.invariant (grind (arith, n, length-take)) c.requires (omega (arith, n))

pub overflow_add-at : goal.overflow_add-at
overflow_add-at c = let n : length c.args.ws ≡ 10 = search rules in omega (arith, going_room c.loop-w.invariant (grind (arith, n, length-take)) c.requires (omega (arith, n)), c.put_word-at.ensures.count)

pub loop-w-preserved : goal.loop-w-preserved
loop-w-preserved c = let n : length c.args.ws ≡ 10 = search rules in going_turn c.loop-w.invariant (omega (arith, n)) c.put_word-at.ensures refl (search rules)

pub returns : goal.returns
returns c = let n : length c.args.ws ≡ 10 = search rules in going_done c.loop-w.invariant (omega (arith, n))
