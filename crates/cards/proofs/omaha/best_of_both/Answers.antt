-- `best_of_both` meets its contract.
use mathlib.Core.Path.{◌≡◌, sym, ap, ◌∙◌}
use mathlib.Core.List.{List}
use Prim.Native.Nat.{ℕ}
use lib.ListN.{length, get_or}
use Rattle.cards.specs.Order.{best_among}
use Rattle.cards.specs.Omaha.{from_both}
use Rattle.cards.proofs.Searched.{none_is}
use Rattle.cards.proofs.Pairs.{as_four, found-both}
use borrow.Author.Rules.{rules}
use Rattle.cards.proofs.omaha.best_of_both.Goals as goal

pub with_pair-n1-requires : goal.with_pair-n1-requires
with_pair-n1-requires c =
    let s = c in
    let n : length s.args.ranking.places ≡ 9 = search rules in
    (s.requires.0, s.requires.1, none_is s.args.ranking n)

pub returns : goal.returns
returns c =
    let s = c in
    let hole = s.args.hole in
    let board = s.args.board.now in
    let len : length hole ≡ 4 = search rules in
    let best = found-both s.args.ranking board (get_or hole 0 0) (get_or hole 1 0) (get_or hole 2 0) (get_or hole 3 0) c.with_pair-n1.ensures.is
    c.with_pair-n2.ensures.is c.with_pair-n3.ensures.is c.with_pair-n4.ensures.is
    c.with_pair-n5.ensures.is c.with_pair.ensures.is in
    c.hand_in.ensures ∙ best ∙ ap (λ (l : List ℕ). best_among s.args.ranking (from_both 2 3 l board)) (sym (as_four hole len))
