-- `Table::board` meets its contract: the sweep goes up to the last seat where a round opens and to none where not. Assumes nothing.
use borrow.Author.Rules.{rules}
use mathlib.Core.List.{List, ◌++◌}
use lib.ListN.{drop}
use Rattle.table.proofs.Refused.{ok_number}
use Rattle.table.proofs.Acts.{swept_by, seats_by, board_taken}
use Rattle.table.proofs.Sounds.{board_card}
use Rattle.table.proofs.Laws.{board_room}
use borrow.Author.Tests.{eqb-true}
use Rattle.chairs.specs.Sweep.{Round}
use Rattle.chairs.specs.Chairs.{rounded_of}
use Rattle.chairs.specs.declared.Chair.{Chair}
use native.Mathlib.Omega.{arith}
use mathlib.Core.Path.{refl, sym, ap, ◌∙◌}
use Rattle.table.proofs.table.Table.board.Goals as goal

pub board_by-d-requires : goal.board_by-d-requires
board_by-d-requires c = let t = c.args.self in
    (λ q. board_room t c.args.a (sym c.board_code-k.ensures ∙ eqb-true _ 0 (sym (c.is_ok-ok.ensures.value ∙ ok_number c.board_code-k.result) ∙ q)), board_card t.sheet c.args.a c.requires.1)

pub next_turn-next-requires : goal.next_turn-next-requires
next_turn-next-requires c = let h = c.requires.0 in
    let t = c.args.self in
    let e = ap (λ (l : List Chair). l ++ drop c.chosen-last.result t.chairs) (c.sweep.ensures rounded_of (λ x y f. search rules)) in
    let swept = e ∙ swept_by rounded_of refl c.both-round.result t.sheet.seats _ t.chairs h.standing.seated.above c.chosen-last.ensures in
    (rw swept (seats_by Round c.both-round.result t.sheet.seats t.chairs h.standing.seated), omega (arith, c.short_of.ensures, h.standing.puck))

pub returns : goal.returns
returns c = let h = c.requires.0 in
    let t = c.args.self in
    let e = ap (λ (l : List Chair). l ++ drop c.chosen-last.result t.chairs) (c.sweep.ensures rounded_of (λ x y f. search rules)) in
    let swept = e ∙ swept_by rounded_of refl c.both-round.result t.sheet.seats _ t.chairs h.standing.seated.above c.chosen-last.ensures in
    board_taken t c.args.a _ _ _ _ _ _ _ _ _ c.board_code-k.ensures (rw (c.is_ok-ok.ensures.value, ok_number c.board_code-k.result) at c.board_by-d.ensures) (rw (c.is_ok-ok.ensures.value, ok_number c.board_code-k.result) at c.both-round.ensures) swept c.chosen-mark.ensures c.chosen-lift.ensures c.short_of.ensures c.next_turn-next.ensures c.judged.ensures
