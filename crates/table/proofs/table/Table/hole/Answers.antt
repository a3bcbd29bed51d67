-- `Table::hole` meets its contract.
use Rattle.table.proofs.Refused.{ok_number}
use Rattle.table.proofs.Arms.{seat_place, seat_read, put_taken}
use Rattle.table.proofs.Sounds.{hole_cards}
use Rattle.table.specs.Dealing.{held_to}
use Rattle.chairs.specs.declared.Chair.{Chair}
use Rattle.chairs.specs.Chairs.{held_of}
use Rattle.paper.specs.declared.Entry.TheVariants.{Hole}
use Rattle.paper.specs.Paper.{is_seat, is_card}
use Rattle.laws.proofs.Tests.{both_true}
use Rattle.laws.specs.Tests.{both}
use mathlib.Core.Path.{refl}
use Rattle.table.proofs.table.Table.hole.Goals as goal

pub place-i-requires : goal.place-i-requires
place-i-requires c = let t = c.args.self in
    let s = c.args.s in
    let deck = t.sheet.deck in
    seat_place t s c.requires.0 (both_true (is_seat t.sheet s) (both (is_card deck c.args.a) (is_card deck c.args.b)) c.requires.1).0

pub hole_code-k-requires : goal.hole_code-k-requires
hole_code-k-requires c = (c.requires.0.standing, seat_read c.args.self c.place-i.result c.args.s c.requires.0 c.place-i.ensures.0 c.place-i.ensures.1)

pub held_by-d-requires : goal.held_by-d-requires
held_by-d-requires c = hole_cards c.args.self.sheet c.args.s c.args.a c.args.b c.requires.1

pub returns : goal.returns
unfolding held_to
returns c = let t = c.args.self in
    let s = c.args.s in
    let p = c.place-i in
    let q = seat_read t p.result s c.requires.0 p.ensures.0 p.ensures.1 in
    put_taken t (Hole s c.args.a c.args.b) p.result s _ (λ (y : Chair). held_of y c.args.a c.args.b) _ _ _ _ _ refl refl p.ensures.0 q c.hole_code-k.ensures refl (rw (c.is_ok.ensures.value, ok_number c.hole_code-k.result) at c.held_by-d.ensures) c.with_chairs.ensures c.judged.ensures
