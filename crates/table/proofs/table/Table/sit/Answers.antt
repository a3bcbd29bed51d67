-- `Table::sit` meets its contract.
use Rattle.table.proofs.Refused.{ok_number}
use Rattle.table.proofs.Arms.{seat_place, seat_read, sit_taken}
use Rattle.paper.specs.Paper.{is_seat, between}
use Rattle.laws.proofs.Tests.{both_true}
use mathlib.Core.Path.{refl}
use Rattle.table.proofs.table.Table.sit.Goals as goal

pub place-i-requires : goal.place-i-requires
place-i-requires c = let t = c.args.self in
    let s = c.args.s in
    seat_place t s c.requires.0 (both_true (is_seat t.sheet s) (between 1 1000000 c.args.a) c.requires.1).0

pub sit_code-k-requires : goal.sit_code-k-requires
sit_code-k-requires c = (c.requires.0.standing, seat_read c.args.self c.place-i.result c.args.s c.requires.0 c.place-i.ensures.0 c.place-i.ensures.1)

pub returns : goal.returns
returns c = let t = c.args.self in
    let s = c.args.s in
    let p = c.place-i in
    let q = seat_read t p.result s c.requires.0 p.ensures.0 p.ensures.1 in
    sit_taken t p.result s c.args.a _ _ _ _ _ _ _ _ p.ensures.0 q c.sit_code-k.ensures (rw (c.is_ok-ok.ensures.value, ok_number c.sit_code-k.result) at c.chosen-n.ensures) refl (rw (c.is_ok-ok.ensures.value, ok_number c.sit_code-k.result) at c.seated_by-d.ensures) c.with_chairs.ensures c.with_sitting.ensures c.judged.ensures
