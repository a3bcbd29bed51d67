-- `Table::act` meets its contract: the sweep goes up to the last seat for a wager and to none for any other act. Assumes nothing.
use borrow.Author.Rules.{rules}
use Rattle.table.proofs.Refused.{ok_number}
use Rattle.table.proofs.Acts.{act_seat, swept_put, seats_by, act_taken}
use Rattle.table.proofs.Arms.{seat_place, seat_read}
use Rattle.table.proofs.Standing.{seat_within}
use Rattle.table.specs.State.{seat_of}
use Rattle.paper.specs.declared.Numbers.{Numbers}
use Rattle.chairs.proofs.Above.{seats_put}
use Rattle.chairs.proofs.Laws.{chips_at}
use Rattle.chairs.specs.Sweep.{Again}
use Rattle.chairs.specs.declared.Chair.{Chair}
use Rattle.chairs.specs.Chairs.{sweep_of}
use native.Mathlib.Omega.{arith}
use mathlib.Core.Path.{refl, ap, ◌∙◌}
use Prim.Native.Nat.{◌+◌}
use Rattle.table.proofs.table.Table.act.Goals as goal

pub place-i-requires : goal.place-i-requires
place-i-requires c = seat_place c.args.self c.numbers_of-x.result.seat c.requires.0 (act_seat c.args.self c.args.e c.numbers_of-x.result c.numbers_of-x.ensures c.requires.2 c.requires.1)

pub act_code-k-requires : goal.act_code-k-requires
act_code-k-requires c = let t = c.args.self in
    let x = c.numbers_of-x in
    (c.requires.0.standing, c.requires.2, seat_read t c.place-i.result x.result.seat c.requires.0 c.place-i.ensures.0 c.place-i.ensures.1 ∙ ap (λ (n : Numbers). seat_of t n.seat) x.ensures)

pub act_by-d-requires : goal.act_by-d-requires
act_by-d-requires c = let t = c.args.self in
    let s = c.numbers_of-x.result.seat in
    let q = seat_read t c.place-i.result s c.requires.0 c.place-i.ensures.0 c.place-i.ensures.1 in
    omega (arith, ap (λ (d : Chair). d.stack + d.dealt.total) q, chips_at t.chairs s, c.requires.0.payable.chips)

pub next_turn-next-requires : goal.next_turn-next-requires
next_turn-next-requires c = let h = c.requires.0 in
    let t = c.args.self in
    let x = c.numbers_of-x in
    let s = x.result.seat in
    let d = c.act_by-d.result in
    let k = Again c.is_full_lift-full.result in
    let e = c.sweep.ensures (sweep_of k) (λ x y f. search rules) in
    let put = swept_put k c.both-wager.result t _ c.place-i.result s d _ h c.chosen-last.ensures e c.place-i.ensures.0 in
    let within = seat_within t.sheet s (act_seat t c.args.e x.result x.ensures c.requires.2 c.requires.1) in
    (rw put (seats_put t.sheet.seats _ s d within (seats_by k c.both-wager.result t.sheet.seats t.chairs h.standing.seated)), within)

pub returns : goal.returns
returns c = let h = c.requires.0 in
    let t = c.args.self in
    let x = c.numbers_of-x in
    let s = x.result.seat in
    let k = Again c.is_full_lift-full.result in
    let e = c.sweep.ensures (sweep_of k) (λ x y f. search rules) in
    let put = swept_put k c.both-wager.result t _ c.place-i.result s c.act_by-d.result _ h c.chosen-last.ensures e c.place-i.ensures.0 in
    let q = seat_read t c.place-i.result s h c.place-i.ensures.0 c.place-i.ensures.1 in
    let ok = c.is_ok-ok.ensures.value ∙ ok_number c.act_code-k.result in
    act_taken t c.args.e x.result _ _ _ _ _ _ _ _ _ _ _ _ c.requires.2 x.ensures q c.act_code-k.ensures refl (rw ok at c.act_by-d.ensures) (rw ok at c.both-wager.ensures) c.is_full_lift-full.ensures put c.chosen-mark.ensures c.lift_after.ensures c.chosen-lift.ensures (rw ok at c.next_turn-next.ensures) c.judged.ensures
