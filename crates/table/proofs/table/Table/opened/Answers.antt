-- `Table::opened` meets its contract: both blinds are posted after everybody is dealt in, at two seats.
use mathlib.Core.Path.{◌≡◌}
use native.Mathlib.Omega.{arith}
use Rattle.table.specs.Opening.{next_dealt_in}
use Rattle.table.proofs.Standing.{seat_within, next_within}
use Rattle.table.proofs.Blinds.{dealt_fits, posts, two_seats, seats-are, opened_is}
use Rattle.table.proofs.table.Table.opened.Goals as goal

pub chip_seats-next-requires : goal.chip_seats-next-requires
chip_seats-next-requires c = (c.requires.1.seated, seat_within c.args.self.sheet c.args.s c.requires.2)

pub paid-requires : goal.paid-requires
paid-requires c = dealt_fits c.args.self.chairs c.args.s _ _ c.chair_at.ensures c.dealt_in-c.ensures c.requires.0

pub paid-requires-2 : goal.paid-requires-2
paid-requires-2 c = dealt_fits c.args.self.chairs c.chip_seats-next.result.next _ _ c.chair_at-2.ensures c.dealt_in-d.ensures c.requires.0

pub deal_all-ds-requires : goal.deal_all-ds-requires
unfolding next_dealt_in
deal_all-ds-requires c =
    let t = c.args.self in
    let s = c.args.s in
    let h = c.requires in
    let two = two_seats t s h.1 h.2 h.3 in
    let e : c.chip_seats-next.result.next ≡ next_dealt_in t s = c.chip_seats-next.ensures.1 in
    (h.1.seated, two.0, two.1, omega (arith, e, two.2), omega (arith, e, two.3))

pub turn_from-turn-requires : goal.turn_from-turn-requires
unfolding next_dealt_in
turn_from-turn-requires c =
    let t = c.args.self in
    let s = c.args.s in
    let h = c.requires in
    let e : c.chip_seats-next.result.next ≡ next_dealt_in t s = c.chip_seats-next.ensures.1 in (
      seats-are t s h.1 h.2 h.3 _ _ _ _ e (posts _ _ c.chair_at.ensures c.dealt_in-c.ensures c.paid.ensures) (posts _ _ c.chair_at-2.ensures c.dealt_in-d.ensures c.paid-2.ensures) c.deal_all-ds.ensures,
      omega (arith, e, next_within t s (seat_within t.sheet s h.2)),
    )

pub returns : goal.returns
unfolding next_dealt_in
returns c =
    let t = c.args.self in
    let s = c.args.s in
    let h = c.requires in
    let e : c.chip_seats-next.result.next ≡ next_dealt_in t s = c.chip_seats-next.ensures.1 in
    opened_is t s h.1 h.2 h.3 _ _ _ _ e (posts _ _ c.chair_at.ensures c.dealt_in-c.ensures c.paid.ensures) (posts _ _ c.chair_at-2.ensures c.dealt_in-d.ensures c.paid-2.ensures) c.deal_all-ds.ensures c.turn_from-turn.ensures
