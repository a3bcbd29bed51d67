-- `take` meets its contract: what is refused already is judged as a void entry, which leaves the table; what is taken is applied and counted.
use Rattle.table.proofs.Refused.{ok_number}
use Rattle.table.proofs.Taking.{meant_kind, take_kept}
use mathlib.Core.Path.{refl}
use Rattle.table.proofs.table.Table.take.Goals as goal

pub by_kind-done-requires : goal.by_kind-done-requires
by_kind-done-requires c =
    let early = c.early_code-early in
    (c.requires, meant_kind c.args.self c.args.n c.args.e c.meant.result _ early.ensures (rw (ok_number early.result) at c.meant.ensures))

pub returns : goal.returns
returns c =
    let early = c.early_code-early in
    let next = rw c.chosen-count.ensures at c.with_taken-next.ensures in
    take_kept c.args.self c.args.n c.args.e c.meant.result _ c.by_kind-done.result _ early.ensures (rw (ok_number early.result) at c.meant.ensures) c.by_kind-done.ensures
    (rw c.number.ensures at c.or_else.ensures) next refl c.requires
