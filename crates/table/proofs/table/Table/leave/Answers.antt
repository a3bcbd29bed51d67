-- `Table::leave` meets its contract.
use Rattle.table.proofs.Refused.{ok_number}
use Rattle.table.proofs.Arms.{seat_place, seat_read, put_taken}
use Rattle.table.specs.Sittings.{leave_code, left_to}
use Rattle.chairs.specs.declared.Chair.{Chair}
use Rattle.chairs.specs.Chairs.{seated_of}
use Rattle.paper.specs.declared.Entry.TheVariants.{Leave}
use Rattle.paper.specs.Paper.{when}
use Rattle.laws.specs.Tests.{either}
use lib.Dec.{eqb}
use mathlib.Core.Path.{refl, ap, ◌∙◌}
use Rattle.table.proofs.table.Table.leave.Goals as goal

pub place-i-requires : goal.place-i-requires
place-i-requires c = seat_place c.args.self c.args.s c.requires.0 c.requires.1

pub returns : goal.returns
unfolding leave_code left_to
returns c = let t = c.args.self in
    let s = c.args.s in
    let p = c.place-i in
    let q = seat_read t p.result s c.requires.0 p.ensures.0 p.ensures.1 in
    let k = c.leave_code-k.ensures ∙ ap (λ (y : Chair). when (either (eqb y.sitting 0) y.dealt.live) 5) q in
    put_taken t (Leave s) p.result s _ (λ (y : Chair). seated_of y 0 0) _ _ _ _ _ refl refl p.ensures.0 q k refl (rw (c.is_ok.ensures.value, ok_number c.leave_code-k.result) at c.seated_by-d.ensures) c.with_chairs.ensures c.judged.ensures
