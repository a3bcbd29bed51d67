-- `hear_part` meets its contract also where a write failed: what the last call has heard lies behind what was heard before it.
use Rattle.std.proofs.Common.{◌≡◌, ◌+◌, ◌-◌, length, take, drop, arith, length-drop}
use Rattle.std.proofs.lemmas.List.{take_all}
use Rattle.std.proofs.lemmas.Result.{err_from_is_err_and}
use Rattle.output.proofs.hear_part.Goals as goal

pub returns-in_err-from-clause-failed : goal.returns-in_err-from-clause-failed
returns-in_err-from-clause-failed g c =
    let part = c.args.part.now in
    let from = c.loop-from.from in
    let rest : take (length part - from) (drop from part) ≡ drop from part = take_all (length part - from) (drop from part) (omega (arith, length-drop from part)) in
    let last = rw rest at c.in_err-from.ensures.failed in
    let p = err_from_is_err_and c.from_residual.result c.from_residual.ensures.1 in
    rw p.1 (from + last.0, omega (arith, last.2, length-drop from part), g.met.L.Listener.on _ _ _ part from last.0 c.loop-from.invariant.heard last.3)
