-- `gather` meets its contract: at each turn what is kept and what is left to gather are said by `Going`.
use Prim.Native.Nat.{◌<◌}
use Rattle.lines.specs.Kept.{gather_of, kept_in, Room}
use Rattle.lines.proofs.Keeps.{Going}
use Rattle.lines.proofs.gather.Given as goal

abbrev pub invariant-loop-i : goal.invariant-loop-i
invariant-loop-i l =
    Going l.want (gather_of l.want (kept_in l.initial.fill l.initial.buf) l.part) l.part l.initial.buf l.fill l.buf l.i × Room l.fill × (l.fill.lines < l.want)
