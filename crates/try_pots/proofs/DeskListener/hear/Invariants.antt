-- `hear` meets its contract: the answers written lie within their room at every byte. Assumes nothing.
use Rattle.std.proofs.Common.{length, ◌≡◌, ◌≤◌}
use Rattle.try_pots.proofs.DeskListener.hear.Given as goal

abbrev pub invariant-loop-b : goal.invariant-loop-b
invariant-loop-b l = (length l.self.out ≡ 65536) × (l.self.at ≤ 65536)
