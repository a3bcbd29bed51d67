-- `hear` meets its contract: the numbers kept and the answers written lie within their room at every byte. Assumes nothing.
use Rattle.std.proofs.Common.{length, ◌≡◌, ◌≤◌}
use Rattle.hands.proofs.DeskListener.hear.Given as goal

abbrev pub invariant-loop-b : goal.invariant-loop-b
invariant-loop-b l = (l.self.line.have ≤ length l.self.cards) × (length l.self.out ≡ 65536) × (l.self.at ≤ 65536)
