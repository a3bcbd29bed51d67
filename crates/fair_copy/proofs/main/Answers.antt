-- `main` meets its contract: the sheets have room for what the renewal and the copier give at one go. Assumes nothing.
use Rattle.std.proofs.Common.{arith}
use Rattle.renewal.proofs.Steps.{most_is}
use Rattle.fair_copy.proofs.main.Goals as goal

pub run-requires : goal.run-requires
run-requires c =
    (c.start-2.ensures.1, c.start.ensures.1, omega arith, omega (arith, c.large_buffer.ensures), omega (arith, c.large_buffer-2.ensures), omega (arith, c.large_buffer-3.ensures, most_is))
