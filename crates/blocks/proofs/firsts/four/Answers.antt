-- `four` meets its contract.
use Rattle.blocks.proofs.Packs.{bytes_within, bytes_at_law}
use Rattle.text.specs.Bytes.{pack_of}
use mathlib.Core.Path.{ap}
use native.Mathlib.Omega.{arith}
use Rattle.blocks.proofs.firsts.four.Goals as goal

pub overflow_mul-result : goal.overflow_mul-result
overflow_mul-result c = omega (arith, c.shared_slice_known-1.given 3, c.from.ensures)

pub overflow_add-result : goal.overflow_add-result
overflow_add-result c = omega (arith, c.shared_slice_known-1.given 3, c.shared_slice_known-1.given 2, c.from.ensures, c.from-2.ensures)

pub overflow_mul-result-2 : goal.overflow_mul-result-2
overflow_mul-result-2 c = omega (arith, c.shared_slice_known-1.given 3, c.shared_slice_known-1.given 2, c.from.ensures, c.from-2.ensures)

pub overflow_add-result-2 : goal.overflow_add-result-2
overflow_add-result-2 c = omega (arith, c.shared_slice_known-1.given 3, c.shared_slice_known-1.given 2, c.shared_slice_known-1.given 1, c.from.ensures, c.from-2.ensures, c.from-3.ensures)

pub overflow_mul-result-3 : goal.overflow_mul-result-3
overflow_mul-result-3 c = omega (arith, c.shared_slice_known-1.given 3, c.shared_slice_known-1.given 2, c.shared_slice_known-1.given 1, c.from.ensures, c.from-2.ensures, c.from-3.ensures)

pub overflow_add-result-3 : goal.overflow_add-result-3
overflow_add-result-3 c = omega (arith, c.shared_slice_known-1.given 3, c.shared_slice_known-1.given 2, c.shared_slice_known-1.given 1, c.shared_slice_known-1.given 0, c.from.ensures, c.from-2.ensures, c.from-3.ensures, c.from-4.ensures)

pub returns : goal.returns
returns c =
    let l = c.args.s.now in
    (omega (arith, ap pack_of (bytes_at_law 0 4 l c.requires), c.from.ensures, c.from-2.ensures, c.from-3.ensures, c.from-4.ensures), bytes_within 4 l (λ i. omega (arith, c.shared_slice_known-1.given i)))
