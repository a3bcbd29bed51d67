-- `payout_len` meets its contract.
use native.Mathlib.Omega.{arith}
use Rattle.answers.proofs.Blocks.{line_most, payout_count}
use Rattle.answers.specs.Answer.{key_fee, key_unclaimed}
use Rattle.answers.proofs.payout_len.Goals as goal

pub overflow_add-result : goal.overflow_add-result
overflow_add-result c = omega (arith, line_most key_fee c.args.p.fee, line_most key_unclaimed c.args.p.unclaimed)

pub overflow_add-result-2 : goal.overflow_add-result-2
overflow_add-result-2 c = omega (arith, line_most key_fee c.args.p.fee, line_most key_unclaimed c.args.p.unclaimed)

pub overflow_add-result-3 : goal.overflow_add-result-3
overflow_add-result-3 c = omega (arith, line_most key_fee c.args.p.fee, line_most key_unclaimed c.args.p.unclaimed)

pub returns : goal.returns
returns c = (omega (arith, payout_count c.args.p), omega (arith, line_most key_fee c.args.p.fee, line_most key_unclaimed c.args.p.unclaimed))
