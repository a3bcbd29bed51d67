-- `after_block` meets its contract: the block was judged, and what it told is kept.
use mathlib.Core.Path.{ap}
use native.Mathlib.Omega.{arith}
use Rattle.lines.specs.declared.Fill.{Fill}
use Rattle.seen.proofs.Feeds.{block_seen}
use Rattle.seen.proofs.feed.after_block.Goals as goal

pub returns : goal.returns
returns c = let s = c in
    let z = c.empty-z.ensures in
    let j = c.judge-j.ensures in (
      block_seen s.args.s s.args.block.now j.0 c.read_block.ensures c.after-p.ensures z.0,
      record { sound = j.1; room = z.1; lines = omega (arith, ap (λ (m : Fill). m.lines) z.0) },
    )
