-- The ranks of each suit say which ranks are held how often.
use Prim.Native.Nat.{◌<◌}
use Rattle.counts.proofs.Gathered.{masks_are}
use borrow.Author.Rules.{rules}
use Rattle.counts.proofs.seen.masks_of.Goals as goal

pub returns : goal.returns
returns c l s v =
    let n = c.args.n in
    let fits : n.held < 18446744073709551616 = search rules in
    masks_are l n s v fits c.flush_of.result c.flush_of.ensures
