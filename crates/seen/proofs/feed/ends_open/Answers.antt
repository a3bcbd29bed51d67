-- `ends_open` meets its contract, by its test.
use Rattle.seen.proofs.Feeds.{ends_shut, ends_else}
use Rattle.seen.proofs.feed.ends_open.Goals as goal

pub returns-then-s : goal.returns-then-s
returns-then-s c = ends_shut c.args.s c.if-s.true

pub returns : goal.returns
returns c = ends_else c.args.s c.if-s.false c.both-whole.ensures c.either.ensures
