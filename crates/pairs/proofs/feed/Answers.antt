-- `feed` meets its contract: the lines up to the first that makes something whole, and that is answered.
use Rattle.pairs.proofs.On.{fed_one}
use Rattle.pairs.proofs.feed.Goals as goal

pub take_piece-s-requires : goal.take_piece-s-requires
take_piece-s-requires c =
    let s = c.requires in
    let h = c.hear_on-h.ensures in
    (s.0, s.2, s.4)

pub returns : goal.returns
returns c =
    let s = c in
    let hear = c.hear_on-h in
    let h = hear.ensures in
    let t = c.take_piece-s.ensures in record { fed = fed_one s.args.only s.args.p s.args.f s.args.buf.now s.args.part.now s.args.out.now hear.result _ h.heard t.gave; held = (t.good.0, h.held.0, h.held.1, h.held.2, t.good.1) }
