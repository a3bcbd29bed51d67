-- `round_totals` meets its contract: place by place. Assumes nothing.
use Rattle.std.proofs.Common.{◌≡◌, length, arith, rules}
use Rattle.chairs.specs.Chairs.{round_of}
use Rattle.notes.proofs.Laws.{mapped}
use Rattle.notes.proofs.round_totals.Goals as goal

pub returns : goal.returns
returns c =
    let n : length c.args.cs ≡ 10 = search rules in
    let m : length c.map.result ≡ 10 = search rules in
    mapped round_of c.args.cs c.map.result (omega arith) (λ i d e k. search (rules, c.map.ensures.items.at i d e (omega arith)))
