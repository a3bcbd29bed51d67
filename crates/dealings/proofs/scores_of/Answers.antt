-- `scores_of` meets its contract: place by place. Assumes nothing.
use Rattle.std.proofs.Common.{◌≡◌, length, arith, rules}
use Rattle.notes.proofs.Laws.{mapped}
use Rattle.dealings.specs.Dealings.{score_in}
use Rattle.dealings.proofs.scores_of.Goals as goal

pub returns : goal.returns
returns c =
    let n : length c.args.parts ≡ 10 = search rules in
    let m : length c.map.result ≡ 10 = search rules in
    mapped score_in c.args.parts c.map.result (omega arith) (λ i d e k. search (rules, c.map.ensures.items.at i d e (omega arith)))
