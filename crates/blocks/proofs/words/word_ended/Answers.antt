-- `word_ended` meets its contract.
use lib.ListN.{take}
use Rattle.blocks.proofs.Packs.{word_place}
use Rattle.blocks.proofs.words.word_ended.Goals as goal

pub returns-then-k-lt12 : goal.returns-then-k-lt12
returns-then-k-lt12 c =
    let w = c.known_word-k.ensures c.if-k-lt12.true in
    let p = word_place (take c.known_word-k.result.count c.args.part.now) c.known_word-k.result.value c.if-k-lt12.true w.1 in
    (w.0, λ o. (p.0, w.2, p.1))
