-- `known_word` meets its contract: an LF behind as many bytes as the word has, and these bytes by their number.
use Rattle.blocks.proofs.Packs.{bytes_within, pack_five, pack_six, sit_line, word_known}
use native.Mathlib.Omega.{arith}
use Rattle.blocks.proofs.words.known_word.Goals as goal

pub returns-then-part-eq10 : goal.returns-then-part-eq10
returns-then-part-eq10 c = λ q. (omega arith, word_known c.args.part.now 4 c.kind_of_four.result (omega (arith, c.requires)) c.four-w.ensures c.kind_of_four.ensures q, c.if-part-eq10.true)

pub returns-then-part-eq10-2 : goal.returns-then-part-eq10-2
returns-then-part-eq10-2 c =
    let l = c.args.part.now in
    λ q. (omega arith, word_known l 5 c.kind_of_five.result (omega (arith, c.requires)) (pack_five l c.four-w.ensures.0 (omega (arith, c.requires)), bytes_within 5 l (λ i. omega (arith, c.shared_slice_known-1.given i))) c.kind_of_five.ensures q, c.if-part-eq10-2.true)

pub returns-then-part-eq10-3 : goal.returns-then-part-eq10-3
returns-then-part-eq10-3 c =
    let l = c.args.part.now in
    λ q. (omega arith, word_known l 6 c.kind_of_six.result (omega (arith, c.requires)) (pack_six l c.four-w.ensures.0 (omega (arith, c.requires)), bytes_within 6 l (λ i. omega (arith, c.shared_slice_known-1.given i))) c.kind_of_six.ensures q, c.if-part-eq10-3.true)

pub returns-then-w-eq175401331 : goal.returns-then-w-eq175401331
returns-then-w-eq175401331 c =
    let s = sit_line c.args.part.now (omega (arith, c.requires)) c.four-w.ensures c.if-w-eq175401331.true in
    λ q. (omega arith, s.0, s.1)

pub returns : goal.returns
returns c = λ q. absurd (omega arith)
