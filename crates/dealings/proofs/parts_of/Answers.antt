-- `parts_of` meets its contract: place by place. Assumes nothing.
use Rattle.std.proofs.Common.{◌≡◌, length, zero-add, slice_index_or, arith, rules}
use Rattle.chairs.proofs.Laws.{unread}
use Rattle.dealings.specs.Dealings.{part_at}
use Rattle.dealings.proofs.Laws.{parts_each}
use Rattle.dealings.proofs.parts_of.Goals as goal

pub returns : goal.returns
returns c =
    let s = c.args in
    let cs = s.t.now.chairs in
    let n : length cs ≡ 10 = search rules in
    let m : length c.from_fn.result ≡ 10 = search rules in
    parts_each s.m.now s.t.now s.low s.alone s.paid 0 cs c.from_fn.result (omega arith) (λ i e k.
    let h : slice_index_or c.from_fn.result i e ≡ part_at s.m.now s.t.now s.low s.alone (slice_index_or cs i unread) i (slice_index_or s.paid i 0) = search (rules, c.from_fn.ensures.items.at i e (omega arith)) in
    rw zero-add h)
