-- The first suit of which there are five cards.
use borrow.Author.Tests.{le-leb, lt-leb}
use Prim.Native.Nat.{◌/◌, ◌%◌}
use Rattle.counts.proofs.seen.flush_of.Goals as goal

pub returns-then-suits-ge5 : goal.returns-then-suits-ge5
returns-then-suits-ge5 c = rw (le-leb 5 (c.args.suits % 65536) c.if-suits-ge5.true)

pub returns-then-suits-ge5-2 : goal.returns-then-suits-ge5-2
returns-then-suits-ge5-2 c =
    let s = c.args.suits in
    rw (lt-leb 5 (s % 65536) c.if-suits-ge5.false, le-leb 5 (s / 65536 % 65536) c.if-suits-ge5-2.true)

pub returns-then-suits-ge5-3 : goal.returns-then-suits-ge5-3
returns-then-suits-ge5-3 c =
    let s = c.args.suits in
    rw (lt-leb 5 (s % 65536) c.if-suits-ge5.false, lt-leb 5 (s / 65536 % 65536) c.if-suits-ge5-2.false, le-leb 5 (s / 4294967296 % 65536) c.if-suits-ge5-3.true)

pub returns-then-suits-ge5-4 : goal.returns-then-suits-ge5-4
returns-then-suits-ge5-4 c =
    let s = c.args.suits in
    rw (lt-leb 5 (s % 65536) c.if-suits-ge5.false, lt-leb 5 (s / 65536 % 65536) c.if-suits-ge5-2.false, lt-leb 5 (s / 4294967296 % 65536) c.if-suits-ge5-3.false, le-leb 5 (s / 281474976710656) c.if-suits-ge5-4.true)

pub returns-else-suits-ge5-4 : goal.returns-else-suits-ge5-4
returns-else-suits-ge5-4 c =
    let s = c.args.suits in
    rw (lt-leb 5 (s % 65536) c.if-suits-ge5.false, lt-leb 5 (s / 65536 % 65536) c.if-suits-ge5-2.false, lt-leb 5 (s / 4294967296 % 65536) c.if-suits-ge5-3.false, lt-leb 5 (s / 281474976710656) c.if-suits-ge5-4.false)
