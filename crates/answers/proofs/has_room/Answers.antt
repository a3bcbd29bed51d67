-- `answers::has_room` meets its contract: where there is room for any answer there is for this one, and else it is measured.
-- Assumes nothing.
use mathlib.Core.Path.{◌≡◌, sym}
use lib.ListN.{length}
use borrow.Author.Tests.{le-leb}
use Rattle.answers.specs.Answer.{answer_bytes}
use Rattle.answers.proofs.Blocks.{length_mapped}
use Rattle.answers.proofs.Room.{answer_any}
use native.Mathlib.Omega.{arith}
use borrow.Author.Rules.{rules}
use Rattle.answers.proofs.has_room.Goals as goal

pub returns-then-room-lt-LONGEST_SHARED : goal.returns-then-room-lt-LONGEST_SHARED
returns-then-room-lt-LONGEST_SHARED c = rw c.answer_len.ensures

pub returns : goal.returns
returns c =
    let a = c.args in
    let h = c.requires in
    let ten : length a.s.payout.rows ≡ 10 = search (rules, length_mapped) in
    sym (le-leb (length (answer_bytes a.s)) a.room (omega (arith, c.if-room-lt-LONGEST_SHARED.false, answer_any a.s (record { pots = h.count; rows = omega (arith, ten); closed = h.closed }))))
