-- `rounds::reading::read_line` meets its contract. Assumes nothing.
use mathlib.Core.Path.{◌≡◌, ap, ◌∙◌}
use Prim.Native.Nat.{◌+◌, ◌-◌, min}
use native.Mathlib.Omega.{arith}
use lib.ListN.{length, length-drop, take, drop}
use borrow.Author.Rules.{rules}
use Rattle.text.specs.Line.{line_len}
use Rattle.text.proofs.Lines.{line_within}
use Rattle.rounds.proofs.Blocks.{rest_is, next_line}
use Rattle.rounds.proofs.reading.read_line.Goals as goal

pub overflow_add-at : goal.overflow_add-at
overflow_add-at c =
    let b = c.args.block.now in
    omega (arith, c.line_end-e.ensures, line_within (take (length b - c.args.at) (drop c.args.at b)), ap length (rest_is b c.args.at), length-drop c.args.at b)

pub overflow_add-at-2 : goal.overflow_add-at-2
overflow_add-at-2 c =
    let b = c.args.block.now in
    omega (arith, c.line_end-e.ensures, line_within (take (length b - c.args.at) (drop c.args.at b)), ap length (rest_is b c.args.at), length-drop c.args.at b)

pub returns-clause-next : goal.returns-clause-next
returns-clause-next c =
    let b = c.args.block.now in
    let e = c.line_end-e in
    let m : c.min-next.result ≡ min (c.args.at + e.result + 1) (length b) = search rules in
    next_line b c.args.at c.requires.0 (e.ensures ∙ ap line_len (rest_is b c.args.at)) m
