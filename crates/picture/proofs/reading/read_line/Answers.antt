-- `read_line` meets its contract: the kinds from k on find what all kinds find.
use Rattle.picture.proofs.Tables.{answering_none}
use Rattle.picture.proofs.Finds.{found_here, found_on, found_none}
use Rattle.picture.specs.declared.Line.{Line}
use Rattle.picture.specs.Lines.{line_kinds, line_at, answer_line}
use native.Mathlib.Omega.{arith}
use mathlib.Core.Path.{refl, sym, ap, ◌∙◌}
use Prim.Native.Nat.{◌≤◌, ◌<◌}
use Rattle.picture.proofs.reading.read_line.Goals as goal

pub loop-k-init : goal.loop-k-init
unfolding answer_line
loop-k-init c = refl

pub returns-then-l-lt-KINDS : goal.returns-then-l-lt-KINDS
returns-then-l-lt-KINDS c = let z : (line_at c.loop-k.k c.args.line.now).kind < line_kinds = omega (arith, ap (λ (x : Line). x.kind) c.line_at-l.ensures.0, c.if-l-lt-KINDS.true) in (c.line_at-l.ensures.0 ∙ sym (found_here c.loop-k.k c.args.line.now (omega arith) z) ∙ c.loop-k.invariant, c.line_at-l.ensures.1)

pub loop-k-preserved : goal.loop-k-preserved
loop-k-preserved c = let z : line_kinds ≤ (line_at c.loop-k.k c.args.line.now).kind = omega (arith, ap (λ (x : Line). x.kind) c.line_at-l.ensures.0, c.if-l-lt-KINDS.false) in sym (found_on c.loop-k.k c.args.line.now (omega arith) z) ∙ c.loop-k.invariant

pub returns : goal.returns
returns c = (sym (found_none c.loop-k.k c.args.line.now (omega arith)) ∙ c.loop-k.invariant, answering_none)
