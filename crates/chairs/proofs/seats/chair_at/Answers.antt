-- `chair_at` meets its contract.
use native.Mathlib.Omega.{arith}
use Prim.Native.Nat.{◌-◌}
use lib.ListN.{length}
use Rattle.chairs.specs.Chairs.{no_chair}
use Rattle.chairs.proofs.Laws.{unread, read_any, chair_in, chair_out}
use mathlib.Core.Path.{◌≡◌, sym, ◌∙◌}
use borrow.Author.Rules.{rules}
use Rattle.chairs.proofs.seats.chair_at.Goals as goal

pub returns-then-s-gt10 : goal.returns-then-s-gt10
returns-then-s-gt10 c =
    let len : length c.args.cs ≡ 10 = search rules in
    c.no_chair-then-s-gt10.ensures ∙ sym (chair_out c.args.cs c.args.s (omega arith))

pub returns : goal.returns
returns c =
    let cs = c.args.cs in
    let s = c.args.s in
    let len : length cs ≡ 10 = search rules in
    read_any cs (s - 1) unread no_chair (omega arith) ∙ sym (chair_in cs s c.if-s-eq0.false)
