-- `put_chair` meets its contract.
use native.Mathlib.Omega.{arith}
use lib.ListN.{length}
use Rattle.chairs.proofs.Laws.{put_in, put_out}
use mathlib.Core.Path.{◌≡◌, sym}
use borrow.Author.Rules.{rules}
use Rattle.chairs.proofs.seats.put_chair.Goals as goal

pub returns-then-s-gt10 : goal.returns-then-s-gt10
returns-then-s-gt10 c =
    let len : length c.args.cs ≡ 10 = search rules in
    sym (put_out c.args.cs c.args.s _ (omega arith))

pub returns : goal.returns
returns c = sym (put_in c.args.cs c.args.s _ c.if-s-eq0.false)
