-- `kind_of` meets its contract.
use mathlib.Core.Path.{sym, ap, ◌∙◌}
use Prim.Native.Nat.{ℕ}
use Rattle.std.specs.Prelude.{Some}
use Rattle.blocks.specs.Block.{kind_names}
use Rattle.blocks.proofs.Blocks.{place_within, kind_none, kind_long, kind_letters, kind_other}
use native.Mathlib.Omega.{arith}
use Rattle.blocks.proofs.kind.kind_of.Goals as goal

pub returns-then-w-lt1 : goal.returns-then-w-lt1
returns-then-w-lt1 c = sym (kind_none c.args.w.now (omega arith))

pub returns-then-w-gt8 : goal.returns-then-w-gt8
returns-then-w-gt8 c = sym (kind_long c.args.w.now (omega arith) (omega arith))

pub kind_place-requires : goal.kind_place-requires
kind_place-requires c = (omega arith, sym c.all_within.ensures ∙ c.if-all_within.true)

pub overflow_cast-result : goal.overflow_cast-result
overflow_cast-result c =
    let s = c in
    omega (arith, place_within kind_names s.args.w.now)

pub returns-then-all_within : goal.returns-then-all_within
returns-then-all_within c =
    let s = c in
    ap (λ (k : ℕ). Some k) c.kind_place.ensures ∙ sym (kind_letters s.args.w.now (omega arith) (omega arith) (sym c.all_within.ensures ∙ c.if-all_within.true))

pub returns : goal.returns
returns c = sym (kind_other c.args.w.now (omega arith) (omega arith) (sym c.all_within.ensures ∙ c.if-all_within.false))
