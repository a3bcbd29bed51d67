-- `teller::keys::said` meets its contract: what a line says, by its first letter. Assumes nothing.
use Rattle.teller.proofs.Saying.{said_rows, said_worth, said_count, said_sitting, said_paid, said_unclaimed, said_give, said_other, said_none}
use Rattle.teller.specs.declared.keys.Line.{Line}
use native.Mathlib.Omega.{arith}
use lib.Dec.{lit<}
use lib.ListN.{length}
use Prim.Native.Nat.{◌<◌, ◌^◌}
use mathlib.Core.Path.{refl, sym, ◌∙◌, subst}
use Rattle.teller.proofs.keys.said.Goals as goal

pub returns-then-line-eq0 : goal.returns-then-line-eq0
returns-then-line-eq0 c = (c.other.ensures ∙ said_none c.args.line.now c.if-line-eq0.true, subst (λ (l : Line). l.value < 10 ^ 9) (sym c.other.ensures) (lit< tt))

pub returns-in-114 : goal.returns-in-114
returns-in-114 c = let some : 0 < length c.args.line.now = omega (arith, c.if-line-eq0.false) in (c.keyed.ensures.0 ∙ said_rows c.args.line.now some c.in-114.is, c.keyed.ensures.1)

pub returns-in-119 : goal.returns-in-119
returns-in-119 c = let some : 0 < length c.args.line.now = omega (arith, c.if-line-eq0.false) in (c.keyed-in-119.ensures.0 ∙ said_worth c.args.line.now some c.in-119.is, c.keyed-in-119.ensures.1)

pub returns-in-99 : goal.returns-in-99
returns-in-99 c = let some : 0 < length c.args.line.now = omega (arith, c.if-line-eq0.false) in (c.keyed-in-99.ensures.0 ∙ said_count c.args.line.now some c.in-99.is, c.keyed-in-99.ensures.1)

pub returns-in-115 : goal.returns-in-115
returns-in-115 c = let some : 0 < length c.args.line.now = omega (arith, c.if-line-eq0.false) in (c.keyed-in-115.ensures.0 ∙ said_sitting c.args.line.now some c.in-115.is, c.keyed-in-115.ensures.1)

pub returns-in-112 : goal.returns-in-112
returns-in-112 c = let some : 0 < length c.args.line.now = omega (arith, c.if-line-eq0.false) in (c.keyed-in-112.ensures.0 ∙ said_paid c.args.line.now some c.in-112.is, c.keyed-in-112.ensures.1)

pub returns-in-117 : goal.returns-in-117
returns-in-117 c = let some : 0 < length c.args.line.now = omega (arith, c.if-line-eq0.false) in (c.keyed-in-117.ensures.0 ∙ said_unclaimed c.args.line.now some c.in-117.is, c.keyed-in-117.ensures.1)

pub returns-in-103 : goal.returns-in-103
returns-in-103 c = let some : 0 < length c.args.line.now = omega (arith, c.if-line-eq0.false) in (c.keyed-in-103.ensures.0 ∙ said_give c.args.line.now some c.in-103.is, c.keyed-in-103.ensures.1)

pub returns-in_default : goal.returns-in_default
returns-in_default c = let some : 0 < length c.args.line.now = omega (arith, c.if-line-eq0.false) in let m = c.in_default.in_default-own.rest in
    (c.other-in_default.ensures ∙ said_other c.args.line.now some _ refl m.0.0.0.0.0.0.1 m.0.0.0.0.0.1 m.0.0.0.0.1 m.0.0.0.1 m.0.0.1 m.0.1 m.1, subst (λ (l : Line). l.value < 10 ^ 9) (sym c.other-in_default.ensures) (lit< tt))
