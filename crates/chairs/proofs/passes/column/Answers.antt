-- `column` meets its contract: the places of the chairs so far are read, those behind them are 0. Assumes nothing.
use Prim.Native.Nat.{ℕ}
use mathlib.Core.Path.{◌≡◌, refl, ap, ◌∙◌}
use mathlib.Core.List.{List}
use native.Mathlib.Omega.{arith}
use native.Mathlib.Numerals.{add-one}
use lib.ListN.{length, set, get_or, replicate}
use Rattle.chairs.proofs.Laws.{unread}
use Rattle.chairs.proofs.Above.{read_to, read_turn, read_all}
use Rattle.chairs.proofs.passes.column.Goals as goal

pub loop-i-init : goal.loop-i-init
loop-i-init g c f h = refl

pub loop-i-preserved : goal.loop-i-preserved
loop-i-preserved g c f h =
    let cs = c.args.cs.now in
    let i = c.loop-i.i in
    let zeros : List ℕ = replicate 10 0 in
    let ten : length zeros ≡ 10 = refl in
    let said = h (get_or cs i unread) c.read.result (record { shown = _; shows = refl; says = record { met = c.read.ensures } }) in
    rw add-one (
    ap (λ (x : ℕ). set c.loop-i.column i x) said
    ∙ ap (λ (k : List ℕ). set k i (f (get_or cs i unread))) (c.loop-i.invariant f h)
    ∙ read_turn f i cs zeros unread (omega arith) (omega (arith, ten)))

pub returns : goal.returns
returns g c f h =
    let cs = c.args.cs.now in
    let e : c.loop-i.i ≡ length cs = omega arith in
    c.loop-i.invariant f h ∙ ap (λ k. read_to f k cs (replicate 10 0)) e ∙ read_all f 10 cs c.requires.few
