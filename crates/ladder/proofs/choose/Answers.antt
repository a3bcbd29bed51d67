-- `ladder::choose` meets its contract: after k turns the number is how many choices of k there are. Assumes nothing.
use mathlib.Core.Path.{◌≡◌}
use native.Mathlib.Omega.{arith}
use Rattle.ladder.proofs.Steps.{choose_none, choose_step, choose_small, choose_fits, choose_out}
use Rattle.ladder.proofs.choose.Goals as goal

pub returns-then-n-gt12 : goal.returns-then-n-gt12
returns-then-n-gt12 g c = let r = choose_out c.args.n g.row.K (omega arith) in record { is = r.0; small = r.1 }

pub loop-k-init : goal.loop-k-init
loop-k-init g c = choose_none c.args.n (omega arith)

pub overflow_mul-choices : goal.overflow_mul-choices
overflow_mul-choices g c =
    let l = c.loop-k in
    let p = choose_fits c.args.n l.k (omega arith) (omega arith) in
    rw (l.invariant, c.short_of.ensures) (omega (arith, p))

pub loop-k-preserved : goal.loop-k-preserved
loop-k-preserved g c =
    let l = c.loop-k in
    rw (l.invariant, c.short_of.ensures) (choose_step c.args.n l.k (omega arith) (omega arith))

pub returns : goal.returns
returns g c =
    let l = c.loop-k in
    let e : l.k ≡ g.row.K = omega arith in
    record { is = rw e at l.invariant; small = omega (arith, l.invariant, choose_small c.args.n l.k (omega arith) (omega arith)) }
