-- `pots::pots_to` meets its contract. The invariant: the pots up to the level lo are written (`Filled`), and low is the chips up to it.
-- Assumes nothing.
use lib.ListN.{length, replicate, length-append}
use Rattle.pots.specs.Runs.{pot, pots_of, padded}
use Rattle.pots.specs.declared.Pot.{Pot}
use mathlib.Core.List.{List}
use mathlib.Core.Path.{◌≡◌, refl, sym, ap, ◌∙◌}
use Prim.Native.Nat.{ℕ, ◌+◌, ◌≤◌, ◌<◌, ◌-◌}
use native.Mathlib.Nat.{zero-add}
use native.Mathlib.Omega.{arith}
use borrow.Author.Rules.{rules}
use Rattle.laws.specs.Lists.{sum_of}
use Rattle.pots.specs.Heights.{chips_at, over, chips_over, live_of}
use Rattle.pots.specs.Levels.{top_of, next_of}
use Rattle.pots.proofs.Chips.{over_split}
use Rattle.pots.proofs.Filled.{filled_start, filled_room, filled_turn, filled_done, top_is, next_is, pots_live}
use Rattle.pots.proofs.Hands.{paid_and_unclaimed}
use Rattle.pots.proofs.PotLevels.{next_lo, next_top}
use Rattle.pots.proofs.pots_to.Goals.{After-next-hi, After-under-all}
use Rattle.pots.proofs.pots_to.Goals as goal

-- a padded list is no shorter than the list
padded_long : (n : ℕ) (ps : List Pot) → length ps ≤ length (padded n ps)
unfolding padded
padded_long n ps = omega (arith, length-append ps (replicate (n - length ps) (pot 0 0)))

-- what is known in a turn once the next level is there, of the mask that the live totals come from
known : (c : After-next-hi)
    → (c.args.top ≡ top_of c.args.totals c.loop-lo.invariant.1)
    × (c.loop-lo.lo < top_of c.args.totals c.loop-lo.invariant.1)
    × (next_of (live_of c.args.totals c.loop-lo.invariant.1) c.loop-lo.lo (top_of c.args.totals c.loop-lo.invariant.1) ≡ c.next-hi.result)
known c =
    let s = c.before.before.before in
    let a = s.args in
    let i = c.loop-lo.invariant in
    let t = top_is a.totals a.lives i.1 a.top i.2 s.requires.2 in
    (t, omega (arith, t, c.loop-lo-test.true), next_is a.totals a.lives i.1 a.top c.loop-lo.lo c.next-hi.result i.2 t c.next-hi.ensures)

room : (c : After-next-hi) → c.loop-lo.n < 9
room c =
    let l = c.loop-lo in
    filled_room 9 _ _ l.list l.n l.lo l.invariant.3 (known c).1

-- the chips between two levels
between : (ts : List ℕ) (lo hi : ℕ) → lo ≤ hi → chips_over ts 0 hi ≡ chips_over ts 0 lo + chips_over ts lo (hi - lo)
between ts lo hi l =
    let e : hi ≡ lo + (hi - lo) = omega arith in
    ap (chips_over ts 0) e ∙ over_split (chips_at ts) 0 lo (hi - lo) ∙ ap (λ h. chips_over ts 0 lo + chips_over ts h (hi - lo)) (zero-add lo)

more : (c : After-under-all)
    → c.under-all.result ≡ c.loop-lo.low + chips_over c.args.totals c.loop-lo.lo (c.next-hi.result - c.loop-lo.lo)
more c =
    let k = known c.before in
    let l = c.loop-lo in
    omega (arith, c.under-all.ensures, l.invariant.4, between c.args.totals l.lo c.next-hi.result (omega (arith, next_lo _ _ _ _ k.1 k.2)))

pub loop-lo-init : goal.loop-lo-init
unfolding over
loop-lo-init c = (search rules, c.requires.1.0, c.requires.1.1, filled_start 9 c.args.totals c.requires.1.0 (search rules), refl)

-- of the live totals as well, so that must-fail/odd_folded_chips_forgotten, which sums only those, is refused for the chips that it forgets
pub under-all-requires : goal.under-all-requires
under-all-requires c =
    let s = c in
    let i = c.loop-lo.invariant in
    omega (arith, s.requires.0, paid_and_unclaimed s.args.totals i.1, ap sum_of i.2)

pub overflow_sub-amount : goal.overflow_sub-amount
overflow_sub-amount c = omega (arith, more (goal.at.overflow_sub-amount c).After-under-all)

pub offset_bounds-list-n : goal.offset_bounds-list-n
offset_bounds-list-n c = record { fits = omega (arith, room (goal.at.offset_bounds-list-n c).After-next-hi) }

pub bounds-list-n : goal.bounds-list-n
bounds-list-n c = room (goal.at.bounds-list-n c).After-next-hi

pub overflow_add-n : goal.overflow_add-n
overflow_add-n c = record { fits = omega (arith, room (goal.at.overflow_add-n c).After-next-hi) }

pub loop-lo-smaller : goal.loop-lo-smaller
loop-lo-smaller c =
    let k = known (goal.at.loop-lo-smaller c).After-next-hi in
    omega (arith, next_lo _ _ _ _ k.1 k.2, next_top _ _ _ _ k.1 k.2, k.0)

pub loop-lo-preserved : goal.loop-lo-preserved
loop-lo-preserved c =
    let k = known (goal.at.loop-lo-preserved c).After-next-hi in
    let l = c.loop-lo in
    let a = c.args in
    let m : c.under-all.result - l.low ≡ chips_over a.totals l.lo (c.next-hi.result - l.lo) = omega (arith, more (goal.at.loop-lo-preserved c).After-under-all) in (
      omega (arith, next_top _ _ _ _ k.1 k.2, k.0),
      l.invariant.1,
      l.invariant.2,
      rw (m, c.mask_at-who.ensures, l.invariant.2)
          (filled_turn 9 a.totals l.invariant.1 l.list l.n l.lo l.invariant.3 c.next-hi.result k.1 k.2),
      c.under-all.ensures,
    )

pub returns : goal.returns
returns c live e =
    let l = c.loop-lo in
    let a = c.args in
    let t = top_is a.totals a.lives l.invariant.1 a.top l.invariant.2 c.requires.2 in
    let d = filled_done 9 a.totals l.invariant.1 l.list l.n l.lo l.invariant.3 (omega (arith, t)) in
    let ps = pots_of a.totals live in
    let same = pots_live a.totals l.invariant.1 live (sym l.invariant.2 ∙ e) in
    let n : l.n ≡ length ps = d.0 ∙ ap length same in
    let pad : l.list ≡ padded 9 ps = d.1 ∙ ap (padded 9) same in
    let len : length l.list ≡ 9 = search rules in
    let all : length (padded 9 ps) ≡ 9 = sym (ap length pad) ∙ len in
    (n, pad, omega (arith, n, padded_long 9 ps, all))
