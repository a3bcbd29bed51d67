-- One settled hand and the pool: what was there and what is dropped is what is won, what goes to the house and what is there (`hand_books`); the pool and what is won
-- are never above 999,999,999 (`hand_most`); a block that settles no hand leaves the pool as it was (`no_hand_law`); an opening above the most is refused with 11, and
-- no other (`opening_bad`, `opening_good`). Assumes nothing.
use Prim.Native.Nat.{ℕ, ◌+◌, ◌-◌, ◌≤◌, ◌<◌, min, zero-le}
use mathlib.Core.Bool.{Bool, true, false}
use mathlib.Core.Path.{◌≡◌, ap, ap₂}
use mathlib.Core.Logic.{⊎_elim}
use native.Mathlib.Omega.{arith}
use borrow.Author.Tests.{lt-ltb, le-ltb}
use Rattle.laws.specs.Tests.{pick}
use Rattle.laws.proofs.Sums.{le_or_lt}
use Rattle.paper.specs.Paper.{bad_sheet, when}
use Rattle.pool.specs.declared.Pool.{Pool}
use Rattle.pool.specs.declared.Hand.{Hand}
use Rattle.pool.specs.declared.PoolOpened.{PoolOpened}
use Rattle.pool.specs.Jackpot.{most, fits_in, house_of, fed_by, win_of, settled_pool, opened_with, no_hand}

-- ---- the drop
fits_most : (held dropped : ℕ) → fits_in held dropped ≤ dropped
unfolding fits_in
fits_most held dropped = omega arith

fed_most : (held dropped : ℕ) → held ≤ most → fed_by held dropped ≤ most
unfolding fed_by fits_in
fed_most held dropped l = omega arith

fed_and_house : (held dropped : ℕ) → held + dropped ≡ house_of held dropped + fed_by held dropped
unfolding fed_by house_of
fed_and_house held dropped = omega (arith, fits_most held dropped)

-- ---- the win
win_most : (held : ℕ) (h : Hand) → win_of held h ≤ fed_by held h.drop
unfolding win_of
win_most held h = go h.royal
  where
    go : (b : Bool) → pick b (fed_by held h.drop) 0 ≤ fed_by held h.drop
    go true = omega arith
    go false = zero-le

-- ---- one hand
pub hand_books : (p : Pool) (h : Hand) → p.held + h.drop ≡ (settled_pool p h).jackpot + (settled_pool p h).house + (settled_pool p h).pool.held
unfolding settled_pool
hand_books p h = omega (arith, fed_and_house p.held h.drop, win_most p.held h)

pub hand_most : (p : Pool) (h : Hand) → p.held ≤ most → ((settled_pool p h).pool.held ≤ most) × ((settled_pool p h).jackpot ≤ most)
unfolding settled_pool
hand_most p h l =
    let f = fed_most p.held h.drop l in
    let w = win_most p.held h in
    (omega (arith, f), omega (arith, f, w))

-- who holds the royal flush wins the pool with the hand's own drop in it, and leaves it empty; else nothing is won
pub royal_wins : (p : Pool) (h : Hand) → h.royal ≡ true → ((settled_pool p h).jackpot ≡ fed_by p.held h.drop) × ((settled_pool p h).pool.held ≡ 0)
unfolding settled_pool win_of
royal_wins p h e =
    let w : pick h.royal (fed_by p.held h.drop) 0 ≡ fed_by p.held h.drop = ap (λ (b : Bool). pick b (fed_by p.held h.drop) 0) e in
    (w, omega (arith, w))

pub others_win_nothing : (p : Pool) (h : Hand) → h.royal ≡ false → (settled_pool p h).jackpot ≡ 0
unfolding settled_pool win_of
others_win_nothing p h e = ap (λ (b : Bool). pick b (fed_by p.held h.drop) 0) e

-- where no hand is settled the pool stays
pub no_hand_law : (p : Pool) → settled_pool p no_hand ≡ record { pool = p; jackpot = 0; house = 0 }
unfolding settled_pool win_of fed_by house_of fits_in
no_hand_law p =
    let e : p.held + min 0 (most - p.held) - 0 ≡ p.held = omega arith in
    let z : 0 - min 0 (most - p.held) ≡ 0 = omega arith in
    ap₂ (λ (v w : ℕ). record { pool = record { held = v }; jackpot = 0; house = w }) e z

-- ---- the opening
pub opening_bad : (held : ℕ) → most < held → (opened_with held).code ≡ bad_sheet
unfolding opened_with
opening_bad held l = ap (λ (b : Bool). when b bad_sheet) (lt-ltb most held l)

pub opening_good : (held : ℕ) → held ≤ most → opened_with held ≡ record { code = 0; pool = record { held = held } }
unfolding opened_with
opening_good held l = ap (λ (b : Bool). record { code = when b bad_sheet; pool = record { held = pick b 0 held } }) (le-ltb most held l)

opening_nothing : (held : ℕ) → most < held → (opened_with held).pool.held ≡ 0
unfolding opened_with
opening_nothing held l = ap (λ (b : Bool). pick b 0 held) (lt-ltb most held l)

pub opening_most : (held : ℕ) → (opened_with held).pool.held ≤ most
opening_most held =
    ⊎_elim
    (λ (a : held ≤ most). omega (arith, ap (λ (o : PoolOpened). o.pool.held) (opening_good held a)))
    (λ (a : most < held). omega (arith, opening_nothing held a))
    (le_or_lt held most)
