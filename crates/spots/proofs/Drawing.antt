-- The band that is drawn of a pot holds the pot (`band_is`): above the height up to which the pots below reach, and not above the one up to which it reaches, lie as
-- many chips as it has. For any number of sittings. Assumes nothing.
use Prim.Native.Nat.{ℕ, zero, suc, ◌-◌, ◌<◌}
use mathlib.Core.Path.{◌≡◌, refl, sym, ap, ◌∙◌}
use mathlib.Core.List.{List, [], ◌∷◌}
use native.Mathlib.Omega.{arith}
use lib.ListN.{length, get_or, replicate, get_or-append}
use lib.Dec.{eqb}
use borrow.Author.Tests.{ne_eqb}
use Rattle.laws.specs.Tests.{pick}
use Rattle.pots.specs.Runs.{pot, pots_of, padded}
use Rattle.pots.specs.declared.Pot.{Pot}
use Rattle.pots.specs.declared.Pots.{Pots}
use Rattle.columns.specs.Columns.{reach_of, band_of, Banded}
use Rattle.columns.proofs.Bands.{bands_whole}
use Rattle.spots.specs.Spots.{no_pot, pot_at, reach_of_first}

-- where the band of the k-th of these pots begins
abbrev from : List ℕ → ℕ → List Pot → ℕ → ℕ
from ts low ps k = pick (eqb k 0) low (reach_of ts (get_or ps (k - 1) no_pot).who)

from_next : (ts : List ℕ) (low k : ℕ) (p : Pot) (ps : List Pot) → from ts low (p ∷ ps) (suc k) ≡ from ts (reach_of ts p.who) ps k
from_next ts low zero p ps = refl
from_next ts low (suc k) p ps =
    let e : suc (suc k) - 1 ≡ suc k = omega arith in
    let f : suc k - 1 ≡ k = omega arith in
    rw (ne_eqb (suc (suc k)) 0 (λ q. omega arith), ne_eqb (suc k) 0 (λ q. omega arith), e, f)

banded_at : (ts : List ℕ) (low k : ℕ) (ps : List Pot) → Banded ts low ps → k < length ps
    → (get_or ps k no_pot).amount ≡ band_of ts (from ts low ps k) (reach_of ts (get_or ps k no_pot).who)
banded_at ts low k [] b h = absurd (omega arith)
banded_at ts low zero (p ∷ ps) b h = b.0
banded_at ts low (suc k) (p ∷ ps) b h =
    banded_at ts (reach_of ts p.who) k ps b.1 (omega arith)
    ∙ ap (λ (l : ℕ). band_of ts l (reach_of ts (get_or ps k no_pot).who)) (sym (from_next ts low k p ps))

-- a pot of the list as an array holds it
padded_at : (n k : ℕ) (ps : List Pot) → k < length ps → get_or (padded n ps) k no_pot ≡ get_or ps k no_pot
unfolding padded
padded_at n k ps h = get_or-append ps (replicate (n - length ps) (pot 0 0)) no_pot k h

module _ (ts : List ℕ) (live : ℕ) (ps : Pots) (is : ps.list ≡ padded 9 (pots_of ts live)) (k : ℕ) (h : k < length (pots_of ts live)) where
  here : (j : ℕ) → j < length (pots_of ts live) → pot_at ps j ≡ get_or (pots_of ts live) j no_pot
  here j l = ap (λ (xs : List Pot). get_or xs j no_pot) is ∙ padded_at 9 j (pots_of ts live) l

  begins : reach_of_first ts ps k ≡ from ts 0 (pots_of ts live) k
  unfolding reach_of_first
  begins = ap (λ (p : Pot). pick (eqb k 0) 0 (reach_of ts p.who)) (here (k - 1) (omega arith))

  pub band_is : (pot_at ps k).amount ≡ band_of ts (reach_of_first ts ps k) (reach_of ts (pot_at ps k).who)
  band_is = rw (begins, here k h) (banded_at ts 0 k (pots_of ts live) (bands_whole ts live) h)
