-- The checker's answer by its two tests, and the counts after it. Assumes nothing.
use Prim.Native.Nat.{ℕ}
use mathlib.Core.Path.{◌≡◌, refl, sym}
use mathlib.Core.Bool.{Bool, true, false}
use mathlib.Core.List.{List}
use lib.ListN.{length}
use borrow.Author.Tests.{eq-eqb, ne_eqb, eqb-false}
use lib.Dec.{eqb}
use Rattle.laws.specs.Tests.{both, pick}
use Rattle.paper.specs.declared.Refusal.{Refusal}
use Rattle.paper.specs.declared.Refusal.TheVariants.{Malformed, OutOfRange, NotNext, WrongMoment, WrongSeat, NotInTurn, NotAllowed, CardTwice, TooManyChips, CardsMissing, BadSheet, NoRoom, NotRight, SharesPool, NotStored, NotExact, Unpaid}
use Rattle.paper.specs.Refusals.{number_of}
use Rattle.tray.specs.Proposal.{fits, pays_all, holds_all, judged, lowered, counts_after}

module _ (ws cs ps p : List ℕ) where
  abbrev Fit : Bool
  Fit = fits ws cs (length ps) (length p)

  abbrev Exact : Bool
  Exact = both (pays_all ws ps p) (holds_all cs (length ps) p)

  pub judged_2 : Fit ≡ false → 2 ≡ judged ws cs ps p
  unfolding judged
  judged_2 e = rw e refl

  pub judged_0 : (a b t : Bool) → a ≡ pays_all ws ps p → b ≡ holds_all cs (length ps) p → t ≡ both a b → Fit ≡ true → t ≡ true → 0 ≡ judged ws cs ps p
  unfolding judged
  judged_0 a b t q r s e y = rw (e, sym q, sym r, sym s, y) refl

  pub judged_16 : (a b t : Bool) → a ≡ pays_all ws ps p → b ≡ holds_all cs (length ps) p → t ≡ both a b → Fit ≡ true → t ≡ false → 16 ≡ judged ws cs ps p
  unfolding judged
  judged_16 a b t q r s e y = rw (e, sym q, sym r, sym s, y) refl

  only_0 : (f t : Bool) → ◌≡◌ {A = ℕ} (pick f (pick t 0 16) 2) 0 → (f ≡ true) × (t ≡ true)
  only_0 true true e = (refl, refl)
  only_0 true false e = absurd (eqb-false 16 0 refl e)
  only_0 false t e = absurd (eqb-false 2 0 refl e)

  -- accepted only where both tests pass
  pub tests_of : judged ws cs ps p ≡ 0 → (Fit ≡ true) × (Exact ≡ true)
  unfolding judged
  tests_of e = only_0 Fit Exact e

  pub tests_make : Fit ≡ true → Exact ≡ true → judged ws cs ps p ≡ 0
  unfolding judged
  tests_make e y = rw (e, y) refl

-- the counts after the answer
pub after_0 : (code n : ℕ) (p cs : List ℕ) → code ≡ 0 → lowered n p cs ≡ counts_after code n p cs
unfolding counts_after
after_0 code n p cs e = rw (eq-eqb code 0 e) refl

pub after_other : (code n : ℕ) (p cs : List ℕ) → (code ≡ 0 → ⊥) → cs ≡ counts_after code n p cs
unfolding counts_after
after_other code n p cs h = rw (ne_eqb code 0 h) refl

-- a refusal's number is not that of an accepted proposal
number_pos : (e : Refusal) → eqb (number_of e) 0 ≡ false
number_pos Malformed = refl
number_pos OutOfRange = refl
number_pos NotNext = refl
number_pos WrongMoment = refl
number_pos WrongSeat = refl
number_pos NotInTurn = refl
number_pos NotAllowed = refl
number_pos CardTwice = refl
number_pos TooManyChips = refl
number_pos CardsMissing = refl
number_pos BadSheet = refl
number_pos NoRoom = refl
number_pos NotRight = refl
number_pos SharesPool = refl
number_pos NotStored = refl
number_pos NotExact = refl
number_pos Unpaid = refl

pub refused_code : (e : Refusal) → number_of e ≡ 0 → ⊥
refused_code e h = eqb-false (number_of e) 0 (number_pos e) h
