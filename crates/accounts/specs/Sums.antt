-- The evening's sums: what a sitting has brought, put in and been paid; sums over sittings and over hands. Assumes nothing.
use Rattle.std.specs.Prelude.{ℕ, ◌+◌, ◌≤◌, min, ◌≡◌, List, [], ◌∷◌, ltb, get_or, set}
use Rattle.laws.specs.Tests.{pick}
use Rattle.accounts.specs.declared.Account.{Account}
use Rattle.accounts.specs.declared.Sums.{Sums}
use Rattle.accounts.specs.declared.Charges.{Charges}

-- no sum of an evening comes near it
abbrev pub bound : ℕ
bound = 4000000000000000000

-- a sum that stays below twice its bound
unfoldable pub added_to : ℕ → ℕ → ℕ
added_to x by = pick (ltb bound x) x (pick (ltb bound by) x (x + by))

abbrev pub account : ℕ → ℕ → ℕ → Account
account b p q = record { brought = b; put = p; paid = q }

abbrev pub nobody : Account
nobody = account 0 0 0

-- who sits down has brought its chips
abbrev pub brings : ℕ → Account
brings chips = account chips 0 0

-- who has put chips into a hand
abbrev pub putting : Account → ℕ → Account
putting a chips = account a.brought (added_to a.put chips) a.paid

-- who is paid
abbrev pub pays : Account → ℕ → Account
pays a chips = account a.brought a.put (added_to a.paid chips)

abbrev pub without : Sums
without = record { sittings = 0; brought = 0; put = 0; paid = 0; home = 0 }

-- one sitting more
abbrev pub totalled : Sums → Account → ℕ → Sums
totalled s a home = record { sittings = added_to s.sittings 1; brought = added_to s.brought a.brought; put = added_to s.put a.put; paid = added_to s.paid a.paid; home = added_to s.home home }

-- no hand was settled
abbrev pub uncharged : Charges
uncharged = record { hands = 0; fees = 0; drops = 0; unclaimed = 0 }

-- one settled hand more
abbrev pub charged : Charges → ℕ → ℕ → ℕ → Charges
charged c fee drop unclaimed = record { hands = added_to c.hands 1; fees = added_to c.fees fee; drops = added_to c.drops drop; unclaimed = added_to c.unclaimed unclaimed }

-- one block more with a code: 0 was taken, 1 to 12 are the refusal numbers, each in its place; what is none of them counts as the last
unfoldable pub counted : List ℕ → ℕ → List ℕ
counted codes code = set codes (min code 12) (added_to (get_or codes (min code 12) 0) 1)

-- after some blocks more, in the order in which they came
abbrev pub counted_all : List ℕ → List ℕ → List ℕ
counted_all codes [] = codes
counted_all codes (k ∷ ks) = counted_all (counted codes k) ks

-- the account of a sitting comes out: what it has brought and been paid is what it has put in, and what it takes home or has in front of it
abbrev pub ComesOut : Account → ℕ → Type 0
ComesOut a home = a.brought + a.paid ≡ a.put + home

abbrev pub SumsComeOut : Sums → Type 0
SumsComeOut s = s.brought + s.paid ≡ s.put + s.home

-- sums of an evening, of which none is above the bound
pub record Below (s : Sums) (a : Account) (h : ℕ) : Type 0 where
  pub brought : (s.brought ≤ bound) × (a.brought ≤ bound)
  pub put : (s.put ≤ bound) × (a.put ≤ bound)
  pub paid : (s.paid ≤ bound) × (a.paid ≤ bound)
  pub home : (s.home ≤ bound) × (h ≤ bound)
