-- What is found of an entry and its number: the first of two that refuses. Assumes nothing.
use Prim.Native.Nat.{ℕ}
use mathlib.Core.Bool.{true, false, true≢false}
use mathlib.Core.Path.{◌≡◌, refl, sym, ap, ◌∙◌}
use native.Mathlib.Omega.{arith}
use lib.Dec.{eqb}
use Rattle.std.specs.Prelude.{Result, Ok, Err, is_ok, is_err}
use Rattle.paper.specs.Paper.{or_else}
use Rattle.paper.specs.Refusals.{number_of}
use Rattle.paper.specs.declared.refusal.Refusal.{Refusal}
use Rattle.paper.specs.declared.refusal.Refusal.TheVariants.{Malformed, OutOfRange, NotNext, WrongMoment, WrongSeat, NotInTurn, NotAllowed, CardTwice, TooManyChips, CardsMissing, BadSheet, NoRoom, NotRight, SharesPool, NotStored, NotExact, Unpaid}
use Rattle.paper.proofs.Codes.{or_some, or_none}
use Rattle.table.specs.Refused.{number_by}

-- no reason has the number 0
some : (why : Refusal) → number_of why ≡ 0 → ⊥
some Malformed e = omega arith
some OutOfRange e = omega arith
some NotNext e = omega arith
some WrongMoment e = omega arith
some WrongSeat e = omega arith
some NotInTurn e = omega arith
some NotAllowed e = omega arith
some CardTwice e = omega arith
some TooManyChips e = omega arith
some CardsMissing e = omega arith
some BadSheet e = omega arith
some NoRoom e = omega arith
some NotRight e = omega arith
some SharesPool e = omega arith
some NotStored e = omega arith
some NotExact e = omega arith
some Unpaid e = omega arith

-- the first refuses
pub stops : (a b : ℕ) (why : Refusal) (r : Result (Unit {0}) Refusal) → r ≡ Err why → number_of why ≡ a → number_by r ≡ or_else a b
stops a b why r q f = ap (λ k. number_by k) q ∙ f ∙ sym (or_some a b (λ z. some why (f ∙ z)))

-- it does not: then it is as the second says
pub goes : (a b n : ℕ) → 0 ≡ a → n ≡ b → n ≡ or_else a b
goes a b n q f = f ∙ sym (or_none a b (sym q))

pub ok_number : (r : Result (Unit {0}) Refusal) → is_ok r ≡ eqb (number_by r) 0
ok_number (Ok u) = refl
ok_number (Err Malformed) = refl
ok_number (Err OutOfRange) = refl
ok_number (Err NotNext) = refl
ok_number (Err WrongMoment) = refl
ok_number (Err WrongSeat) = refl
ok_number (Err NotInTurn) = refl
ok_number (Err NotAllowed) = refl
ok_number (Err CardTwice) = refl
ok_number (Err TooManyChips) = refl
ok_number (Err CardsMissing) = refl
ok_number (Err BadSheet) = refl
ok_number (Err NoRoom) = refl
ok_number (Err NotRight) = refl
ok_number (Err SharesPool) = refl
ok_number (Err NotStored) = refl
ok_number (Err NotExact) = refl
ok_number (Err Unpaid) = refl

pub err_number : (r : Result (Unit {0}) Refusal) → is_err r ≡ true → number_by r ≡ 0 → ⊥
err_number (Ok u) e z = true≢false (sym e)
err_number (Err why) e z = some why z

pub none_number : (r : Result (Unit {0}) Refusal) → is_err r ≡ false → number_by r ≡ 0
none_number (Ok u) e = refl
none_number (Err why) e = absurd (true≢false e)
