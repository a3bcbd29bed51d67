-- Answers: a line of one is at most eighteen bytes long; what stands behind its code; and which answer a block gets. Assumes nothing.
use mathlib.Core.Path.{◌≡◌, sym}
use mathlib.Core.Bool.{true, false}
use mathlib.Core.List.{List, ◌++◌, append-nil}
use Prim.Native.Nat.{ℕ, ◌≤◌, ◌<◌, ◌^◌}
use native.Mathlib.Omega.{arith}
use lib.ListN.{length}
use Rattle.std.specs.Prelude.{Ok, Err}
use Rattle.text.specs.Line.{number_line}
use Rattle.text.proofs.Lines.{line_count}
use Rattle.text.proofs.Numbers.{count_most}
use Rattle.banked.specs.Rounds.{Outcome}
use Rattle.banked.specs.declared.judged.Settled.{Settled}
use Rattle.paper.specs.Refusals.{number_of}
use Rattle.paper.specs.declared.refusal.Refusal.{Refusal}
use Rattle.paper.specs.declared.refusal.Refusal.TheVariants.{Malformed, OutOfRange, NotNext, WrongMoment, WrongSeat, NotInTurn, NotAllowed, CardTwice, TooManyChips, CardsMissing, BadSheet, NoRoom, NotRight, SharesPool, NotStored, NotExact, Unpaid}
use Rattle.rounds.specs.RoundText.{good_form, numbers_of, judged_of}
use Rattle.rounds.specs.RoundAnswer.{key_code, settled_bytes, outcome_bytes, answer_bytes}

pub line_most : (key : List ℕ) (n : ℕ) → length key ≤ 7 → length (number_line key n) ≤ 18
line_most key n h = omega (arith, line_count key n, count_most n)

-- ---- the code's line, and what stands behind it

module _ (o : Outcome) where
  pub paid_bytes : (s : Settled) → o ≡ Ok s → outcome_bytes o ≡ number_line key_code 0 ++ settled_bytes s
  unfolding outcome_bytes
  paid_bytes s e = rw e

  pub refused_bytes : (r : Refusal) → o ≡ Err r → outcome_bytes o ≡ number_line key_code (number_of r)
  unfolding outcome_bytes
  refused_bytes r e = rw e (append-nil _)

pub number_small : (r : Refusal) → number_of r < 10 ^ 9
number_small Malformed = omega arith
number_small OutOfRange = omega arith
number_small NotNext = omega arith
number_small WrongMoment = omega arith
number_small WrongSeat = omega arith
number_small NotInTurn = omega arith
number_small NotAllowed = omega arith
number_small CardTwice = omega arith
number_small TooManyChips = omega arith
number_small CardsMissing = omega arith
number_small BadSheet = omega arith
number_small NoRoom = omega arith
number_small NotRight = omega arith
number_small SharesPool = omega arith
number_small NotStored = omega arith
number_small NotExact = omega arith
number_small Unpaid = omega arith

-- ---- the answer to a block

module _ (block : List ℕ) where
  pub answer_good : {ns : List ℕ} {o : Outcome} → good_form block ≡ true → ns ≡ numbers_of block → o ≡ judged_of ns → answer_bytes block ≡ outcome_bytes o
  unfolding answer_bytes
  answer_good t n j = rw (t, j, n)

  pub answer_bad : good_form block ≡ false → answer_bytes block ≡ outcome_bytes (Err Malformed)
  unfolding answer_bytes outcome_bytes
  answer_bad t = rw t (sym (append-nil _))
