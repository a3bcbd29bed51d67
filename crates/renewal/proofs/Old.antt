-- Behind the lines of an old sheet, where a block begins (`renewed_old`) or the log ends (`renewed_end`), the lines that it lacks are given, and all else passes as it is. Assumes nothing.
use Prim.Native.Nat.{ℕ, ◌≤◌, ◌<◌}
use mathlib.Core.Path.{◌≡◌, refl, ap, ◌∙◌}
use mathlib.Core.List.{List, [], ◌∷◌, ◌++◌, append_assoc, append-nil}
use borrow.Author.Tests.{le-leb, lt-leb}
use Rattle.text.specs.TableSheet.{sheet_lines}
use Rattle.renewal.specs.OldSheets.{missing}
use Rattle.renewal.specs.Renewing.{Step, gives, behind_lines, holding, ended_after, step_of, close_of, and_then, given_of, start_of, closed, renewed}
use Rattle.renewal.proofs.Parts.{given_append}

-- behind the sheet every byte passes
passes : (n : ℕ) (rest : List ℕ) → given_of (ended_after n) rest ≡ gives (ended_after n) rest
unfolding step_of
passes n [] = refl
passes n (b ∷ bs) = ap (and_then (gives (ended_after n) (b ∷ []))) (passes n bs)

-- an `n` at the beginning of a line that an old sheet may end before is held back
held_back : (n : ℕ) → 5 ≤ n → n < sheet_lines → step_of (behind_lines n) 110 ≡ gives (holding n) []
unfolding step_of
held_back n h l = rw (lt-leb sheet_lines n l, le-leb 5 n h)

begins : (n : ℕ) → step_of (holding n) 61 ≡ gives (ended_after n) (missing n ++ (110 ∷ 61 ∷ []))
unfolding step_of
begins n = refl

behind : (n : ℕ) (rest : List ℕ) → 5 ≤ n → n < sheet_lines
    → given_of (behind_lines n) (110 ∷ 61 ∷ rest) ≡ gives (ended_after n) (missing n ++ (110 ∷ 61 ∷ []) ++ rest)
behind n rest h l =
    ap (λ (x : Step). and_then x (given_of x.after (61 ∷ rest))) (held_back n h l)
    ∙ ap (λ (x : Step). and_then (gives (holding n) []) (and_then x (given_of x.after rest))) (begins n)
    ∙ ap (λ (x : Step). and_then (gives (holding n) []) (and_then (gives (ended_after n) (missing n ++ (110 ∷ 61 ∷ []))) x)) (passes n rest)

closes : (n : ℕ) → close_of (ended_after n) ≡ gives (ended_after n) []
unfolding close_of
closes n = refl

ends : (n : ℕ) → 5 ≤ n → n < sheet_lines → close_of (behind_lines n) ≡ gives (ended_after n) (missing n)
unfolding close_of
ends n h l = rw (lt-leb sheet_lines n l, le-leb 5 n h)

-- a front that passes and stands for n lines, and then a block
pub renewed_old : (n : ℕ) (front rest : List ℕ) → 5 ≤ n → n < sheet_lines → given_of start_of front ≡ gives (behind_lines n) front
    → renewed (front ++ (110 ∷ 61 ∷ rest)) ≡ front ++ (missing n ++ (110 ∷ 61 ∷ rest))
unfolding renewed
renewed_old n front rest h l e =
    ap (λ (x : Step). (closed x).given)
    (given_append start_of front (110 ∷ 61 ∷ rest)
    ∙ ap (λ (x : Step). and_then x (given_of x.after (110 ∷ 61 ∷ rest))) e
    ∙ ap (and_then (gives (behind_lines n) front)) (behind n rest h l))
    ∙ ap (λ (x : Step). (front ++ (missing n ++ (110 ∷ 61 ∷ []) ++ rest)) ++ x.given) (closes n)
    ∙ append-nil (front ++ (missing n ++ (110 ∷ 61 ∷ []) ++ rest))
    ∙ ap (λ (x : List ℕ). front ++ x) (append_assoc (missing n) (110 ∷ 61 ∷ []) rest)

-- and then nothing
pub renewed_end : (n : ℕ) (front : List ℕ) → 5 ≤ n → n < sheet_lines → given_of start_of front ≡ gives (behind_lines n) front → renewed front ≡ front ++ missing n
unfolding renewed
renewed_end n front h l e =
    ap (λ (x : Step). (closed x).given) e ∙ ap (λ (x : Step). front ++ x.given) (ends n h l)
