-- The sheet that a lone table goes by is a sheet (`opened_is`), and has no drop (`opened_lone`). Assumes nothing.
use mathlib.Core.Path.{◌≡◌, refl, sym, ap, subst, ◌∙◌}
use mathlib.Core.Bool.{Bool, true, false, false≢true}
use mathlib.Core.List.{List, [], ◌∷◌}
use Prim.Native.Nat.{ℕ}
use lib.Dec.{leb}
use borrow.Author.Tests.{le-leb}
use Rattle.std.specs.Prelude.{Result, Ok, Err}
use Rattle.paper.specs.declared.refusal.Refusal.{Refusal}
use Rattle.paper.specs.SheetAndEntries.{between, all_of, is_sheet, dealt_from, stand_in}
use Rattle.paper.specs.declared.Sheet.{Sheet}
use Rattle.paper.proofs.Sheets.{good_ranged}
use Rattle.text.specs.TableSheet.{sheet_of}
use Rattle.text.proofs.SheetLaws.{sheet_is}
use Rattle.desk.specs.Log.{lone, lone_read, opened_of}

-- a sheet stays one with no drop
pub lone_is : (s : Sheet) → is_sheet s ≡ true → is_sheet (lone s) ≡ true
unfolding is_sheet
lone_is s e =
    subst (λ (b : Bool).
    all_of
    (between 2 10 s.seats
    ∷ leb 1 s.small
    ∷ leb s.small s.big
    ∷ leb s.big 10000
    ∷ all_of (leb s.rate 100 ∷ leb s.cap 1000000 ∷ between 1 1000 s.step ∷ b ∷ [])
    ∷ dealt_from s.game s.deck
    ∷ [])
    ≡ true)
    (le-leb s.drop 1000 (good_ranged s e).drop) e

-- a good opening is the log's sheet with no drop
abbrev sheet_in : Result Sheet Refusal → Sheet
sheet_in (Ok s) = s
sheet_in (Err why) = stand_in

abbrev is_read : Result Sheet Refusal → Bool
is_read (Ok s) = true
is_read (Err why) = false

pub record Lone (s : Sheet) : Type 0 where
  pub good : is_sheet s ≡ true
  pub drop : s.drop ≡ 0

opened : (log : List ℕ) (s : Sheet) → opened_of log ≡ Ok s → Lone s
unfolding opened_of
opened log s e = go (sheet_of log) refl e
  where
    go : (o : Result Sheet Refusal) → sheet_of log ≡ o → lone_read o ≡ Ok s → Lone s
    go (Ok u) q r = subst Lone (ap sheet_in r) (record { good = lone_is u (sheet_is log u q); drop = refl })
    go (Err why) q r = absurd (false≢true (ap is_read r))

pub opened_is : (log : List ℕ) (s : Sheet) → opened_of log ≡ Ok s → is_sheet s ≡ true
opened_is log s e = (opened log s e).good

pub opened_lone : (log : List ℕ) (s : Sheet) → opened_of log ≡ Ok s → s.drop ≡ 0
opened_lone log s e = (opened log s e).drop

-- what code reads: the sheet of the log, with no drop
pub opened_read : (log : List ℕ) {o : Result Sheet Refusal} {s u : Sheet} → o ≡ sheet_of log → o ≡ Ok s → u ≡ lone s → Ok u ≡ opened_of log
unfolding opened_of
opened_read log e f g = ap Ok g ∙ ap lone_read (sym f ∙ e)

pub opened_bad : (log : List ℕ) {o : Result Sheet Refusal} {why : Refusal} → o ≡ sheet_of log → o ≡ Err why → Err why ≡ opened_of log
unfolding opened_of
opened_bad log e f = ap lone_read (sym f ∙ e)
