-- What comes and goes of each sitting's chips over all hands, read from the entries: brought by its `sit`, put into the hands that are settled, paid by their
-- settles, and taken away by its `leave`. Lists of entries have the newest first. Assumes nothing.
use Rattle.std.specs.Prelude.{ℕ, ◌+◌, ◌≡◌, List, [], ◌∷◌, eqb}
use Rattle.laws.specs.Tests.{pick}
use Rattle.paper.specs.declared.Sheet.{Sheet}
use Rattle.paper.specs.declared.Entry.{Entry}
use Rattle.paper.specs.declared.Entry.TheVariants.{Sit, Leave, Hand, Hole, Fold, Check, Call, Wager, Board, Dead, Settle, Void}
use Rattle.history.specs.History.{put_in}
use Rattle.history.specs.Notebook.{Notebook, notebook, paid_by}

pub record Ledger : Type 0 where
  pub brought : ℕ
  pub put : ℕ
  pub paid : ℕ
  pub away : ℕ

abbrev pub new_ledger : Ledger
new_ledger = record { brought = 0; put = 0; paid = 0; away = 0 }

-- the ledger of sitting s, after an entry that is taken where the notebook says n
abbrev pub ledger_by : Sheet → Notebook → ℕ → Entry → Ledger → Ledger
ledger_by sheet n s (Sit x a) l = record { brought = l.brought + pick (eqb (n.people.count + 1) s) a 0; put = l.put; paid = l.paid; away = l.away }
ledger_by sheet n s (Leave x) l = record { brought = l.brought; put = l.put; paid = l.paid; away = l.away + pick (eqb (n.people.sits x) s) (n.people.stack s) 0 }
ledger_by sheet n s (Hand p) l = l
ledger_by sheet n s (Hole x a b) l = l
ledger_by sheet n s (Fold x) l = l
ledger_by sheet n s (Check x) l = l
ledger_by sheet n s (Call x) l = l
ledger_by sheet n s (Wager x a) l = l
ledger_by sheet n s (Board k) l = l
ledger_by sheet n s (Dead x) l = l
ledger_by sheet n s Settle l = record { brought = l.brought; put = l.put + (n.hand.part s).put; paid = l.paid + paid_by sheet n s; away = l.away }
ledger_by sheet n s Void l = l

unfoldable pub ledger : Sheet → List Entry → ℕ → Ledger
ledger sheet [] s = new_ledger
ledger sheet (e ∷ es) s = ledger_by sheet (notebook sheet es) s e (ledger sheet es s)

-- a sitting's stack, with what it has put in and taken away, is what it brought and was paid
abbrev pub Balanced : Sheet → List Entry → ℕ → Type 0
Balanced sheet es s = (notebook sheet es).people.stack s + put_in sheet es s + (ledger sheet es s).put + (ledger sheet es s).away ≡ (ledger sheet es s).brought + (ledger sheet es s).paid
