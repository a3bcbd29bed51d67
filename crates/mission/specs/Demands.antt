-- The mission's three demands, of one answer of the box: of the numbers that it shows and of its bytes. What they are held against is read from the sheet and the
-- taken entries: the notebook (history/specs/Notebook). Lists of entries have the newest first. Assumes nothing.
use Rattle.std.specs.Prelude.{ℕ, ◌+◌, ◌≤◌, ◌<◌, true, ◌≡◌, List, [], ◌∷◌, ◌++◌, map, take, eqb, Result, Ok, Err}
use Rattle.paper.specs.declared.refusal.Refusal.{Refusal}
use Rattle.laws.specs.Tests.{pick}
use Rattle.laws.specs.Lists.{All, sum_of}
use Rattle.paper.specs.RefusalNumbers.{taken, malformed, out_of_range}
use Rattle.paper.specs.declared.Sheet.{Sheet}
use Rattle.paper.specs.declared.Entry.{Entry}
use Rattle.paper.specs.declared.Entry.TheVariants.{Sit, Settle}
use Rattle.pots.specs.declared.Pot.{Pot}
use Rattle.pots.specs.Hand.{reach}
use Rattle.blocks.specs.Entry.{parsed_of}
use Rattle.text.specs.Line.{number_line}
use Rattle.blocks.specs.declared.Block.{Block}
use Rattle.blocks.specs.declared.Block.TheVariants.{Raw, Malformed, Nothing}
use Rattle.answers.specs.declared.PaidRow.{PaidRow}
use Rattle.answers.specs.declared.ShownPayout.{ShownPayout}
use Rattle.answers.specs.declared.Shown.{Shown}
use Rattle.answers.specs.Answer.{joined, key_pot, key_back, key_fee, key_sitting, key_paid, key_unclaimed, two_bytes, state_bytes, payout_bytes, table_bytes, answer_bytes}
use Rattle.history.specs.Codes.{code_by}
use Rattle.history.specs.History.{run, AllTaken, put_in, live_in, sits, clerk_pots, puts, clerk_back, NoHand}
use Rattle.history.specs.Moves.{Moves}
use Rattle.history.specs.Notebook.{Notebook, ten_seats, pots_by, fee_by, drop_by, paid_by, notebook}
use Rattle.history.specs.Turns.{turn_of}
use Rattle.mission.specs.Allowed.{Allowed}
use Rattle.mission.specs.Blocks.{Given}
use Rattle.mission.specs.Does.{Does}
use Rattle.mission.specs.Winners.{BestWin, left_behind}

-- the bytes of an answer
abbrev pub given_bytes : Given → List ℕ
given_bytes g = answer_bytes g.shown

-- ---- demand 1

-- "Each entry is taken or refused with a number from document 01. A refusal leaves the table as it was": the entries taken are those before
pub record Demand1 (sheet : Sheet) (g : Given) : Type 0 where
  pub number : g.shown.code ≤ 10
  pub refused : (g.shown.code ≡ taken → ⊥) → g.taken ≡ g.had

-- ---- demand 2

-- the code of a block by the notebook
abbrev pub code_of_read : Sheet → List Entry → ℕ → Result Entry Refusal → ℕ
code_of_read sheet es n (Err why) = out_of_range
code_of_read sheet es n (Ok e) = code_by sheet es n e

abbrev pub code_of_any : Sheet → List Entry → Block → ℕ
code_of_any sheet es (Raw n kind seat a b) = code_of_read sheet es n (parsed_of kind seat a b)
code_of_any sheet es Malformed = malformed
code_of_any sheet es Nothing = malformed

-- an entry is taken: it is allowed, and does what document 01 says
pub record Done (sheet : Sheet) (g : Given) : Type 0 where
  pub entry : Entry
  pub adds : g.taken ≡ entry ∷ g.had
  pub allowed : Allowed (run sheet g.had) g.shown.n entry
  pub does : Does (run sheet g.had) entry (run sheet g.taken)

-- "An entry is taken exactly when document 01 allows it, and does what it says." The turn and the mark that are shown are those that the entries tell
pub record Demand2 (sheet : Sheet) (g : Given) : Type 0 where
  pub code : g.shown.code ≡ code_of_any sheet g.had g.block
  pub done : g.shown.code ≡ taken → Done sheet g
  pub legal : (n kind seat a b : ℕ) (e : Entry) → g.block ≡ Raw n kind seat a b → parsed_of kind seat a b ≡ Ok e → Allowed (run sheet g.had) n e → g.shown.code ≡ taken
  pub turn : g.shown.turn ≡ turn_of sheet g.taken
  pub mark : g.shown.mark ≡ (notebook sheet g.taken).play.mark
  -- "Of two hands the better by the published order wins": at a settle, of every pot
  pub hands : g.shown.settled ≡ true → All (BestWin sheet (notebook sheet g.had)) (pots_by (notebook sheet g.had))

-- ---- demand 3

abbrev pub amounts_of : List Pot → List ℕ
amounts_of ps = map (λ (p : Pot). p.amount) ps

-- the pots of an answer, and those of the clerk: from what each sitting has put into the open hand, and which are live
abbrev pub shown_pots : Shown → List Pot
shown_pots s = take s.pots.n s.pots.list

abbrev pub clerks_pots : Sheet → List Entry → List Pot
clerks_pots sheet es = clerk_pots (put_in sheet es) (live_in sheet es) (sits es)

-- what the rows pay: all that have lines, that is those of a sitting; and those of one sitting
abbrev pub rows_pay : List PaidRow → ℕ
rows_pay [] = 0
rows_pay (r ∷ rs) = pick (eqb r.sitting 0) 0 r.paid + rows_pay rs

abbrev pub rows_pay_to : List PaidRow → ℕ → ℕ
rows_pay_to [] s = 0
rows_pay_to (r ∷ rs) s = pick (eqb r.sitting s) r.paid 0 + rows_pay_to rs s

-- the row of seat x, and its lines: none where nobody was dealt in
abbrev pub row_by : Sheet → Notebook → ℕ → PaidRow
row_by sheet n x = record { sitting = n.hand.dealt x; paid = paid_by sheet n (n.hand.dealt x) }

abbrev pub row_lines : Sheet → Notebook → ℕ → List ℕ
row_lines sheet n x = pick (eqb (n.hand.dealt x) 0) [] (two_bytes key_sitting (n.hand.dealt x) key_paid (paid_by sheet n (n.hand.dealt x)))

-- the payout p of a settle after these entries. `fee`, each `paid` and `unclaimed` are the notebook's, a seat without lines is paid nothing, and unclaimed are the
-- returned chips of those who left; all that is put in is made up, what the hand drops counted (No. 7); no sitting is paid more than the sum of min(its total, theirs); one that sat down after the
-- deal is paid nothing
pub record Pays (sheet : Sheet) (es : List Entry) (p : ShownPayout) : Type 0 where
  pub fee : p.fee ≡ fee_by sheet (notebook sheet es)
  pub rows : p.rows ≡ map (row_by sheet (notebook sheet es)) ten_seats
  pub unlisted : (x : ℕ) → (notebook sheet es).hand.dealt x ≡ 0 → (row_by sheet (notebook sheet es) x).paid ≡ 0
  pub unclaimed : p.unclaimed ≡ left_behind (notebook sheet es)
  pub all : rows_pay p.rows + p.fee + drop_by sheet (notebook sheet es) + p.unclaimed ≡ sum_of (puts sheet es)
  pub most : (s : ℕ) → 0 < s → rows_pay_to p.rows s ≤ reach (puts sheet es) (put_in sheet es s)
  pub late : (x a : ℕ) (before later : List Entry) → NoHand later → es ≡ later ++ (Sit x a ∷ before) → rows_pay_to p.rows (sits before + 1) ≡ 0
  -- and so in bytes
  pub lines : payout_bytes p
      ≡ number_line key_fee (fee_by sheet (notebook sheet es))
      ++ joined (row_lines sheet (notebook sheet es)) ten_seats
      ++ number_line key_unclaimed (left_behind (notebook sheet es))

-- an answer with a payout is that to a settle that was taken
pub record Settled (sheet : Sheet) (g : Given) : Type 0 where
  pub settle : g.taken ≡ Settle ∷ g.had
  pub pays : Pays sheet g.had g.shown.payout

-- "the table's pots are those a clerk finds afresh"; what each kind of entry changes; the settlement
pub record Demand3 (sheet : Sheet) (g : Given) : Type 0 where
  pub amounts : amounts_of (shown_pots g.shown) ≡ amounts_of (clerks_pots sheet g.taken)
  pub back : g.shown.back ≡ clerk_back sheet g.taken
  -- and so in bytes: the lines of the table end with a `pot` line for each pot of the clerk and with the clerk's `back`
  pub lines : table_bytes g.shown
      ≡ state_bytes g.shown.n g.shown.code g.shown.turn g.shown.mark
      ++ joined (number_line key_pot) (amounts_of (clerks_pots sheet g.taken))
      ++ number_line key_back (clerk_back sheet g.taken)
  pub moves : (e : Entry) → g.taken ≡ e ∷ g.had → Moves sheet g.had e
  pub settled : g.shown.settled ≡ true → Settled sheet g

-- all of them
pub record Right (sheet : Sheet) (g : Given) : Type 0 where
  pub taken : AllTaken sheet g.taken
  pub one : Demand1 sheet g
  pub two : Demand2 sheet g
  pub three : Demand3 sheet g
