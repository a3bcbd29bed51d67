-- One line more, and the end of the input. REQUESTS No. 13: "With `--check` the proposal is another program's: behind `unclaimed` stand `give` lines, .. up to the first
-- line that is no `give` line"; "the first line that is no `give` line ends it and is then read as any other"; "each block has one answer, behind its `give` lines, also a
-- faulty one"; "a fault here: `code=2` and the end"; "Bytes behind the last LF are no line; in the tray they are a fault". Assumes nothing.
use Rattle.std.specs.Prelude.{ℕ, Bool, true, not, List, [], ◌++◌, set, eqb, ltb}
use Rattle.laws.specs.Tests.{both, pick}
use Rattle.tray.specs.Proposal.{out_of_bounds}
use Rattle.teller.specs.declared.keys.Line.{Line}
use Rattle.teller.specs.declared.state.Teller.{Teller}
use Rattle.teller.specs.Lines.{give_kind}
use Rattle.teller.specs.Keeping.{answers_due, proposal_due, fault_due, tray_line, answer_line, give_line}
use Rattle.payments.specs.Payments.{Answer, code_text, tray_text, paid_out, checked}

-- nothing is written
abbrev pub silent : Teller → List ℕ → Answer
silent s gives = record { teller = s; gives = gives; text = [] }

-- a line where answers are due: without `--check` a payment that is due is made at once
unfoldable pub answers_line : Bool → Teller → Line → List ℕ → Answer
answers_line check s l gives =
    pick (both (not check) (eqb (answer_line s l).due proposal_due)) (paid_out (answer_line s l) gives) (silent (answer_line s l) gives)

-- one answer behind another
abbrev pub behind : List ℕ → Answer → Answer
behind text a = record { teller = a.teller; gives = a.gives; text = text ++ a.text }

-- a line where a proposal is due: one more number, or the proposal's end, and then a line as any other
unfoldable pub proposal_line : Teller → Line → List ℕ → Answer
proposal_line s l gives =
    pick (eqb l.kind give_kind)
    (silent (give_line s l) (set gives s.given l.value))
    (behind (checked s gives).text (answers_line true (checked s gives).teller l gives))

-- a line where the tray is due: a fault is told
unfoldable pub tray_answer : Teller → Line → List ℕ → Answer
tray_answer s l gives = record { teller = tray_line s l; gives = gives; text = pick (eqb (tray_line s l).due fault_due) (code_text out_of_bounds) [] }

-- one line more
unfoldable pub heard_line : Bool → Teller → Line → List ℕ → Answer
heard_line check s l gives =
    pick (eqb s.due proposal_due) (proposal_line s l gives)
    (pick (eqb s.due answers_due) (answers_line check s l gives)
    (pick (eqb s.due fault_due) (silent s gives) (tray_answer s l gives)))

-- nothing more is read: the tray has a fault
abbrev pub is_over : Teller → Bool
is_over s = eqb s.due fault_due

-- the end of the input: a proposal ends, and the tray is written as it stands; a tray that is not whole is a fault
unfoldable pub end_text : Teller → List ℕ → List ℕ
end_text s gives =
    pick (is_over s) []
    (pick (ltb s.due answers_due) (code_text out_of_bounds)
    (pick (eqb s.due proposal_due) ((checked s gives).text ++ tray_text (checked s gives).teller.tray)
    (tray_text s.tray)))

-- room enough for one line's answer, and for the end: two codes' lines of 15 bytes and ten sittings' of 18 with sixteen numbers of 15 each; a code's line, the line of `rows`
-- and sixteen rows of 32
abbrev pub line_room : ℕ
line_room = 2610

abbrev pub end_room : ℕ
end_room = 542
