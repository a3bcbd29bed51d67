-- What a book keeps, whatever lies in the buffers: a sound table with a good sheet, and no more hands than entries. And the calls composed. Assumes nothing.
use mathlib.Core.Path.{◌≡◌, refl, sym, ap, ◌∙◌, subst}
use mathlib.Core.Bool.{Bool, true, false}
use mathlib.Core.List.{List}
use Prim.Native.Nat.{ℕ, ◌+◌, ◌≤◌}
use native.Mathlib.Omega.{arith}
use lib.ListN.{length}
use lib.Dec.{eqb, leb}
use borrow.Author.Tests.{eqb-true, eqb-false}
use Rattle.std.specs.Prelude.{Result, Ok, Err}
use Rattle.paper.specs.declared.Entry.{Entry}
use Rattle.paper.specs.declared.refusal.Refusal.{Refusal}
use Rattle.laws.specs.Tests.{pick, both, either}
use Rattle.paper.specs.SheetAndEntries.{is_sheet}
use Rattle.paper.specs.declared.Numbers.{Numbers}
use Rattle.blocks.specs.Block.{block_of}
use Rattle.blocks.specs.Entry.{parsed_of}
use Rattle.blocks.specs.declared.Block.{Block}
use Rattle.blocks.specs.declared.Block.TheVariants.{Raw, Malformed, Nothing}
use Rattle.writing.specs.AnswerSheet.{written_of, sheet_after}
use Rattle.table.specs.Take.{Sound}
use Rattle.table.specs.declared.table.Table.{Table}
use Rattle.table.proofs.Refusals.{taken_counted, refused_same}
use Rattle.fresh.proofs.Counts.{next_sheet}
use Rattle.fresh.proofs.Steps.{one_most}
use Rattle.desk.specs.Desk.{judge_parsed, judge_block, refused_at, judged_bytes}
use Rattle.desk.specs.declared.Judged.{Judged}
use Rattle.amends.specs.Righting.{right_of, is_right, number_of, judged_right}
use Rattle.amends.specs.declared.Right.{Right}
use Rattle.amends.proofs.Judging.{judged_keeps}
use Rattle.ledger.specs.Keeping.{Held, was_taken, answered_as, hands_after, log_after, index_kept}
use Rattle.ledger.specs.Entering.{is_full, numbers_in, held_back, judged_entry, judged_here, taken_here, entered_of, log_entered, index_entered, sheet_entered}
use Rattle.ledger.specs.Righting.{taken_right, righted_of, log_righted, index_righted, sheet_righted, answer_of, log_of, index_of, sheet_of}
use Rattle.ledger.specs.declared.Book.{Book}
use Rattle.ledger.specs.declared.Answered.{Answered}
use Rattle.ledger.proofs.Telling.{told_within}
use Rattle.ledger.specs.Righting as righting

-- ---- what a judged block does to the table: with 0 one entry more is counted, with another code nothing changes; the sheet stays

pub record Counts (t : Table) (j : Judged) : Type 0 where
  pub sheet : j.table.sheet ≡ t.sheet
  pub more : j.code ≡ 0 → j.table.taken ≡ t.taken + 1
  pub same : (j.code ≡ 0 → ⊥) → j.table ≡ t

refused_counts : (t : Table) (n code : ℕ) → (code ≡ 0 → ⊥) → Counts t (refused_at t n code)
refused_counts t n code h = record { sheet = refl; more = λ e. absurd (h e); same = λ e. refl }

two_no : ◌≡◌ {A = ℕ} 2 0 → ⊥
two_no h = omega (arith, h)

one_no : ◌≡◌ {A = ℕ} 1 0 → ⊥
one_no h = omega (arith, h)

fifteen_no : ◌≡◌ {A = ℕ} 15 0 → ⊥
fifteen_no h = omega (arith, h)

parsed_counts : (t : Table) (n : ℕ) (p : Result Entry Refusal) → Counts t (judge_parsed t n p)
parsed_counts t n (Ok e) = record { sheet = next_sheet t n e; more = taken_counted t n e; same = refused_same t n e }
parsed_counts t n (Err why) = refused_counts t n 2 two_no

block_counts : (t : Table) (b : Block) → Counts t (judge_block t b)
block_counts t (Raw n k s a b) = parsed_counts t n (parsed_of k s a b)
block_counts t Malformed = record { sheet = refl; more = λ e. absurd (one_no e); same = λ e. refl }
block_counts t Nothing = record { sheet = refl; more = λ e. absurd (one_no e); same = λ e. refl }

pub entry_counts : (b : Book) (block : Block) (log index : ℕ) → Counts b.table (judged_entry b block log index)
unfolding judged_entry held_back
entry_counts b block log index = go (both (is_full b.table.taken b.hands (eqb (numbers_in block).kind 2) log index) (either (eqb j.code 0) (leb 4 j.code)))
  where
    j : Judged
    j = judge_block b.table block

    go : (x : Bool) → Counts b.table (pick x (refused_at b.table j.n 15) j)
    go true = refused_counts b.table j.n 15 fifteen_no
    go false = block_counts b.table block

-- ---- so the book after it holds

module _ (b : Book) (x : Numbers) (j : Judged) (h : Held b) (c : Counts b.table j) (s : Sound j.table) where
  good : is_sheet j.table.sheet ≡ true
  good = ap is_sheet c.sheet ∙ h.sheet

  bytes_held : (t : Bool) → eqb j.code 0 ≡ t → Held (record { table = j.table; hands = hands_after t b x })
  bytes_held true e = record { sound = s; sheet = good; hands = omega (arith, h.hands, one_most (eqb x.kind 2), c.more (eqb-true j.code 0 e)) }
  bytes_held false e =
      record { sound = s; sheet = good; hands = omega (arith, h.hands, ap (λ (u : Table). u.taken) (c.same (eqb-false j.code 0 e))) }

  pub told_held : (w : Result ℕ Refusal) → Held (answered_as b j (hands_after (was_taken w j.code) b x) w).book
  told_held (Ok k) = bytes_held (eqb j.code 0) refl
  told_held (Err why) = h

pub right_held : (b : Book) (shared : Bool) (r : Right) (log : List ℕ) (w : Result ℕ Refusal) → Held b → Sound (judged_right b.table shared r log).table
    → Held (answered_as b (judged_right b.table shared r log) b.hands w).book
right_held b shared r log (Ok k) h s =
    let c = judged_keeps b.table shared r log in
    record { sound = s; sheet = ap is_sheet c.0 ∙ h.sheet; hands = omega (arith, h.hands, c.1) }
right_held b shared r log (Err why) h s = h

-- ---- the calls composed

module _ (b : Book) (block : Block) (log index sheet : List ℕ) where
  pub entered_is : {j : Judged} {w : Result ℕ Refusal} {ok : Bool} {x : Numbers} {hands : ℕ} {r : Answered} {l i sh : List ℕ} → Held b → Sound j.table
      → j ≡ judged_entry b block (length log) (length index) → w ≡ written_of (judged_bytes j) sheet → sh ≡ sheet_after (judged_bytes j) sheet
      → ok ≡ was_taken w j.code → x ≡ numbers_in block → hands ≡ hands_after ok b x → l ≡ log_after ok b x log → i ≡ index_kept ok b x index
      → r ≡ answered_as b j hands w
      → (r ≡ entered_of b block log index sheet) × ((l ≡ log_entered b block log index sheet) × ((i ≡ index_entered b block log index sheet)
      × ((sh ≡ sheet_entered b block log index sheet) × (Held r.book × (r.written ≤ length sheet)))))
  unfolding entered_of log_entered index_entered sheet_entered
  entered_is {j} {w} {ok} {x} {hands} {r} {l} {i} {sh} h s ej ew es eo ex eh el ei er =
      let J : Judged = judged_here b block log index in
      let W : Result ℕ Refusal = written_of (judged_bytes J) sheet in
      let T : Bool = taken_here b block log index sheet in
      let X : Numbers = numbers_in block in
      let fw : w ≡ W = ew ∙ ap (λ (y : Judged). written_of (judged_bytes y) sheet) ej in
      let fo : ok ≡ T = eo ∙ ap (λ (y : Result ℕ Refusal). was_taken y j.code) fw ∙ ap (λ (y : Judged). was_taken W y.code) ej in
      let fh : hands ≡ hands_after T b X = eh ∙ ap (λ (y : Bool). hands_after y b x) fo ∙ ap (hands_after T b) ex in
      let fr : r ≡ answered_as b J (hands_after T b X) W =
      er ∙ ap (λ (y : Judged). answered_as b y hands w) ej ∙ ap (λ (y : ℕ). answered_as b J y w) fh ∙ ap (answered_as b J (hands_after T b X)) fw in
      let sound : Sound J.table = subst (λ (y : Judged). Sound y.table) ej s in (
        fr,
        (
          el ∙ ap (λ (y : Bool). log_after y b x log) fo ∙ ap (λ (y : Numbers). log_after T b y log) ex,
          (
            ei ∙ ap (λ (y : Bool). index_kept y b x index) fo ∙ ap (λ (y : Numbers). index_kept T b y index) ex,
            (
              es ∙ ap (λ (y : Judged). sheet_after (judged_bytes y) sheet) ej,
              (
                subst (λ (y : Answered). Held y.book) (sym fr) (told_held b X J h (entry_counts b block (length log) (length index)) sound W),
                subst (λ (y : Answered). y.written ≤ length sheet) (sym fr) (told_within b J (hands_after T b X) (judged_bytes J) sheet),
              ),
            ),
          ),
        ),
      )

module _ (b : Book) (shared : Bool) (r : Right) (log index sheet : List ℕ) where
  pub righted_is : {seen : List ℕ} {j : Judged} {w : Result ℕ Refusal} {ok : Bool} {n : ℕ} {x : Numbers} {a : Answered} {l i sh : List ℕ} → Held b → Sound j.table
      → seen ≡ log → j ≡ judged_right b.table shared r seen → w ≡ written_of (judged_bytes j) sheet → sh ≡ sheet_after (judged_bytes j) sheet
      → ok ≡ was_taken w j.code → n ≡ number_of r → x ≡ numbers_in r.block
      → l ≡ righting.log_after ok n x log → i ≡ righting.index_after ok b.table n x log index → a ≡ answered_as b j b.hands w
      → (a ≡ righted_of b shared r log sheet) × ((l ≡ log_righted b shared r log sheet) × ((i ≡ index_righted b shared r log index sheet)
      × ((sh ≡ sheet_righted b shared r log sheet) × (Held a.book × (a.written ≤ length sheet)))))
  unfolding righted_of log_righted index_righted sheet_righted
  righted_is {seen} {j} {w} {ok} {n} {x} {a} {l} {i} {sh} h s ez ey ew es eo en ex el ei ea =
      let J : Judged = judged_right b.table shared r log in
      let W : Result ℕ Refusal = written_of (judged_bytes J) sheet in
      let T : Bool = taken_right b shared r log sheet in
      let X : Numbers = numbers_in r.block in
      let ej : j ≡ J = ey ∙ ap (judged_right b.table shared r) ez in
      let fw : w ≡ W = ew ∙ ap (λ (y : Judged). written_of (judged_bytes y) sheet) ej in
      let fo : ok ≡ T = eo ∙ ap (λ (y : Result ℕ Refusal). was_taken y j.code) fw ∙ ap (λ (y : Judged). was_taken W y.code) ej in
      let fa : a ≡ answered_as b J b.hands W = ea ∙ ap (λ (y : Judged). answered_as b y b.hands w) ej ∙ ap (answered_as b J b.hands) fw in
      let sound : Sound J.table = subst (λ (y : Judged). Sound y.table) ej s in (
        fa,
        (
          el ∙ ap (λ (y : Bool). righting.log_after y n x log) fo ∙ ap (λ (y : ℕ). righting.log_after T y x log) en
              ∙ ap (λ (y : Numbers). righting.log_after T (number_of r) y log) ex,
          (
            ei ∙ ap (λ (y : Bool). righting.index_after y b.table n x log index) fo ∙ ap (λ (y : ℕ). righting.index_after T b.table y x log index) en
                ∙ ap (λ (y : Numbers). righting.index_after T b.table (number_of r) y log index) ex,
            (
              es ∙ ap (λ (y : Judged). sheet_after (judged_bytes y) sheet) ej,
              (
                subst (λ (y : Answered). Held y.book) (sym fa) (right_held b shared r log W h sound),
                subst (λ (y : Answered). y.written ≤ length sheet) (sym fa) (told_within b J b.hands (judged_bytes J) sheet),
              ),
            ),
          ),
        ),
      )

-- either of the two
module _ (b : Book) (shared : Bool) (lines log index sheet : List ℕ) where
  pub answer_right : {t : Bool} {r : Right} {a : Answered} {l i sh : List ℕ} → t ≡ is_right lines → t ≡ true → r ≡ right_of lines
      → (a ≡ righted_of b shared r log sheet) → (l ≡ log_righted b shared r log sheet) → (i ≡ index_righted b shared r log index sheet)
      → (sh ≡ sheet_righted b shared r log sheet)
      → (a ≡ answer_of b shared lines log index sheet) × ((l ≡ log_of b shared lines log index sheet) × ((i ≡ index_of b shared lines log index sheet) × (sh ≡ sheet_of b shared lines log index sheet)))
  unfolding answer_of log_of index_of sheet_of
  answer_right {t} {r} {a} {l} {i} {sh} e f g ea el ei es =
      let y : is_right lines ≡ true = sym e ∙ f in
      let R : Right = right_of lines in (
        ea ∙ ap (λ (q : Right). righted_of b shared q log sheet) g ∙ sym (ap (λ (q : Bool). pick q (righted_of b shared R log sheet) (entered_of b (block_of lines) log index sheet)) y),
        (
          el ∙ ap (λ (q : Right). log_righted b shared q log sheet) g ∙ sym (ap (λ (q : Bool). pick q (log_righted b shared R log sheet) (log_entered b (block_of lines) log index sheet)) y),
          (
            ei ∙ ap (λ (q : Right). index_righted b shared q log index sheet) g
                ∙ sym (ap (λ (q : Bool). pick q (index_righted b shared R log index sheet) (index_entered b (block_of lines) log index sheet)) y),
            es ∙ ap (λ (q : Right). sheet_righted b shared q log sheet) g
                ∙ sym (ap (λ (q : Bool). pick q (sheet_righted b shared R log sheet) (sheet_entered b (block_of lines) log index sheet)) y),
          ),
        ),
      )

  pub answer_entry : {t : Bool} {k : Block} {a : Answered} {l i sh : List ℕ} → t ≡ is_right lines → t ≡ false → k ≡ block_of lines
      → (a ≡ entered_of b k log index sheet) → (l ≡ log_entered b k log index sheet) → (i ≡ index_entered b k log index sheet) → (sh ≡ sheet_entered b k log index sheet)
      → (a ≡ answer_of b shared lines log index sheet) × ((l ≡ log_of b shared lines log index sheet) × ((i ≡ index_of b shared lines log index sheet) × (sh ≡ sheet_of b shared lines log index sheet)))
  unfolding answer_of log_of index_of sheet_of
  answer_entry {t} {k} {a} {l} {i} {sh} e f g ea el ei es =
      let y : is_right lines ≡ false = sym e ∙ f in
      let R : Right = right_of lines in (
        ea ∙ ap (λ (q : Block). entered_of b q log index sheet) g ∙ sym (ap (λ (q : Bool). pick q (righted_of b shared R log sheet) (entered_of b (block_of lines) log index sheet)) y),
        (
          el ∙ ap (λ (q : Block). log_entered b q log index sheet) g ∙ sym (ap (λ (q : Bool). pick q (log_righted b shared R log sheet) (log_entered b (block_of lines) log index sheet)) y),
          (
            ei ∙ ap (λ (q : Block). index_entered b q log index sheet) g
                ∙ sym (ap (λ (q : Bool). pick q (index_righted b shared R log index sheet) (index_entered b (block_of lines) log index sheet)) y),
            es ∙ ap (λ (q : Block). sheet_entered b q log index sheet) g
                ∙ sym (ap (λ (q : Bool). pick q (sheet_righted b shared R log sheet) (sheet_entered b (block_of lines) log index sheet)) y),
          ),
        ),
      )
