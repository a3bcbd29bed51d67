-- Piece after piece: what two lists of pieces one behind the other give, a bad opening ends it, and each call gives what its piece does. For the proofs of the
-- functions. Assumes nothing.
use Prim.Native.Nat.{ℕ, ◌-◌, ◌≤◌}
use mathlib.Core.Bool.{Bool, true, false}
use mathlib.Core.Path.{◌≡◌, refl, sym, ap, subst, ◌∙◌}
use mathlib.Core.List.{List, [], ◌∷◌, ◌++◌, append_assoc, append-nil}
use native.Mathlib.Omega.{arith}
use lib.ListN.{length, take, drop, length-append, length-drop}
use lib.Seq.{take-append_seam}
use borrow.Author.Tests.{le-leb}
use Rattle.std.specs.Prelude.{Ok, Err}
use Rattle.paper.specs.declared.refusal.Refusal.TheVariants.{NoRoom}
use Rattle.laws.specs.Tests.{pick}
use Rattle.text.specs.Line.{line_number}
use Rattle.text.specs.TableSheet.{sheet_of}
use Rattle.writing.specs.AnswerSheet.{Wrote, over, sheet_after, written_of}
use Rattle.table.specs.declared.table.Table.{Table}
use Rattle.table.specs.Take.{Sound}
use Rattle.pool.specs.Jackpot.{most}
use Rattle.desk.specs.declared.Judged.{Judged}
use Rattle.pool.specs.declared.Settled.{Settled}
use Rattle.shared.specs.declared.SharedAnswer.{SharedAnswer}
use Rattle.shared.specs.Shared.{judged_at, settled_at, bytes_at, said, shared_from}
use Rattle.std.specs.Prelude.{Option, Some, None}
use Rattle.frames.specs.declared.Which.{Which}
use Rattle.frames.specs.declared.Due.{Due}
use Rattle.frames.specs.declared.Due.TheVariants as due_as
use Rattle.frames.specs.declared.Made.{Made}
use Rattle.frames.specs.declared.Made.TheVariants as made
use Rattle.frames.specs.Frames.{Piece, Whole, Cut, OfNone, Missing, piece_of}
use Rattle.couple.specs.declared.Pair.{Pair}
use Rattle.couple.specs.Couple.{is_second, table_at, with_table, house_with, shown_bytes, Given, still, stray_done, refused, pool_key, pool_done, sheet_done, Gave, Good}
use Rattle.couple.proofs.Tables.{good_with}
use Rattle.pairs.specs.Pairs.{answered, cut_lines, whole_done, piece_done, piece_in, ran}

-- ---- pieces one after another

pub ran_append : (only : ℕ) (p : Pair) (xs ys : List Piece)
    → ran only p (xs ++ ys) ≡ record { pair = (ran only (ran only p xs).pair ys).pair; bytes = (ran only p xs).bytes ++ (ran only (ran only p xs).pair ys).bytes }
ran_append only p [] ys = refl
ran_append only p (x ∷ xs) ys =
    let d : Given = piece_in only p x in
    let r : Given = ran only d.pair xs in
    ap (λ (g : Given). record { pair = g.pair; bytes = d.bytes ++ g.bytes }) (ran_append only d.pair xs ys)
    ∙ ap (λ (l : List ℕ). record { pair = (ran only r.pair ys).pair; bytes = l }) (sym (append_assoc d.bytes r.bytes (ran only r.pair ys).bytes))

shut_in : (only : ℕ) (p : Pair) (x : Piece) → p.shut ≡ true → piece_in only p x ≡ still p
unfolding piece_in
shut_in only p x e = ap (λ (b : Bool). pick b (still p) (piece_done only p x)) e

open_in : (only : ℕ) (p : Pair) (x : Piece) → p.shut ≡ false → piece_in only p x ≡ piece_done only p x
unfolding piece_in
open_in only p x e = ap (λ (b : Bool). pick b (still p) (piece_done only p x)) e

-- behind a bad opening nothing is answered
pub ran_shut : (only : ℕ) (p : Pair) (xs : List Piece) → p.shut ≡ true → ran only p xs ≡ still p
ran_shut only p [] e = refl
ran_shut only p (x ∷ xs) e =
    ap (λ (g : Given). record { pair = (ran only g.pair xs).pair; bytes = g.bytes ++ (ran only g.pair xs).bytes }) (shut_in only p x e) ∙ ran_shut only p xs e

ran_one : (only : ℕ) (p : Pair) (x : Piece) → p.shut ≡ false → ran only p (x ∷ []) ≡ piece_done only p x
ran_one only p x e =
    ap (λ (g : Given). record { pair = g.pair; bytes = g.bytes ++ [] }) (open_in only p x e)
    ∙ ap (λ (l : List ℕ). record { pair = (piece_done only p x).pair; bytes = l }) (append-nil (piece_done only p x).bytes)

pub still_gave : (p : Pair) (out : List ℕ) → Gave (still p) out out p 0
still_gave p out = record { pair = refl; wrote = record { count = refl; sheet = refl } }

pub shut_gave : (only : ℕ) (p : Pair) (xs : List Piece) (out : List ℕ) → p.shut ≡ true → Gave (ran only p xs) out out p 0
shut_gave only p xs out e = subst (λ (g : Given). Gave g out out p 0) (sym (ran_shut only p xs e)) (still_gave p out)

-- ---- one piece

module _ (only : ℕ) (p : Pair) (due : Due) (lines : List ℕ) {out new : List ℕ} {q : Pair} {w : ℕ} (o : p.shut ≡ false) where
  one_gave : (x : Piece) → Gave (piece_done only p x) out new q w → Gave (ran only p (x ∷ [])) out new q w
  one_gave x g = subst (λ (y : Given). Gave y out new q w) (sym (ran_one only p x o)) g

  told : (what k : Option Made) → what ≡ k → Gave (ran only p (piece_of k due lines)) out new q w → Gave (ran only p (piece_of what due lines)) out new q w
  told what k e g = subst (λ (i : Option Made). Gave (ran only p (piece_of i due lines)) out new q w) (sym e) g

  pub whole_piece : {what : Option Made} → what ≡ Some made.Whole → Gave (whole_done only p due lines) out new q w → Gave (ran only p (piece_of what due lines)) out new q w
  whole_piece {what} e g = told what (Some made.Whole) e (one_gave (Whole due lines) g)

  pub cut_piece : {what : Option Made} → what ≡ Some made.Cut → Gave (answered only p due cut_lines) out new q w → Gave (ran only p (piece_of what due lines)) out new q w
  cut_piece {what} e g = told what (Some made.Cut) e (one_gave (Cut due) g)

  pub none_piece : {what : Option Made} → what ≡ Some made.OfNone → Gave (stray_done only p) out new q w → Gave (ran only p (piece_of what due lines)) out new q w
  none_piece {what} e g = told what (Some made.OfNone) e (one_gave OfNone g)

  pub missing_piece : {what : Option Made} → what ≡ Some made.Missing → Gave (refused p) out new q w → Gave (ran only p (piece_of what due lines)) out new q w
  missing_piece {what} e g = told what (Some made.Missing) e (one_gave Missing g)

pub no_piece : (only : ℕ) (p : Pair) (due : Due) (lines out : List ℕ) {what : Option Made} → what ≡ None → Gave (ran only p (piece_of what due lines)) out out p 0
no_piece only p due lines out {what} e = subst (λ (i : Option Made). Gave (ran only p (piece_of i due lines)) out out p 0) (sym e) (still_gave p out)

pub end_gave : (only : ℕ) (p : Pair) (due : Due) (what k : Option Made) {out new : List ℕ} {q : Pair} {w : ℕ} → what ≡ k → Gave (ran only p (piece_of what due [])) out new q w
    → Gave (ran only p (piece_of k due [])) out new q w
end_gave only p due what k {out} {new} {q} {w} e g = subst (λ (i : Option Made). Gave (ran only p (piece_of i due [])) out new q w) e g

-- ---- a part of the opening, or a block

block_is : (only : ℕ) (p : Pair) (lines : List ℕ) (d : Due) → (d ≡ due_as.Pool → ⊥) → ((t : Which) → d ≡ due_as.Sheet t → ⊥) → whole_done only p d lines ≡ answered only p d lines
unfolding whole_done
block_is only p lines due_as.Pool n m = absurd (n refl)
block_is only p lines (due_as.Sheet t) n m = absurd (m t refl)
block_is only p lines due_as.Table n m = refl
block_is only p lines due_as.Stray n m = refl
block_is only p lines (due_as.Block t) n m = refl

module _ (only : ℕ) (p : Pair) (due : Due) (lines : List ℕ) {out new : List ℕ} {q : Pair} {w : ℕ} where
  pub whole_pool : due ≡ due_as.Pool → Gave (pool_done p (line_number pool_key lines)) out new q w → Gave (whole_done only p due lines) out new q w
  unfolding whole_done
  whole_pool e g = subst (λ (x : Given). Gave x out new q w) (sym (ap (λ (d : Due). whole_done only p d lines) e)) g

  pub whole_sheet : {t : Which} → due ≡ due_as.Sheet t → Gave (sheet_done p due (sheet_of lines)) out new q w → Gave (whole_done only p due lines) out new q w
  unfolding whole_done
  whole_sheet {t} e g =
      subst (λ (x : Given). Gave x out new q w) (sym (ap (λ (d : Due). whole_done only p d lines) e))
      (subst (λ (d : Due). Gave (sheet_done p d (sheet_of lines)) out new q w) e g)

  pub whole_block : (due ≡ due_as.Pool → ⊥) → ((t : Which) → due ≡ due_as.Sheet t → ⊥) → Gave (answered only p due lines) out new q w → Gave (whole_done only p due lines) out new q w
  whole_block n m g = subst (λ (x : Given). Gave x out new q w) (sym (block_is only p lines due n m)) g

-- what was written lies within the sheet
pub within : {bs out new : List ℕ} {w : ℕ} → length new ≡ length out → Wrote bs out new w → w ≤ length out
within {bs} {out} {new} {w} e v = omega (arith, e, v.count, ap length v.sheet, length-append bs (drop (length bs) out), length-drop (length bs) out)

-- ---- a block at its table

module _ (only : ℕ) (p : Pair) (due : Due) (lines sheet : List ℕ) (g : Good p) {second : Bool} {t : Table} (b : second ≡ is_second due) (e : t ≡ table_at p.tables second)
    (room : length (bytes_at t p.pool lines) ≤ length sheet) {a : SharedAnswer} {sheet2 : List ℕ}
    (f : a ≡ shared_from t p.pool (judged_at t lines) (written_of (bytes_at t p.pool lines) sheet)) (h : sheet2 ≡ sheet_after (bytes_at t p.pool lines) sheet) where
  said_is : a ≡ said (judged_at t lines) (settled_at t p.pool (judged_at t lines)) (length (bytes_at t p.pool lines))
  said_is = f ∙ ap (λ (z : Bool). shared_from t p.pool (judged_at t lines) (pick z (Ok (length (bytes_at t p.pool lines))) (Err NoRoom))) (le-leb (length (bytes_at t p.pool lines)) (length sheet) room)

  sheet_is : sheet2 ≡ over (bytes_at t p.pool lines) sheet
  sheet_is = h ∙ ap (λ (z : Bool). pick z (over (bytes_at t p.pool lines) sheet) sheet) (le-leb (length (bytes_at t p.pool lines)) (length sheet) room)

  pub block_bytes : take (a.written - 0) (drop 0 sheet2) ≡ (bytes_at t p.pool lines)
  block_bytes =
      let n : a.written - 0 ≡ length (bytes_at t p.pool lines) = omega (arith, ap (λ (x : SharedAnswer). x.written) said_is) in
      ap (λ (i : ℕ). take i sheet2) n ∙ ap (take (length (bytes_at t p.pool lines))) sheet_is ∙ take-append_seam (bytes_at t p.pool lines) (drop (length (bytes_at t p.pool lines)) sheet)

  pub block_written : a.written ≤ length sheet
  block_written = omega (arith, room, ap (λ (x : SharedAnswer). x.written) said_is)

  t_is : t ≡ table_at p.tables (is_second due)
  t_is = e ∙ ap (table_at p.tables) b

  module _ {ts : List Table} {house w : ℕ} {out new : List ℕ} (c : ts ≡ with_table p.tables second a.table) (d : house ≡ house_with p.house a.house)
      (v : Wrote (shown_bytes only due (take (a.written - 0) (drop 0 sheet2))) out new w) where
    abbrev ours : Table → Given
    ours x =
        let i : Judged = judged_at x lines in
        let z : Settled = settled_at x p.pool i in
        record {
          pair = record { shut = p.shut; tables = with_table p.tables (is_second due) i.table; pool = z.pool; house = house_with p.house z.house };
          bytes = shown_bytes only due (bytes_at x p.pool lines);
        }

    pub block_gave : Gave (answered only p due lines) out new (record { shut = p.shut; tables = ts; pool = a.pool; house = house }) w
    block_gave =
        subst (λ (x : Table). Gave (ours x) out new (record { shut = p.shut; tables = ts; pool = a.pool; house = house }) w) t_is (record {
          pair =
              ap (λ (l : List Table). record { shut = p.shut; tables = l; pool = a.pool; house = house }) (c ∙ ap (λ (z : Bool). with_table p.tables z a.table) b)
              ∙ ap (λ (i : ℕ). record { shut = p.shut; tables = with_table p.tables (is_second due) a.table; pool = a.pool; house = i }) d
              ∙ ap (λ (x : SharedAnswer). record { shut = p.shut; tables = with_table p.tables (is_second due) x.table; pool = x.pool; house = house_with p.house x.house }) said_is;
          wrote = subst (λ (l : List ℕ). Wrote (shown_bytes only due l) out new w) block_bytes v;
        })

    pub block-good : Sound a.table → a.pool.held ≤ most → house ≤ most → Good (record { shut = p.shut; tables = ts; pool = a.pool; house = house })
    block-good x y z =
        subst (λ (l : List Table). Good (record { shut = p.shut; tables = l; pool = a.pool; house = house })) (sym c)
        (good_with p p.shut second a.table a.pool house g x y z)
