-- A block that was refused, or of a quiet kind, leaves the pots and the sum of returned heights as they are: what each sitting has put in, and which hands
-- are live, stay. For any chairs. Assumes nothing.
use mathlib.Core.Path.{◌≡◌, refl, sym, ap, subst, ◌∙◌}
use mathlib.Core.List.{List, [], ◌∷◌, map}
use mathlib.Core.Bool.{Bool, true, false, not, false≢true}
use mathlib.Core.Logic.{⊎_elim}
use Prim.Native.Nat.{ℕ, zero, suc, ◌+◌, ◌≤◌}
use lib.ListN.{length, get_or, set}
use lib.Dec.{eqb, leb}
use native.Mathlib.Omega.{arith}
use borrow.Author.Tests.{eqb-false}
use Rattle.std.specs.Prelude.{Result, Ok, Err}
use Rattle.paper.specs.declared.refusal.Refusal.TheVariants.{OutOfRange}
use Rattle.paper.specs.declared.refusal.Refusal.{Refusal}
use Rattle.laws.specs.Tests.{pick, either, one}
use Rattle.laws.proofs.Tests.{test}
use Rattle.blocks.specs.Entry.{entry_at, parsed_of}
use Rattle.blocks.specs.declared.Block.{Block}
use Rattle.blocks.specs.declared.Block.TheVariants.{Raw, Malformed, Nothing}
use Rattle.paper.specs.SheetAndEntries.{made, makes_entry}
use Rattle.paper.specs.declared.Entry.{Entry}
use Rattle.chairs.specs.Chairs.{column_of, chair_at, put_at, no_chair, sweep_of, seated_of, held_of, acted_of}
use Rattle.chairs.specs.declared.Chair.{Chair}
use Rattle.chairs.specs.Sweep.{Round}
use Rattle.chairs.specs.What.{What}
use Rattle.pots.specs.Heights.{mask_at, back_of}
use Rattle.pots.specs.Runs.{pots_of, padded}
use Rattle.pots.specs.declared.Stands.{Stands}
use Rattle.table.specs.State.{seat_of, with_card, with_taken}
use Rattle.table.specs.Sittings.{sat_to, left_to}
use Rattle.table.specs.Dealing.{held_to, boarded_to}
use Rattle.table.specs.Betting.{after_act, checked_to, new_round}
use Rattle.table.specs.Settle.{totals_of, lives_of, pots_now, back_now}
use Rattle.table.specs.Take.{code_of, applied_to, next_of}
use Rattle.table.specs.declared.table.Table.{Table}
use Rattle.writing.specs.AnswerSheet.{written_of, sheet_after}
use Rattle.answers.specs.declared.Shown.{Shown}
use Rattle.answers.specs.Answer.{answer_bytes}
use Rattle.desk.specs.declared.Judged.{Judged}
use Rattle.desk.specs.Desk.{shown_of, judge_parsed, judge_block, judged_bytes}
use Rattle.desk.specs.Quiet.{ShowsPots, quiet_kind, quiet_block, keeps_pots}
use Rattle.desk.proofs.Laws.{block_same, writes_none, keeps_all}
use Rattle.desk.proofs.Loud.{loud}
use Rattle.chairs.specs.What as what

-- what was put in and what is live is the same at both
abbrev Alike : List Chair → List Chair → Type 0
Alike ds cs = (map (column_of what.Total) ds ≡ map (column_of what.Total) cs) × (map (column_of what.Live) ds ≡ map (column_of what.Live) cs)

-- ---- one chair

column_set : (k : What) (cs : List Chair) (i : ℕ) (c : Chair) → column_of k c ≡ column_of k (get_or cs i no_chair) → map (column_of k) (set cs i c) ≡ map (column_of k) cs
column_set k [] i c e = refl
column_set k (x ∷ cs) zero c e = ap (λ (n : ℕ). n ∷ map (column_of k) cs) e
column_set k (x ∷ cs) (suc i) c e = ap (λ (l : List ℕ). column_of k x ∷ l) (column_set k cs i c e)

column_put : (k : What) (cs : List Chair) (s : ℕ) (c : Chair) → column_of k c ≡ column_of k (chair_at cs s) → map (column_of k) (put_at cs s c) ≡ map (column_of k) cs
column_put k cs zero c e = refl
column_put k cs (suc i) c e = column_set k cs i c e

put_alike : (cs : List Chair) (s : ℕ) (c : Chair) → c.dealt.total ≡ (chair_at cs s).dealt.total → c.dealt.live ≡ (chair_at cs s).dealt.live → Alike (put_at cs s c) cs
put_alike cs s c e f = (column_put what.Total cs s c e, column_put what.Live cs s c (ap one f))

-- ---- every chair, as a round opens

round_totals : (cs : List Chair) → map (column_of what.Total) (map (sweep_of Round) cs) ≡ map (column_of what.Total) cs
round_totals [] = refl
round_totals (c ∷ cs) = ap (λ (l : List ℕ). c.dealt.total ∷ l) (round_totals cs)

round_lives : (cs : List Chair) → map (column_of what.Live) (map (sweep_of Round) cs) ≡ map (column_of what.Live) cs
round_lives [] = refl
round_lives (c ∷ cs) = ap (λ (l : List ℕ). one c.dealt.live ∷ l) (round_lives cs)

-- ---- the quiet kinds

sat_alike : (t : Table) (s a : ℕ) → Alike (sat_to t s a).chairs t.chairs
unfolding sat_to
sat_alike t s a = put_alike t.chairs s (seated_of (seat_of t s) (t.sittings + 1) a) refl refl

left_alike : (t : Table) (s : ℕ) → Alike (left_to t s).chairs t.chairs
unfolding left_to
left_alike t s = put_alike t.chairs s (seated_of (seat_of t s) 0 0) refl refl

held_alike : (t : Table) (s a b : ℕ) → Alike (held_to t s a b).chairs t.chairs
unfolding held_to
held_alike t s a b = put_alike t.chairs s (held_of (seat_of t s) a b) refl refl

checked_alike : (t : Table) (s : ℕ) → Alike (checked_to t s).chairs t.chairs
unfolding checked_to after_act
checked_alike t s = put_alike t.chairs s (acted_of (seat_of t s)) refl refl

round_alike : (t : Table) → Alike (new_round t).chairs t.chairs
unfolding new_round
round_alike t = (round_totals t.chairs, round_lives t.chairs)

boarded_alike : (t : Table) (k : ℕ) → Alike (boarded_to t k).chairs t.chairs
unfolding boarded_to
boarded_alike t k = go (leb 3 (t.board.count + 1))
  where
    go : (b : Bool) → Alike (pick b (new_round (with_card t k)) (with_card t k)).chairs t.chairs
    go true = round_alike (with_card t k)
    go false = (refl, refl)

-- an entry of a quiet kind that is taken
at_alike : (t : Table) (k s a b : ℕ) → quiet_kind k ≡ true → Alike (applied_to t (entry_at k s a b)).chairs t.chairs
at_alike t zero s a b h = sat_alike t s a
at_alike t (suc zero) s a b h = left_alike t s
at_alike t (suc (suc zero)) s a b h = absurd (false≢true h)
at_alike t (suc (suc (suc zero))) s a b h = held_alike t s a b
at_alike t (suc (suc (suc (suc zero)))) s a b h = absurd (false≢true h)
at_alike t (suc (suc (suc (suc (suc zero))))) s a b h = checked_alike t s
at_alike t (suc (suc (suc (suc (suc (suc zero)))))) s a b h = absurd (false≢true h)
at_alike t (suc (suc (suc (suc (suc (suc (suc zero))))))) s a b h = absurd (false≢true h)
at_alike t (suc (suc (suc (suc (suc (suc (suc (suc zero)))))))) s a b h = boarded_alike t a
at_alike t (suc (suc (suc (suc (suc (suc (suc (suc (suc k))))))))) s a b h = absurd (false≢true (sym (loud (suc (suc (suc (suc (suc (suc (suc (suc (suc k))))))))) (omega arith)) ∙ h))

next_alike : (t : Table) (n : ℕ) (e : Entry) → Alike (applied_to t e).chairs t.chairs → Alike (next_of t n e).chairs t.chairs
unfolding next_of
next_alike t n e h = go (eqb (code_of t n e) 0)
  where
    go : (b : Bool) → Alike (pick b (with_taken (applied_to t e) n) t).chairs t.chairs
    go true = h
    go false = (refl, refl)

raw_alike : (t : Table) (n k s a b : ℕ) → quiet_kind k ≡ true → Alike (judge_parsed t n (parsed_of k s a b)).table.chairs t.chairs
unfolding parsed_of
raw_alike t n k s a b h = go (makes_entry (made k s a b))
  where
    go : (z : Bool) → Alike (judge_parsed t n (pick z (Ok (entry_at k s a b)) (Err OutOfRange))).table.chairs t.chairs
    go true = next_alike t n (entry_at k s a b) (at_alike t k s a b h)
    go false = (refl, refl)

block_alike : (t : Table) (b : Block) → quiet_block b ≡ true → Alike (judge_block t b).table.chairs t.chairs
block_alike t (Raw n k s a b) h = raw_alike t n k s a b h
block_alike t Malformed h = (refl, refl)
block_alike t Nothing h = (refl, refl)

-- ---- so the pots that are kept are those of the table after the block

live_same : (u t : Table) → Alike u.chairs t.chairs → lives_of t ≡ lives_of u
live_same u t e = ap (λ (l : List ℕ). mask_at l 1) (sym e.1)

pots_same : (u t : Table) → Alike u.chairs t.chairs → pots_now t ≡ pots_now u
unfolding pots_now
pots_same u t e = ap (λ (l : List ℕ). pots_of l (lives_of t)) (sym e.0) ∙ ap (pots_of (totals_of u)) (live_same u t e)

back_same : (u t : Table) → Alike u.chairs t.chairs → back_now t ≡ back_now u
unfolding back_now
back_same u t e = ap (λ (l : List ℕ). back_of l (lives_of t)) (sym e.0) ∙ ap (back_of (totals_of u)) (live_same u t e)

alike_shows : (u t : Table) {s : Stands} → Alike u.chairs t.chairs → ShowsPots t s → ShowsPots u s
alike_shows u t {s} e g =
    let p : pots_now t ≡ pots_now u = pots_same u t e in
    record {
      count = g.count ∙ ap length p;
      list = g.list ∙ ap (padded 9) p;
      few = g.few;
      back = g.back ∙ back_same u t e;
    }

pub kept_shows : (t : Table) (b : Block) {j : Judged} {s : Stands} → j ≡ judge_block t b → keeps_pots b j.code ≡ true → ShowsPots t s → ShowsPots j.table s
kept_shows t b {j} {s} e h g = ⊎_elim
    (λ z.
    let q : quiet_block b ≡ true = sym (ap (λ (x : Bool). either (not x) (quiet_block b)) z) ∙ h in
    subst (λ (x : Judged). ShowsPots x.table s) (sym e) (alike_shows (judge_block t b).table t (block_alike t b q) g))
    (λ z.
    let same : j.table ≡ t = ap (λ (x : Judged). x.table) e ∙ block_same t b (λ q. eqb-false j.code 0 z (ap (λ (x : Judged). x.code) e ∙ q)) in
    subst (λ (x : Table). ShowsPots x s) (sym same) g)
    (test (eqb j.code 0))

-- the pots that were looked for
pub now_shows : (t : Table) {s : Stands} → (s.pots.n ≡ length (pots_now t)) × (s.pots.list ≡ padded 9 (pots_now t)) × (s.pots.n ≤ 9) × (s.back ≡ back_now t) → ShowsPots t s
now_shows t k = record { count = k.0; list = k.1; few = k.2; back = k.3 }

-- ---- what is written, with the pots of the table after the block

pub none_written : (j : Judged) (sheet : List ℕ) → j.block ≡ false → (Ok 0 ≡ written_of (judged_bytes j) sheet) × (sheet ≡ sheet_after (judged_bytes j) sheet)
none_written j sheet o =
    let z : [] ≡ judged_bytes j = ap (λ (x : Bool). pick x (answer_bytes (shown_of j.n j.code j.table j.payout)) []) (sym o) in
    (sym (writes_none sheet) ∙ ap (λ (l : List ℕ). written_of l sheet) z, sym (keeps_all sheet) ∙ ap (λ (l : List ℕ). sheet_after l sheet) z)

pub shown_written : (j : Judged) (sheet : List ℕ) {s : Shown} {w : Result ℕ Refusal} {out : List ℕ} → j.block ≡ true → s ≡ shown_of j.n j.code j.table j.payout
    → w ≡ written_of (answer_bytes s) sheet → out ≡ sheet_after (answer_bytes s) sheet → (w ≡ written_of (judged_bytes j) sheet) × (out ≡ sheet_after (judged_bytes j) sheet)
shown_written j sheet {s} o q e f =
    let z : answer_bytes s ≡ judged_bytes j =
    ap answer_bytes q ∙ ap (λ (x : Bool). pick x (answer_bytes (shown_of j.n j.code j.table j.payout)) []) (sym o) in
    (e ∙ ap (λ (l : List ℕ). written_of l sheet) z, f ∙ ap (λ (l : List ℕ). sheet_after l sheet) z)
