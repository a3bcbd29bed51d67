-- A well-formed block that lies whole at the front of a part is answered where it lies as it would be by way of the buffer. Assumes nothing.
use mathlib.Core.Path.{◌≡◌, refl, sym, ap, subst, ◌∙◌}
use mathlib.Core.Bool.{Bool, true, false}
use mathlib.Core.Logic.{⊎_elim}
use mathlib.Core.List.{List, [], ◌∷◌, ◌++◌, append-nil}
use Prim.Native.Nat.{ℕ, ◌≤◌, ◌<◌}
use native.Mathlib.Omega.{arith}
use lib.Dec.{eqb, leb}
use lib.ListN.{length, drop}
use borrow.Author.Tests.{eqb-true, eqb-false, le-ltb, leb-true, leb-false}
use Rattle.laws.specs.Tests.{pick, both}
use Rattle.laws.proofs.Tests.{both_true, test}
use Rattle.laws.proofs.Sums.{le_or_lt}
use Rattle.text.specs.Number.{number_of, well_formed}
use Rattle.text.specs.Line.{after_line, line_number, after_lines}
use Rattle.text.specs.TableSheet.{is_value}
use Rattle.writing.specs.AnswerSheet.{Wrote}
use Rattle.lines.proofs.Whole.{value_open}
use Rattle.cuts.proofs.Lines.{lfs, keep_all, keep_append, snoc, lfs_lf, lfs_on, kept_lines, ended, lfs_append, lfs_after, lines_lfs, lines_last}
use Rattle.rounds.specs.RoundText.{keys, readings, all_values, good_form, numbers_of, judged_of}
use Rattle.rounds.specs.RoundAnswer.{outcome_bytes, answer_bytes}
use Rattle.rounds.specs.RoundParts.{Kept, nothing, keep_of, Gathered, gather_of, state_of, kept_after, bytes_after}
use Rattle.banked.specs.Rounds.{Outcome}
use Rattle.rounds.specs.declared.parts.Fill.{Fill}
use Rattle.rounds.proofs.Lengths.{answer_good}
use Rattle.rounds.proofs.Whole.{kept_cut, ended_answer, last_lf}

-- ---- a block of good form has an LF for each of its lines

ended_some : (l : List ℕ) → ended l ≡ true → 1 ≤ lfs l
ended_some [] e = absurd (eqb-false 1 0 refl (ap (λ (t : Bool). pick t 0 1) e))
ended_some (b ∷ l) e = ⊎_elim
    (λ f. omega (arith, lfs_lf b l f))
    (λ f. omega (arith, lfs_on b l f, ended_some l (sym (ap (λ (t : Bool). pick t true (ended l)) f) ∙ e)))
    (test (eqb b 10))

number_some : (key l : List ℕ) → is_value (line_number key l) ≡ true → 1 ≤ lfs l
unfolding number_of well_formed
number_some key l v = ⊎_elim
    (λ e. ended_some l e)
    (λ e. absurd (eqb-false 1 0 refl (ap (λ (t : Bool). pick t 0 1) (sym (ap (λ (x : List ℕ). is_value (number_of x)) (value_open key l e)) ∙ v))))
    (test (ended l))

values_lfs : (ks : List (List ℕ)) (l : List ℕ) → all_values (readings ks l) ≡ true → length ks ≤ lfs l
unfolding readings
values_lfs [] l e = omega arith
values_lfs (k ∷ ks) l e =
    let p = both_true (is_value (line_number k l)) (all_values (readings ks (after_line l))) e in
    let s = number_some k l p.0 in
    omega (arith, s, lfs_after l s, values_lfs ks (after_line l) p.1)

-- ---- what is gathered where sixteen LFs are there

pub record Took (log : List ℕ) (g : Gathered) : Type 0 where
  pub lines : 16 ≤ g.kept.lines
  pub answer : answer_bytes g.kept.bytes ≡ answer_bytes log
  pub left : g.left ≡ after_lines 16 log

gathers : (raw part : List ℕ) → lfs raw < 16 → 16 ≤ lfs (raw ++ part) → Took (raw ++ part) (gather_of (keep_all nothing raw) part)
gathers raw [] h w = absurd (omega (arith, ap lfs (append-nil raw)))
gathers raw (b ∷ bs) h w =
    let one : keep_all nothing (raw ++ (b ∷ [])) ≡ keep_of (keep_all nothing raw) b = keep_append nothing raw (b ∷ []) in
    subst
    (λ (k : Kept). Took (raw ++ (b ∷ bs)) (pick (leb 16 k.lines) (record { kept = k; left = bs }) (gather_of k bs)))
    one
    (go (leb 16 (keep_all nothing (raw ++ (b ∷ []))).lines) refl (λ few. gathers (raw ++ (b ∷ [])) bs few (rw (snoc raw bs b) w)))
  where
    go : (t : Bool) → leb 16 (keep_all nothing (raw ++ (b ∷ []))).lines ≡ t
        → (lfs (raw ++ (b ∷ [])) < 16 → Took ((raw ++ (b ∷ [])) ++ bs) (gather_of (keep_all nothing (raw ++ (b ∷ []))) bs))
        → Took (raw ++ (b ∷ bs)) (pick t (record { kept = keep_all nothing (raw ++ (b ∷ [])); left = bs }) (gather_of (keep_all nothing (raw ++ (b ∷ []))) bs))
    go true e r =
        let m = leb-true 16 (keep_all nothing (raw ++ (b ∷ []))).lines e in
        let all : 16 ≤ lfs (raw ++ (b ∷ [])) = omega (arith, m, kept_lines nothing (raw ++ (b ∷ []))) in
        let lf : eqb b 10 ≡ true = last_lf raw b h all in
        let but-one : lfs raw ≡ 15 = omega (arith, lfs_append raw (b ∷ []), lfs_lf b [] lf) in
        record {
          lines = m;
          answer = ap answer_bytes (kept_cut (raw ++ (b ∷ []))) ∙ ended_answer raw bs b all;
          left = sym (lines_last 15 b raw bs lf but-one);
        }
    go false e r =
        subst (λ (l : List ℕ). Took l (gather_of (keep_all nothing (raw ++ (b ∷ []))) bs)) (snoc raw bs b)
        (r (omega (arith, kept_lines nothing (raw ++ (b ∷ [])), leb-false 16 (keep_all nothing (raw ++ (b ∷ []))).lines e)))

-- ---- a feed that answers a block where it lies

module _ (m : Fill) (buf part : List ℕ) (e : both (eqb m.count 0) (both (eqb m.lines 0) (eqb m.width 0)) ≡ true)
    (good : good_form part ≡ true) where
  none_kept : state_of m buf ≡ nothing
  none_kept =
      let p = both_true (eqb m.count 0) (both (eqb m.lines 0) (eqb m.width 0)) e in
      let q = both_true (eqb m.lines 0) (eqb m.width 0) p.1 in
      rw (eqb-true m.count 0 p.0, eqb-true m.lines 0 q.0, eqb-true m.width 0 q.1)

  took : Took part (gather_of (state_of m buf) part)
  unfolding good_form
  took = rw none_kept (gathers [] part (omega arith) (values_lfs keys part good))

  pub here_left : (used : ℕ) → drop used part ≡ after_lines 16 part → drop used part ≡ (gather_of (state_of m buf) part).left
  here_left used u = u ∙ sym took.left

  pub here_kept : (z : Fill) → z.count ≡ 0 → z.lines ≡ 0 → z.width ≡ 0 → state_of z buf ≡ kept_after (gather_of (state_of m buf) part).kept
  here_kept z c l w = rw (le-ltb (gather_of (state_of m buf) part).kept.lines 16 took.lines, c, l, w)

  pub here_wrote : {out out2 ns : List ℕ} {o : Outcome} {w : ℕ} → ns ≡ numbers_of part → o ≡ judged_of ns → Wrote (outcome_bytes o) out out2 w
      → Wrote (bytes_after (gather_of (state_of m buf) part).kept) out out2 w
  here_wrote n o p = rw (le-ltb (gather_of (state_of m buf) part).kept.lines 16 took.lines, took.answer, answer_good part good n o) p

-- sixteen LFs are not used up by nothing
pub here_used : (part : List ℕ) (used : ℕ) → good_form part ≡ true → drop used part ≡ after_lines 16 part → 0 < used
unfolding good_form
here_used part used good u = ⊎_elim
    (λ z. let n : used ≡ 0 = omega arith in
    let s : lfs part ≡ lfs (after_lines 16 part) = ap (λ (k : ℕ). lfs (drop k part)) (sym n) ∙ ap lfs u in
    absurd (omega (arith, s, lines_lfs 16 part (values_lfs keys part good))))
    (λ s. s)
    (le_or_lt used 0)
