-- Demand 3 at settlement, by sitting: payments, commission, drop and unclaimed chips make up all that was put in; no sitting is paid more than the sum of
-- min(its total, theirs); and what the table shows as returned is what the clerk finds. For every sheet and every list of taken entries. Assumes nothing.
use Prim.Native.Nat.{ℕ, suc, ◌+◌, ◌≤◌, ◌<◌, max}
use mathlib.Core.Bool.{Bool, true, false}
use mathlib.Core.Path.{◌≡◌, refl, sym, ap, ◌∙◌}
use mathlib.Core.List.{List, [], ◌∷◌, map}
use native.Mathlib.Omega.{arith}
use lib.Dec.{eqb}
use lib.ListN.{length, get_or}
use borrow.Author.Tests.{eqb-true, eq-eqb}
use Rattle.laws.specs.Tests.{pick, one}
use Rattle.laws.specs.Lists.{sum_of, max_of}
use Rattle.paper.specs.Paper.{is_sheet}
use Rattle.paper.specs.declared.Sheet.{Sheet}
use Rattle.paper.specs.declared.Entry.{Entry}
use Rattle.paper.specs.declared.Entry.TheVariants.{Settle}
use Rattle.pots.specs.Heights.{chips_at, chips_over, over, live_of, back_at, back_of, mask_at}
use Rattle.pots.proofs.Chips.{over_same, chips_none, chips_cons, chips_all}
use Rattle.pots.proofs.Counts.{same_contested, max_same}
use Rattle.pots.proofs.Drops.{drop_lone}
use Rattle.history.proofs.AsNoted.{reached as as_reached}
use Rattle.pots.specs.Runs.{pots_of}
use Rattle.pots.specs.Hand.{reach}
use Rattle.chairs.specs.Chairs.{no_chair, chair_at, column_of}
use Rattle.chairs.specs.declared.Chair.{Chair}
use Rattle.table.specs.Settle.{totals_of, lives_of, commission_of, payout_now, back_now}
use Rattle.table.specs.Take.{code_of, payout_of}
use Rattle.history.specs.History.{run, AllTaken, note_of, sittings_to, put_in, live_in, puts, clerk_back}
use Rattle.table.specs.declared.table.Table.{Table}
use Rattle.chairs.proofs.Over.{sum_over, keyed_at}
use Rattle.history.proofs.Told.{dealer, deals}
use Rattle.history.proofs.Clerk.{after}
use Rattle.table.proofs.Closing.{col_at}
use Rattle.history.proofs.BySitting.{totals_told, stakes_told}
use Rattle.history.proofs.Demand.{settle_all, paid_reach}
use Rattle.mission.specs.Settled.{paid_to, settles}
use Rattle.chairs.specs.What as what

-- ---- lists of totals with the same chips at every height
module _ (ts us : List ℕ) (same : (h : ℕ) → 1 ≤ h → chips_at ts h ≡ chips_at us h) where
  sums_same : sum_of ts ≡ sum_of us
  sums_same =
      let n = max (max_of ts) (max_of us) in
      sym (chips_all ts n (omega arith)) ∙ over_same (chips_at ts) (chips_at us) 0 n (λ k a b. same k (omega arith)) ∙ chips_all us n (omega arith)

reach_is : (ts : List ℕ) (x : ℕ) → chips_over ts 0 x ≡ reach ts x
unfolding reach sum_of
reach_is [] x = chips_none 0 x
reach_is (t ∷ ts) x = omega (arith, chips_cons t ts 0 x, reach_is ts x)

reach_same : (ts us : List ℕ) → ((h : ℕ) → 1 ≤ h → chips_at ts h ≡ chips_at us h) → (x : ℕ) → reach ts x ≡ reach us x
reach_same ts us same x = sym (reach_is ts x) ∙ over_same (chips_at ts) (chips_at us) 0 x (λ k a b. same k (omega arith)) ∙ reach_is us x

back_same : (ts us : List ℕ) (lv mv : ℕ) → ((h : ℕ) → 1 ≤ h → chips_at ts h ≡ chips_at us h) → ((h : ℕ) → 1 ≤ h → chips_at (live_of ts lv) h ≡ chips_at (live_of us mv) h)
    → back_of ts lv ≡ back_of us mv
unfolding back_of back_at
back_same ts us lv mv chips lives =
    let m : max_of ts ≡ max_of us = omega (arith, max_same ts us lv mv chips lives, max_same us ts mv lv (λ h p. sym (chips h p)) (λ h p. sym (lives h p))) in
    over_same (back_at ts lv) (back_at us mv) 0 (max_of ts) (λ k a b. rw (same_contested ts us lv mv chips lives k (omega arith), chips k (omega arith)))
    ∙ ap (over (back_at us mv) 0) m

-- the live ones of the first k sittings, as a mask
abbrev marks : Sheet → List Entry → ℕ → ℕ
marks sheet es k = mask_at (map (λ s. one (live_in sheet es s)) (sittings_to k)) 1

-- ---- what one sitting is paid, where it was dealt in at one seat at most

module _ (s : ℕ) where
  pub none_paid : (cs : List Chair) (ps : List ℕ) → sum_over (deals s) cs ≡ 0 → paid_to (map (column_of what.Sitting) cs) ps s ≡ 0
  unfolding paid_to
  none_paid [] ps h = refl
  none_paid (c ∷ cs) [] h = refl
  none_paid (c ∷ cs) (p ∷ ps) h = go (eqb (dealer c) s) h (none_paid cs ps)
    where
      go : (b : Bool) → pick b 1 0 + sum_over (deals s) cs ≡ 0 → (sum_over (deals s) cs ≡ 0 → paid_to (map (column_of what.Sitting) cs) ps s ≡ 0)
          → pick b p 0 + paid_to (map (column_of what.Sitting) cs) ps s ≡ 0
      go true q r = absurd (omega arith)
      go false q r = omega (arith, r (omega arith))

  one_paid : (cs : List Chair) (ps : List ℕ) (most : ℕ) → sum_over (deals s) cs ≤ 1
      → ((i : ℕ) → i < length cs → eqb (dealer (get_or cs i no_chair)) s ≡ true → get_or ps i 0 ≤ most) → paid_to (map (column_of what.Sitting) cs) ps s ≤ most
  unfolding paid_to
  one_paid [] ps most o h = omega arith
  one_paid (c ∷ cs) [] most o h = omega arith
  one_paid (c ∷ cs) (p ∷ ps) most o h = go (eqb (dealer c) s) refl o (one_paid cs ps most)
    where
      go : (b : Bool) → eqb (dealer c) s ≡ b → pick b 1 0 + sum_over (deals s) cs ≤ 1
          → (sum_over (deals s) cs ≤ 1 → ((i : ℕ) → i < length cs → eqb (dealer (get_or cs i no_chair)) s ≡ true → get_or ps i 0 ≤ most) → paid_to (map (column_of what.Sitting) cs) ps s ≤ most)
          → pick b p 0 + paid_to (map (column_of what.Sitting) cs) ps s ≤ most
      go true e q r = omega (arith, none_paid cs ps (omega arith), h 0 (omega arith) e)
      go false e q r = omega (arith, r (omega arith) (λ i l f. h (suc i) (omega arith) f))

-- ---- the theorems

module _ (sheet : Sheet) (ok : is_sheet sheet ≡ true) (es : List Entry) (taken : AllTaken sheet es) where
  -- at every height lie as many chips as the entries tell by sitting
  told_chips : (h : ℕ) → 1 ≤ h → chips_at (totals_of (run sheet es)) h ≡ chips_at (puts sheet es) h
  told_chips h p =
      let a = after sheet ok es taken in
      totals_told (run sheet es).sittings (note_of sheet es) (run sheet es) a.told h p
      ∙ ap (λ (k : ℕ). chips_at (map (put_in sheet es) (sittings_to k)) h) a.count

  -- what the table shows as returned is what the clerk finds
  pub clerks_back : back_now (run sheet es) ≡ clerk_back sheet es
  unfolding clerk_back back_now
  clerks_back =
      let t = run sheet es in
      let a = after sheet ok es taken in
      back_same (totals_of t) (map (put_in sheet es) (sittings_to t.sittings)) (lives_of t) (marks sheet es t.sittings)
      (totals_told t.sittings (note_of sheet es) t a.told) (stakes_told t.sittings (note_of sheet es) t a.told)
      ∙ ap (λ (k : ℕ). back_of (map (put_in sheet es) (sittings_to k)) (marks sheet es k)) a.count

module _ (sheet : Sheet) (ok : is_sheet sheet ≡ true) (es : List Entry) (taken : AllTaken sheet (Settle ∷ es)) where
  abbrev now : Table
  now = run sheet es

  pub paying : settles sheet es ≡ payout_now now
  unfolding payout_of
  paying = rw (eq-eqb (code_of now (length es + 1) Settle) 0 taken.0)

  -- payments, commission, drop and unclaimed chips make up all that was put in
  pub settle_whole : sum_of (settles sheet es).paid + (settles sheet es).fee + (settles sheet es).drop + (settles sheet es).unclaimed ≡ sum_of (puts sheet es)
  settle_whole = rw paying (settle_all now (after sheet ok es taken.1).sound.payable ∙ sums_same (totals_of now) (puts sheet es) (told_chips sheet ok es taken.1))

  -- a table whose sheet has no drop, as every lone table's (desk, `opened_lone`), drops nothing
  pub settle_lone : sheet.drop ≡ 0 → (settles sheet es).drop ≡ 0
  unfolding payout_now
  settle_lone e =
      rw paying (drop_lone (commission_of now) (pots_of (totals_of now) (lives_of now)) (ap (λ (z : Sheet). z.drop) (as_reached sheet ok es taken.1).rules ∙ e))

  -- no sitting is paid more than the sum of min(its total, theirs) over the sittings in the hand
  pub settle_reach : (s : ℕ) → 0 < s → paid_to (settles sheet es).sittings (settles sheet es).paid s ≤ reach (puts sheet es) (put_in sheet es s)
  unfolding payout_now
  settle_reach s z =
      let a = after sheet ok es taken.1 in
      let cs = now.chairs in
      rw paying (one_paid s cs (payout_now now).paid (reach (puts sheet es) (put_in sheet es s)) (a.told.seated.once s z)
      (λ i l e.
      let there : chair_at cs (suc i) ≡ no_chair → ⊥ = λ q. omega (arith, eqb-true (dealer (get_or cs i no_chair)) s e, ap dealer q) in
      let put : put_in sheet es s ≡ get_or (totals_of now) i 0 =
      a.told.notes.put s z ∙ keyed_at dealer s (λ (c : Chair). c.dealt.total) cs (suc i) e there (a.told.seated.once s z) ∙ sym (col_at (column_of what.Total) cs i l) in
      let r = reach_same (totals_of now) (puts sheet es) (told_chips sheet ok es taken.1) (put_in sheet es s) in
      omega (arith, paid_reach now i a.sound.standing.size a.sound.payable.puck (omega (arith, a.sound.standing.size)), ap (reach (totals_of now)) put, r)))
