-- The calls over a maker's arrays: a refusal changes nothing, and else the arrays hold what the stream's `start`, `feed` and `close` gave. Assumes nothing.
use Prim.Native.Nat.{ℕ, ◌-◌, ◌≤◌, ◌<◌}
use mathlib.Core.Path.{◌≡◌, refl, sym, ap, subst, ◌∙◌}
use mathlib.Core.List.{List, [], ◌∷◌, ◌++◌}
use native.Mathlib.Omega.{arith}
use native.Mathlib.Nat.{not-suc-le-zero}
use lib.ListN.{length, take, drop, set}
use lib.Seq.{drop-append_seam, length-take-le}
use borrow.Rule.Slice.PartMut.{put_mid}
use Rattle.text.proofs.Parts.{part_back}
use Rattle.writing.specs.AnswerSheet.{Wrote}
use Rattle.stream.specs.declared.Clerk.{Clerk}
use Rattle.stream.specs.declared.Fed.{Fed}
use Rattle.stream.specs.Onward.{closing}
use Rattle.stream.specs.Feeding.{state_of, kept_by, Held, start_of, Gave, heard_of, FedOn, used_of, buffer_of}
use Rattle.stream.specs.Parts.{called_of, call_of}
use Rattle.packed.specs.Layout.{fields_size, clerk_bytes, clerk_from}
use Rattle.embed.specs.Lent.{state_size, buffer_in, KeptState, start_code, call_code, StartedIn, call_in, used_in, CalledIn, FedIn, closing_in, ClosedIn}

-- ---- the start

pub start_refused : (state : List ℕ) {r : ℕ} → r ≡ start_code (length state) → (r ≡ 0 → ⊥) → (state_size ≤ length state → r ≡ 0) → StartedIn state state r
start_refused state e n room = record {
  code = e;
  refused = λ _. refl;
  done = λ z. absurd (n z);
  back = λ z. absurd (n z);
  kept = record { held = λ h. absurd (n (room h)) };
}

pub started : (state : List ℕ) {c : Clerk} {new : List ℕ} {r : ℕ} → r ≡ start_code (length state) → r ≡ 0 → (c ≡ start_of) × Held c
    → new ≡ clerk_bytes c ++ drop fields_size state → clerk_from new ≡ c → StartedIn state new r
started state {c} {new} e z s n b = record {
  code = e;
  refused = λ x. absurd (x z);
  done = λ _. n ∙ ap (λ (d : Clerk). clerk_bytes d ++ drop fields_size state) s.0;
  back = λ _. b ∙ s.0;
  kept = record { held = λ _. subst Held (sym b) s.1 };
}

-- ---- a part

module _ (state part out : List ℕ) {buf2 out2 : List ℕ} {f : Fed} (h : FedOn (length out) (clerk_from state) (buffer_in state) part out buf2 out2 f)
    (u : f.used ≡ used_in state part (length out)) where
  -- up to where the call went
  call_gave : Gave (clerk_from state).table (called_of (length out) (clerk_from state) (buffer_in state) part) out out2 f.clerk f.written f.short
  call_gave =
      subst
      (λ (n : ℕ). Gave (clerk_from state).table (heard_of (length out) (clerk_from state) (buffer_in state) part n) out out2 f.clerk f.written f.short) u
      h.gave

  call_clerk : f.clerk ≡ (call_in state part (length out)).clerk
  unfolding call_of
  call_clerk = call_gave.clerk

  call_wrote : Wrote (call_in state part (length out)).given.bytes out out2 f.written
  unfolding call_of
  call_wrote = call_gave.wrote

  call_buffer : buf2 ≡ buffer_of (clerk_from state) (buffer_in state) part (length out) → buf2 ≡ (call_in state part (length out)).buf
  unfolding call_of
  call_buffer e = e

behind : (state buf2 : List ℕ) → fields_size ≤ length state → drop fields_size (take fields_size state ++ buf2) ≡ buf2
behind state buf2 h =
    ap (λ (n : ℕ). drop n (take fields_size state ++ buf2)) (sym (length-take-le fields_size state h)) ∙ drop-append_seam (take fields_size state) buf2

pub called : (state part out : List ℕ) {c : Clerk} {buf buf2 out2 state1 state2 : List ℕ} {f : Fed} → c ≡ clerk_from state → buf ≡ buffer_in state
    → fields_size ≤ length state → FedOn (length out) c buf part out buf2 out2 f → (f.used ≡ used_of c buf part (length out)) × (buf2 ≡ buffer_of c buf part (length out))
    → Held f.clerk × (f.used ≤ length part) × (0 < length part → 0 < f.used) × (f.written ≤ length out)
    → state1 ≡ put_mid fields_size (length state - fields_size) state buf2
    → (state2 ≡ clerk_bytes f.clerk ++ drop fields_size state1) × (clerk_from state2 ≡ f.clerk) → CalledIn state part out state2 out2 f.used f.written
called state part out {c} {buf} {buf2} {out2} {state1} {state2} {f} ec eb l h u w s p =
    let h2 : FedOn (length out) (clerk_from state) (buffer_in state) part out buf2 out2 f =
    subst (λ (b : List ℕ). FedOn (length out) (clerk_from state) b part out buf2 out2 f) eb (subst (λ (x : Clerk). FedOn (length out) x buf part out buf2 out2 f) ec h) in
    let u2 : f.used ≡ used_in state part (length out) =
    u.0 ∙ ap (λ (x : Clerk). used_of x buf part (length out)) ec ∙ ap (λ (b : List ℕ). used_of (clerk_from state) b part (length out)) eb in
    let b2 : buf2 ≡ buffer_of (clerk_from state) (buffer_in state) part (length out) =
    u.1 ∙ ap (λ (x : Clerk). buffer_of x buf part (length out)) ec ∙ ap (λ (b : List ℕ). buffer_of (clerk_from state) b part (length out)) eb in
    let d2 : f.clerk ≡ (call_in state part (length out)).clerk = call_clerk state part out h2 u2 in
    record {
      uses = u2;
      wrote = call_wrote state part out h2 u2;
      leaves =
          p.0 ∙ ap (λ (d : Clerk). clerk_bytes d ++ drop fields_size state1) d2
          ∙ ap (λ (b : List ℕ). clerk_bytes (call_in state part (length out)).clerk ++ b) (ap (drop fields_size) (s ∙ part_back fields_size state buf2) ∙ behind state buf2 l ∙ call_buffer state part out h2 u2 b2);
      back = p.1 ∙ d2;
      held = subst Held d2 w.0;
      within = (w.1, w.2, w.3);
    }

set_one : (l : List ℕ) (a : ℕ) → 1 ≤ length l → set l 0 a ≡ a ∷ drop 1 l
set_one [] a h = absurd (not-suc-le-zero h)
set_one (x ∷ l) a h = refl

set_two : (l : List ℕ) (a b : ℕ) → 2 ≤ length l → set (set l 0 a) 1 b ≡ a ∷ b ∷ drop 2 l
set_two [] a b h = absurd (not-suc-le-zero h)
set_two (x ∷ []) a b h = absurd (few h)
  where
    few : 2 ≤ 1 → ⊥
    few k = omega (arith, k)
set_two (x ∷ y ∷ l) a b h = refl

pub fed_refused : (state part out counts : List ℕ) {r : ℕ} → r ≡ call_code (length state) (length out) (length counts) 2 → (r ≡ 0 → ⊥) → KeptState state
    → FedIn state part out counts state out counts r
fed_refused state part out counts e n k = record {
  code = e;
  refused = λ _. (refl, refl, refl);
  called = λ z. absurd (n z);
  counted = λ z. absurd (n z);
  kept = k;
}

pub fed_done : (state part out counts : List ℕ) {state2 out2 : List ℕ} {u w r : ℕ} → r ≡ call_code (length state) (length out) (length counts) 2 → r ≡ 0
    → 2 ≤ length counts → CalledIn state part out state2 out2 u w → FedIn state part out counts state2 out2 (set (set counts 0 w) 1 u) r
fed_done state part out counts {state2} {out2} {u} {w} e z l h = record {
  code = e;
  refused = λ x. absurd (x z);
  called =
      λ _. subst (λ (n : ℕ). CalledIn state part out state2 out2 n (length (call_in state part (length out)).given.bytes)) h.uses
      (subst (λ (n : ℕ). CalledIn state part out state2 out2 u n) h.wrote.count h);
  counted =
      λ _. set_two counts w u l ∙ ap (λ (n : ℕ). n ∷ u ∷ drop 2 counts) h.wrote.count
      ∙ ap (λ (n : ℕ). length (call_in state part (length out)).given.bytes ∷ n ∷ drop 2 counts) h.uses;
  kept = record { held = λ _. subst Held (sym h.back) h.held };
}

-- ---- the close

pub closed_by : (state out : List ℕ) {c : Clerk} {buf out2 : List ℕ} {r : ℕ} → c ≡ clerk_from state → buf ≡ buffer_in state
    → Wrote (closing (length out) (state_of c) (kept_by c buf)).bytes out out2 r → Wrote (closing_in state (length out)) out out2 r
closed_by state out {c} {buf} {out2} {r} ec eb w =
    subst (λ (b : List ℕ). Wrote (closing (length out) (state_of (clerk_from state)) (kept_by (clerk_from state) b)).bytes out out2 r) eb
    (subst (λ (x : Clerk). Wrote (closing (length out) (state_of x) (kept_by x buf)).bytes out out2 r) ec w)

pub close_refused : (state out counts : List ℕ) {r : ℕ} → r ≡ call_code (length state) (length out) (length counts) 1 → (r ≡ 0 → ⊥)
    → ClosedIn state out counts out counts r
close_refused state out counts e n = record {
  code = e;
  refused = λ _. (refl, refl);
  wrote = λ z. absurd (n z);
  counted = λ z. absurd (n z);
}

pub close_done : (state out counts : List ℕ) {out2 : List ℕ} {n r : ℕ} → r ≡ call_code (length state) (length out) (length counts) 1 → r ≡ 0 → 1 ≤ length counts
    → Wrote (closing_in state (length out)) out out2 n → ClosedIn state out counts out2 (set counts 0 n) r
close_done state out counts {out2} {n} e z l w = record {
  code = e;
  refused = λ x. absurd (x z);
  wrote = λ _. w.sheet;
  counted = λ _. set_one counts n l ∙ ap (λ (k : ℕ). k ∷ drop 1 counts) w.count;
}
