-- The checker's promises, for any numbers of rows and sittings.
--     accepts_iff     accepted exactly if all is within its bounds, every sitting is paid exactly its `paid`, and no row gives more than it holds
--     refused_iff     16 exactly if all is within its bounds and the one or the other fails
--     bounds_iff      2 exactly if something is out of its bounds
--     lowered_is      accepting lowers each row by just what is taken from it
--     refused_same    any other answer leaves each row as it was
-- Assumes nothing.
use Prim.Native.Nat.{ℕ, ◌-◌, ◌≤◌, ◌<◌}
use mathlib.Core.Path.{◌≡◌, refl, sym, ap, ◌∙◌}
use mathlib.Core.Bool.{Bool, true, false}
use mathlib.Core.Logic.{⊎_elim}
use mathlib.Core.List.{List}
use lib.Dec.{eqb, leb}
use lib.ListN.{length, get_or}
use borrow.Author.Tests.{leb-true, le-leb, eqb-true, eq-eqb, eqb-false}
use Rattle.laws.specs.Tests.{both, pick}
use Rattle.laws.proofs.Tests.{both_true, test}
use Rattle.tray.specs.Proposal.{accepted, refused, out_of_bounds, worth_given, taken_from, fits, pays_all, holds_all, judged, counts_after}
use Rattle.tray.proofs.Sums.{all_at, all_made}
use Rattle.tray.proofs.Front.{each_at}
use Rattle.tray.proofs.Within.{Within, within, without}
use Rattle.tray.proofs.Judging.{tests_of, tests_make, after_0, after_other}

module _ (ws cs paid p : List ℕ) where
  -- every sitting is paid exactly, and no row gives more than it holds
  pub record Exactly : Type 0 where
    pub paying : (s : ℕ) → s < length paid → worth_given ws p s ≡ get_or paid s 0
    pub holding : (i : ℕ) → i < length cs → taken_from (length cs) (length paid) p i ≤ get_or cs i 0

  exactly : both (pays_all ws paid p) (holds_all cs (length paid) p) ≡ true → Exactly
  unfolding pays_all holds_all
  exactly e =
      let q = both_true (pays_all ws paid p) (holds_all cs (length paid) p) e in
      record {
        paying = λ s l. eqb-true (worth_given ws p s) (get_or paid s 0) (all_at (length paid) (λ k. eqb (worth_given ws p k) (get_or paid k 0)) q.0 s l);
        holding = λ i l. leb-true (taken_from (length cs) (length paid) p i) (get_or cs i 0) (all_at (length cs) (λ k. leb (taken_from (length cs) (length paid) p k) (get_or cs k 0)) q.1 i l);
      }

  made : Exactly → both (pays_all ws paid p) (holds_all cs (length paid) p) ≡ true
  unfolding pays_all holds_all
  made h =
      ap (λ t. both t (holds_all cs (length paid) p)) (all_made (length paid) (λ k. eqb (worth_given ws p k) (get_or paid k 0)) (λ s l. eq-eqb (worth_given ws p s) (get_or paid s 0) (h.paying s l)))
      ∙ all_made (length cs) (λ k. leb (taken_from (length cs) (length paid) p k) (get_or cs k 0)) (λ i l. le-leb (taken_from (length cs) (length paid) p i) (get_or cs i 0) (h.holding i l))

  pub accepts : judged ws cs paid p ≡ accepted → Within ws cs (length paid) (length p) × Exactly
  accepts e = let t = tests_of ws cs paid p e in (within ws cs (length paid) (length p) t.0, exactly t.1)

  pub accepts_back : Within ws cs (length paid) (length p) → Exactly → judged ws cs paid p ≡ accepted
  accepts_back h x = tests_make ws cs paid p (without ws cs (length paid) (length p) h) (made x)

  pub accepts_iff : (judged ws cs paid p ≡ accepted → Within ws cs (length paid) (length p) × Exactly) × (Within ws cs (length paid) (length p) × Exactly → judged ws cs paid p ≡ accepted)
  accepts_iff = (accepts, λ h. accepts_back h.0 h.1)

  -- the answer by how the two tests came out
  sorts : (f t : Bool) → fits ws cs (length paid) (length p) ≡ f → both (pays_all ws paid p) (holds_all cs (length paid) p) ≡ t → judged ws cs paid p ≡ pick f (pick t accepted refused) out_of_bounds
  unfolding judged
  sorts f t e q = rw (e, q) refl

  pub refused_iff : (judged ws cs paid p ≡ refused → Within ws cs (length paid) (length p) × (Exactly → ⊥)) × (Within ws cs (length paid) (length p) × (Exactly → ⊥) → judged ws cs paid p ≡ refused)
  refused_iff = (there, λ h. back h.0 h.1)
    where
      there : judged ws cs paid p ≡ refused → Within ws cs (length paid) (length p) × (Exactly → ⊥)
      there e =
          ⊎_elim
          (λ y. (within ws cs (length paid) (length p) y, λ x. eqb-false 0 16 refl (sym (accepts_back (within ws cs (length paid) (length p) y) x) ∙ e)))
          (λ n. absurd (eqb-false 2 16 refl (sym (sorts false (both (pays_all ws paid p) (holds_all cs (length paid) p)) n refl) ∙ e)))
          (test (fits ws cs (length paid) (length p)))

      back : Within ws cs (length paid) (length p) → (Exactly → ⊥) → judged ws cs paid p ≡ refused
      back h x =
          ⊎_elim
          (λ y. absurd (x (exactly y)))
          (λ n. sorts true false (without ws cs (length paid) (length p) h) n)
          (test (both (pays_all ws paid p) (holds_all cs (length paid) p)))

  pub bounds_iff : (judged ws cs paid p ≡ out_of_bounds → Within ws cs (length paid) (length p) → ⊥) × ((Within ws cs (length paid) (length p) → ⊥) → judged ws cs paid p ≡ out_of_bounds)
  bounds_iff = (there, back)
    where
      there : judged ws cs paid p ≡ out_of_bounds → Within ws cs (length paid) (length p) → ⊥
      there e h =
          let f = without ws cs (length paid) (length p) h in
          ⊎_elim
          (λ y. eqb-false 0 2 refl (sym (sorts true true f y) ∙ e))
          (λ n. eqb-false 16 2 refl (sym (sorts true false f n) ∙ e))
          (test (both (pays_all ws paid p) (holds_all cs (length paid) p)))

      back : (Within ws cs (length paid) (length p) → ⊥) → judged ws cs paid p ≡ out_of_bounds
      back x =
          ⊎_elim
          (λ y. absurd (x (within ws cs (length paid) (length p) y)))
          (λ n. sorts false (both (pays_all ws paid p) (holds_all cs (length paid) p)) n refl)
          (test (fits ws cs (length paid) (length p)))

  pub lowered_is : judged ws cs paid p ≡ accepted → (i : ℕ) → i < length cs → get_or (counts_after (judged ws cs paid p) (length paid) p cs) i 0 ≡ get_or cs i 0 - taken_from (length cs) (length paid) p i
  lowered_is e i l =
      ap (λ k. get_or k i 0) (sym (after_0 (judged ws cs paid p) (length paid) p cs e))
      ∙ each_at 0 (λ j n. n - taken_from (length cs) (length paid) p j) cs i l

  pub refused_same : (judged ws cs paid p ≡ accepted → ⊥) → counts_after (judged ws cs paid p) (length paid) p cs ≡ cs
  refused_same h = sym (after_other (judged ws cs paid p) (length paid) p cs h)
