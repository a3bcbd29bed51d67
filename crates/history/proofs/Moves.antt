-- Demand 3, entry by entry: a call or wager changes no height outside a+1 to b; a fold or dead hand moves no chip; sitting or leaving changes no pot. Over the
-- notebook, for every sheet, every list of entries and any number of sittings. Assumes nothing.
use Prim.Native.Nat.{ℕ, ◌+◌, ◌-◌, ◌*◌, ◌/◌, ◌%◌, ◌≤◌, ◌<◌}
use mathlib.Core.Bool.{Bool, true, false}
use mathlib.Core.Path.{◌≡◌, refl, sym, ap, ap₂, ◌∙◌, subst}
use mathlib.Core.List.{List, [], ◌∷◌, map}
use mathlib.Core.Logic.{◌⊎◌, ⊎_elim}
use native.Mathlib.Omega.{arith}
use lib.Dec.{eqb, leb}
use borrow.Author.Tests.{eqb-true, eqb-false}
use Rattle.laws.specs.Tests.{pick, one}
use Rattle.laws.proofs.Tests.{test}
use Rattle.paper.specs.declared.Sheet.{Sheet}
use Rattle.paper.specs.declared.Entry.{Entry}
use Rattle.paper.specs.declared.Entry.TheVariants.{Sit, Leave, Hand, Hole, Fold, Check, Call, Wager, Board, Dead, Settle, Void}
use Rattle.pots.specs.Heights.{has, chips_at, live_of, mask_at, contenders, contested, contest}
use Rattle.pots.proofs.Contest.{has_one, has_none}
use Rattle.history.specs.History.{put_in, live_in, sits, sittings_to, lives}
use Rattle.history.specs.Moves.{SameHeight, sitter, Lifts, SameChips, SameHand, Moves}
use Rattle.history.specs.Notebook.{Part, given_up, has_acted, holds, owes_again, Notebook, with_hand, with_play, every_part, full_lift, mark_to, notebook, pays, betting, marking, pots_by, back_by}
use Rattle.history.proofs.Kept.{but_here, but_other}
use Rattle.history.proofs.Clerk.{either_way}

-- ---- totals that are alike at a height
module _ (f g : ℕ → ℕ) (h : ℕ) (same : (s : ℕ) → has (f s) h ≡ has (g s) h) where
  chips_as : (xs : List ℕ) → chips_at (map f xs) h ≡ chips_at (map g xs) h
  unfolding chips_at
  chips_as [] = refl
  chips_as (x ∷ xs) = ap₂ ◌+◌ (same x) (chips_as xs)

  part_as : (b : Bool) (x : ℕ) → has (pick b (f x) 0) h ≡ has (pick b (g x) 0) h
  part_as true x = same x
  part_as false x = refl

  live_chips : (xs : List ℕ) (m : ℕ) → chips_at (live_of (map f xs) m) h ≡ chips_at (live_of (map g xs) m) h
  unfolding chips_at live_of
  live_chips [] m = refl
  live_chips (x ∷ xs) m = ap₂ ◌+◌ (part_as (eqb (m % 2) 1) x) (live_chips xs (m / 2))

  live_mask : (xs : List ℕ) (m : ℕ) → mask_at (live_of (map f xs) m) h ≡ mask_at (live_of (map g xs) m) h
  unfolding mask_at live_of
  live_mask [] m = refl
  live_mask (x ∷ xs) m = ap₂ (λ (a b : ℕ). a + 2 * b) (part_as (eqb (m % 2) 1) x) (live_mask xs (m / 2))

  contest_as : (xs : List ℕ) (m : ℕ) → contest (map f xs) m h ≡ contest (map g xs) m h
  unfolding contest contenders contested
  contest_as xs m = rw (chips_as xs, live_chips xs m, live_mask xs m) refl

outside_same : (a b h : ℕ) → a ≤ b → (h ≤ a) ⊎ (b < h) → has b h ≡ has a h
outside_same a b h l w =
    ⊎_elim (λ (p : h ≤ a). has_one b h (omega arith) ∙ sym (has_one a h p)) (λ (p : b < h). has_none b h p ∙ sym (has_none a h (omega arith))) w

map_as : {B : Type 0} (f g : ℕ → B) → ((s : ℕ) → f s ≡ g s) → (xs : List ℕ) → map f xs ≡ map g xs
map_as f g e [] = refl
map_as f g e (x ∷ xs) = ap₂ ◌∷◌ (e x) (map_as f g e xs)

-- ---- one total rises
module _ (sheet : Sheet) (es : List Entry) (e : Entry) (x : ℕ) (came : sits (e ∷ es) ≡ sits es) (up : put_in sheet es (sitter sheet es x) ≤ put_in sheet (e ∷ es) (sitter sheet es x))
    (others : (s : ℕ) → (sitter sheet es x ≡ s → ⊥) → put_in sheet (e ∷ es) s ≡ put_in sheet es s) (live : (s : ℕ) → live_in sheet (e ∷ es) s ≡ live_in sheet es s) where
  abbrev who : ℕ
  who = sitter sheet es x

  lifts_by : Lifts sheet es e x
  lifts_by = record { up = up; others = others; live = live; outside = there }
    where
      same : (h : ℕ) → (h ≤ put_in sheet es who) ⊎ (put_in sheet (e ∷ es) who < h) → (s : ℕ) → has (put_in sheet (e ∷ es) s) h ≡ has (put_in sheet es s) h
      same h w s =
          ⊎_elim
          (λ (q : eqb who s ≡ true).
          subst (λ (z : ℕ). has (put_in sheet (e ∷ es) z) h ≡ has (put_in sheet es z) h) (eqb-true who s q) (outside_same (put_in sheet es who) (put_in sheet (e ∷ es) who) h up w))
          (λ (q : eqb who s ≡ false). ap (λ (v : ℕ). has v h) (others s (eqb-false who s q)))
          (test (eqb who s))

      marks : lives sheet (e ∷ es) ≡ lives sheet es
      marks =
          ap (λ (k : ℕ). mask_at (map (λ s. one (live_in sheet (e ∷ es) s)) (sittings_to k)) 1) came
          ∙ ap (λ (l : List ℕ). mask_at l 1) (map_as (λ s. one (live_in sheet (e ∷ es) s)) (λ s. one (live_in sheet es s)) (λ s. ap one (live s)) (sittings_to (sits es)))

      there : (h : ℕ) → (h ≤ put_in sheet es who) ⊎ (put_in sheet (e ∷ es) who < h) → SameHeight sheet es (e ∷ es) h
      there h w =
          record {
            chips = ap (λ (k : ℕ). chips_at (map (put_in sheet (e ∷ es)) (sittings_to k)) h) came ∙ chips_as (put_in sheet (e ∷ es)) (put_in sheet es) h (same h w) (sittings_to (sits es));
            contest = ap₂ (λ (k m : ℕ). contest (map (put_in sheet (e ∷ es)) (sittings_to k)) m h) came marks
                ∙ contest_as (put_in sheet (e ∷ es)) (put_in sheet es) h (same h w) (sittings_to (sits es)) (lives sheet es);
          }

-- a bet of the sitting s
module _ (n : Notebook) (s m : ℕ) where
  pub bet_put : ((betting n s m).hand.part s).put ≡ (n.hand.part s).put + pays n s m
  bet_put = ap (λ (p : Part). p.put) (but_here n.hand.part s _ s refl)

  bet_other : (z : ℕ) → (s ≡ z → ⊥) → ((betting n s m).hand.part z).put ≡ (n.hand.part z).put
  bet_other z q = ap (λ (p : Part). p.put) (but_other n.hand.part s _ z q)

  bet_live : (z : ℕ) → ((betting n s m).hand.part z).live ≡ (n.hand.part z).live
  bet_live z =
      ⊎_elim
      (λ (q : eqb s z ≡ true). let i = eqb-true s z q in ap (λ (p : Part). p.live) (but_here n.hand.part s _ z i) ∙ ap (λ (y : ℕ). (n.hand.part y).live) i)
      (λ (q : eqb s z ≡ false). ap (λ (p : Part). p.live) (but_other n.hand.part s _ z (eqb-false s z q)))
      (test (eqb s z))

module _ (sheet : Sheet) (es : List Entry) (x : ℕ) where
  abbrev n : Notebook
  n = notebook sheet es

  pub call_lifts : Lifts sheet es (Call x) x
  unfolding notebook sits
  call_lifts =
      let s = n.people.sits x in
      let m = n.play.mark - (n.hand.part s).round in
      lifts_by sheet es (Call x) x (omega arith) (omega (arith, bet_put n s m)) (bet_other n s m) (bet_live n s m)

  -- the notebook in which every other owes again, with the new mark
  abbrev again : ℕ → Notebook
  again a = with_play (with_hand n (every_part n.hand (owes_again (full_lift n.play a)))) (mark_to n.play a)

  pub wager_lifts : (a : ℕ) → Lifts sheet es (Wager x a) x
  unfolding notebook sits
  wager_lifts a =
      let s = n.people.sits x in
      lifts_by sheet es (Wager x a) x (omega arith) (omega (arith, bet_put (again a) s (a - (n.hand.part s).round))) (bet_other (again a) s (a - (n.hand.part s).round)) (bet_live (again a) s (a - (n.hand.part s).round))

  -- the part alone of one sitting changes, and its total does not
  pub marks_same : (f : Part → Part) → ((p : Part) → (f p).put ≡ p.put) → (s : ℕ) → (((marking n x f).hand.part s).put ≡ (n.hand.part s).put) × ((marking n x f).people.stack s ≡ n.people.stack s)
  marks_same f e s =
      let who = n.people.sits x in
      ⊎_elim
      (λ (q : eqb who s ≡ true).
      let i = eqb-true who s q in (
        ap (λ (p : Part). p.put) (but_here n.hand.part who (f (n.hand.part who)) s i) ∙ e (n.hand.part who) ∙ ap (λ (y : ℕ). (n.hand.part y).put) i,
        but_here n.people.stack who (n.people.stack who) s i ∙ ap n.people.stack i,
      ))
      (λ (q : eqb who s ≡ false).
      let d = eqb-false who s q in
      (ap (λ (p : Part). p.put) (but_other n.hand.part who (f (n.hand.part who)) s d), but_other n.people.stack who (n.people.stack who) s d))
      (test (eqb who s))

  pub fold_chips : SameChips sheet es (Fold x)
  unfolding notebook
  fold_chips = record { put = λ s. (marks_same given_up (λ p. refl) s).0; stack = λ s. (marks_same given_up (λ p. refl) s).1 }

  pub dead_chips : SameChips sheet es (Dead x)
  unfolding notebook
  dead_chips = record { put = λ s. (marks_same given_up (λ p. refl) s).0; stack = λ s. (marks_same given_up (λ p. refl) s).1 }

  check_chips : SameChips sheet es (Check x)
  unfolding notebook
  check_chips = record { put = λ s. (marks_same has_acted (λ p. refl) s).0; stack = λ s. (marks_same has_acted (λ p. refl) s).1 }

  hole_chips : (a b : ℕ) → SameChips sheet es (Hole x a b)
  unfolding notebook
  hole_chips a b = record { put = λ s. (marks_same (holds a b) (λ p. refl) s).0; stack = λ s. (marks_same (holds a b) (λ p. refl) s).1 }

  pub sit_pots : (a : ℕ) → SameHand sheet es (Sit x a)
  unfolding notebook pots_by back_by
  sit_pots a = record { put = λ s. refl; live = λ s. refl; pots = refl; back = refl }

  pub leave_pots : SameHand sheet es (Leave x)
  unfolding notebook pots_by back_by
  leave_pots = record { put = λ s. refl; live = λ s. refl; pots = refl; back = refl }

pub board_chips : (sheet : Sheet) (es : List Entry) (k : ℕ) → SameChips sheet es (Board k)
unfolding notebook
board_chips sheet es k =
    let n = notebook sheet es in
    record {
      put = λ s. either_way (λ (m : Notebook). (m.hand.part s).put) (leb 3 (n.board.count + 1)) _ _ (n.hand.part s).put refl refl;
      stack = λ s. either_way (λ (m : Notebook). m.people.stack s) (leb 3 (n.board.count + 1)) _ _ (n.people.stack s) refl refl;
    }

-- every entry
pub moves : (sheet : Sheet) (es : List Entry) (e : Entry) → Moves sheet es e
moves sheet es (Sit x a) = sit_pots sheet es x a
moves sheet es (Leave x) = leave_pots sheet es x
moves sheet es (Hand p) = tt
moves sheet es (Hole x a b) = hole_chips sheet es x a b
moves sheet es (Fold x) = fold_chips sheet es x
moves sheet es (Check x) = check_chips sheet es x
moves sheet es (Call x) = call_lifts sheet es x
moves sheet es (Wager x a) = wager_lifts sheet es x a
moves sheet es (Board k) = board_chips sheet es k
moves sheet es (Dead x) = dead_chips sheet es x
moves sheet es Settle = tt
moves sheet es Void = tt
