-- Each sitting's stack is what it brought, less what it put in, plus what it was paid; `leave` takes it away. For every sheet, every list of taken entries and
-- every sitting. Assumes nothing.
use Prim.Native.Nat.{ℕ, zero, suc, ◌+◌, ◌-◌, ◌≤◌, ◌<◌, min}
use mathlib.Core.Bool.{Bool, true, false}
use mathlib.Core.Path.{◌≡◌, refl, sym, ap, ◌∙◌, subst}
use mathlib.Core.List.{List, [], ◌∷◌}
use mathlib.Core.Logic.{⊎_elim}
use native.Mathlib.Omega.{arith}
use lib.Dec.{eqb}
use lib.ListN.{length}
use borrow.Author.Tests.{eqb-true, eqb-false}
use Rattle.laws.specs.Tests.{pick}
use Rattle.laws.proofs.Tests.{test}
use Rattle.paper.specs.Paper.{is_sheet}
use Rattle.paper.specs.declared.Sheet.{Sheet}
use Rattle.paper.specs.declared.Entry.{Entry}
use Rattle.paper.specs.declared.Entry.TheVariants.{Sit, Leave, Hand, Hole, Fold, Check, Call, Wager, Board, Dead, Settle, Void}
use Rattle.pots.proofs.Contest.{le_or_lt}
use Rattle.chairs.specs.declared.Dealt.{Dealt}
use Rattle.chairs.proofs.Over.{all_at}
use Rattle.table.specs.Standing.{Cleared}
use Rattle.table.proofs.Codes.{hand_closed}
use Rattle.table.proofs.Sounds.{passed}
use Rattle.history.specs.History.{run, AllTaken}
use Rattle.history.specs.Notebook.{Part, given_up, has_acted, holds, more, owes_again, no_part, Notebook, with_hand, with_play, every_part, noting, pays, posting, betting, next_seat, dealing, full_lift, mark_to, noted_by, notebook}
use Rattle.history.specs.Stacks.{ledger, Balanced}
use Rattle.history.proofs.AsNoted.{reached}
use Rattle.history.proofs.Kept.{but_here, but_other, KeptBy}
use Rattle.history.proofs.Moves.{marks_same, board_chips}

-- what a sitting has before it and has put in
abbrev chips : Notebook → ℕ → ℕ
chips n s = n.people.stack s + (n.hand.part s).put

-- what is put in is taken from the stack
module _ (n : Notebook) (s m : ℕ) (c : Part) (more-is : c.put ≡ (n.hand.part s).put + pays n s m) where
  noting_sum : (z : ℕ) → chips (noting n s (n.people.stack s - pays n s m) c) z ≡ chips n z
  noting_sum z =
      ⊎_elim
      (λ (q : eqb s z ≡ true). subst (λ (y : ℕ). chips (noting n s (n.people.stack s - pays n s m) c) y ≡ chips n y) (eqb-true s z q) mine)
      (λ (q : eqb s z ≡ false).
      let d = eqb-false s z q in
      omega (arith, but_other n.people.stack s (n.people.stack s - pays n s m) z d, ap (λ (p : Part). p.put) (but_other n.hand.part s c z d)))
      (test (eqb s z))
    where
      mine : chips (noting n s (n.people.stack s - pays n s m) c) s ≡ chips n s
      mine =
          omega (
            arith,
            but_here n.people.stack s (n.people.stack s - pays n s m) s refl,
            ap (λ (p : Part). p.put) (but_here n.hand.part s c s refl),
            more-is,
            at_most m (n.people.stack s),
          )
        where
          at_most : (a b : ℕ) → min a b ≤ b
          at_most a b = omega arith

post_sum : (n : Notebook) (s m z : ℕ) → chips (posting n s m) z ≡ chips n z
post_sum n s m z = noting_sum n s m (more (n.hand.part s) (pays n s m)) refl z

bet_sum : (n : Notebook) (s m z : ℕ) → chips (betting n s m) z ≡ chips n z
bet_sum n s m z = noting_sum n s m (has_acted (more (n.hand.part s) (pays n s m))) refl z

module _ (sheet : Sheet) (ok : is_sheet sheet ≡ true) where
  -- without a hand nothing is kept of anyone
  pub closed_none : (es : List Entry) → AllTaken sheet es → (run sheet es).play.opened ≡ false → (s : ℕ) → (notebook sheet es).hand.part s ≡ no_part
  closed_none es a o s =
      let h = reached sheet ok es a in
      let none : (x : ℕ) → (notebook sheet es).hand.dealt x ≡ 0 = λ x.
      sym (h.noted.says.chairs x).dealt ∙ ap (λ (d : Dealt). d.sitting) (all_at Cleared (run sheet es).chairs x refl (h.sound.standing.cleared o)) in
      by none h.noted.kept s
    where
      by : ((x : ℕ) → (notebook sheet es).hand.dealt x ≡ 0) → KeptBy (notebook sheet es) → (s : ℕ) → (notebook sheet es).hand.part s ≡ no_part
      by none k zero = k.nobody
      by none k (suc s) = k.idle (suc s) (λ e. omega (arith, e, none ((notebook sheet es).people.seat (suc s))))

  -- the next sitting has no chips yet
  fresh : (es : List Entry) → AllTaken sheet es → (notebook sheet es).people.stack ((notebook sheet es).people.count + 1) ≡ 0
  fresh es a =
      let k = (reached sheet ok es a).noted.kept in
      let n = notebook sheet es in
      let new = n.people.count + 1 in
      ⊎_elim (λ (q : n.people.stack new ≤ 0). omega arith) (λ (q : 0 < n.people.stack new). absurd (omega (arith, k.rich new q, k.known (n.people.seat new)))) (le_or_lt (n.people.stack new) 0)

  sit_sum : (es : List Entry) → AllTaken sheet es → (x a s : ℕ) → chips (noted_by sheet (notebook sheet es) (Sit x a)) s ≡ chips (notebook sheet es) s + pick (eqb ((notebook sheet es).people.count + 1) s) a 0
  sit_sum es w x a s = go (eqb (n.people.count + 1) s) refl
    where
      n : Notebook
      n = notebook sheet es

      go : (b : Bool) → eqb ((notebook sheet es).people.count + 1) s ≡ b → pick b a ((notebook sheet es).people.stack s) + ((notebook sheet es).hand.part s).put ≡ chips (notebook sheet es) s + pick b a 0
      go true q = omega (arith, fresh es w, ap (notebook sheet es).people.stack (eqb-true ((notebook sheet es).people.count + 1) s q))
      go false q = omega arith

  leave_sum : (n : Notebook) (x s : ℕ) → chips (noted_by sheet n (Leave x)) s + pick (eqb (n.people.sits x) s) (n.people.stack s) 0 ≡ chips n s
  leave_sum n x s = go (eqb (n.people.sits x) s)
    where
      go : (b : Bool) → pick b 0 (n.people.stack s) + (n.hand.part s).put + pick b (n.people.stack s) 0 ≡ chips n s
      go true = omega arith
      go false = omega arith

  hand_sum : (es : List Entry) → AllTaken sheet es → (run sheet es).play.opened ≡ false → (p s : ℕ) → chips (noted_by sheet (notebook sheet es) (Hand p)) s ≡ chips (notebook sheet es) s
  hand_sum es a o p s =
      let n = notebook sheet es in
      post_sum (posting (dealing n) (n.people.sits p) sheet.small) (n.people.sits (next_seat sheet n p)) sheet.big s
      ∙ post_sum (dealing n) (n.people.sits p) sheet.small s
      ∙ ap (λ (c : Part). n.people.stack s + c.put) (sym (closed_none es a o s))

  -- the balance
  pub stacks_are : (es : List Entry) → AllTaken sheet es → (s : ℕ) → Balanced sheet es s
  unfolding notebook ledger
  stacks_are [] a s = refl
  stacks_are (Sit x v ∷ es) a s = omega (arith, stacks_are es a.1 s, sit_sum es a.1 x v s)
  stacks_are (Leave x ∷ es) a s = omega (arith, stacks_are es a.1 s, leave_sum (notebook sheet es) x s)
  stacks_are (Hand p ∷ es) a s =
      omega (arith, stacks_are es a.1 s, hand_sum es a.1 (hand_closed (run sheet es) p (passed (run sheet es) (length es + 1) (Hand p) a.0).moment).0 p s)
  stacks_are (Hole x c d ∷ es) a s = let m = marks_same sheet es x (holds c d) (λ p. refl) s in omega (arith, stacks_are es a.1 s, m.0, m.1)
  stacks_are (Fold x ∷ es) a s = let m = marks_same sheet es x given_up (λ p. refl) s in omega (arith, stacks_are es a.1 s, m.0, m.1)
  stacks_are (Check x ∷ es) a s = let m = marks_same sheet es x has_acted (λ p. refl) s in omega (arith, stacks_are es a.1 s, m.0, m.1)
  stacks_are (Call x ∷ es) a s =
      let n = notebook sheet es in
      let who = n.people.sits x in
      omega (arith, stacks_are es a.1 s, bet_sum n who (n.play.mark - (n.hand.part who).round) s)
  stacks_are (Wager x v ∷ es) a s =
      let n = notebook sheet es in
      let who = n.people.sits x in
      omega (arith, stacks_are es a.1 s, bet_sum (with_play (with_hand n (every_part n.hand (owes_again (full_lift n.play v)))) (mark_to n.play v)) who (v - (n.hand.part who).round) s)
  stacks_are (Board k ∷ es) a s = let m = board_chips sheet es k in omega (arith, stacks_are es a.1 s, m.put s, m.stack s)
  stacks_are (Dead x ∷ es) a s = let m = marks_same sheet es x given_up (λ p. refl) s in omega (arith, stacks_are es a.1 s, m.0, m.1)
  stacks_are (Settle ∷ es) a s = omega (arith, stacks_are es a.1 s)
  stacks_are (Void ∷ es) a s = stacks_are es a.1 s
