-- What is unclaimed at a taken settle is exactly the returned chips of the sittings that have left: a sitting that left is not live, so it wins nothing.
-- Assumes nothing.
use Prim.Native.Nat.{ℕ, zero, suc, ◌+◌, ◌-◌, ◌*◌, ◌/◌, ◌%◌, ◌≤◌, ◌<◌}
use mathlib.Core.Bool.{Bool, true, false, true≢false}
use mathlib.Core.Path.{◌≡◌, refl, sym, ap, ap₂, ◌∙◌, subst}
use mathlib.Core.List.{List, [], ◌∷◌, map}
use native.Mathlib.Omega.{arith}
use lib.Dec.{eqb}
use lib.ListN.{length, get_or}
use borrow.Author.Tests.{lt-ltb, eq-eqb}
use Rattle.laws.specs.Bits.{bit_at}
use Rattle.laws.specs.Lists.{All, sum_of}
use Rattle.laws.specs.Tests.{both, pick, one}
use Rattle.laws.proofs.Sums.{map_at, zeros_at}
use Rattle.paper.specs.Paper.{is_sheet}
use Rattle.paper.specs.declared.Sheet.{Sheet}
use Rattle.paper.specs.declared.Entry.{Entry}
use Rattle.pots.specs.Hand.{winners_of, won_of, drop_of_hand, unclaimed_of}
use Rattle.pots.specs.Heights.{has, mask_at, returned_of}
use Rattle.pots.specs.Runs.{pots_of}
use Rattle.pots.specs.Settle.{fee_of, shares_of}
use Rattle.pots.specs.declared.Commission.{Commission}
use Rattle.pots.specs.declared.Pot.{Pot}
use Rattle.pots.proofs.Hands.{Manned, manned, pots_manned, plus_at, plus_length, shares_length, won_length}
use Rattle.pots.proofs.Masks.{mask_bit}
use Rattle.pots.proofs.PotRuns.{pots_all}
use Rattle.pots.proofs.Shares.{shares_none}
use Rattle.pots.proofs.Winners.{winners_in}
use Rattle.chairs.specs.Chairs.{is_here, seats_from}
use Rattle.chairs.specs.declared.Chair.{Chair}
use Rattle.chairs.proofs.Above.{has_truth}
use Rattle.table.specs.State.{seat_of}
use Rattle.table.specs.declared.table.Table.{Table}
use Rattle.table.specs.Standing.{ChairOk}
use Rattle.table.proofs.ChairsOk.{ok_at, live_some}
use Rattle.history.specs.History.{run, AllTaken}
use Rattle.history.specs.Notebook.{Part, Notebook, ten_seats, part_at, puts_by, lives_by, rule_by, due_by, here, unclaimed_by, notebook}
use Rattle.history.proofs.AsNoted.{reached}
use Rattle.history.proofs.Kept.{puck_is}
use Rattle.history.proofs.Paying.{listed, here_at}
use Rattle.mission.specs.Winners.{scores_by, left_behind}
use Rattle.mission.proofs.Winners.{at_seat, contender_live}

-- ---- who contends for no pot wins nothing
module _ (scores : List ℕ) (rule : Commission) (puck i : ℕ) (k : puck ≤ length scores) (l : i < length scores) where
  won_none : (left off : ℕ) (ps : List Pot) → Manned (length scores) ps → All (λ (p : Pot). bit_at p.who i ≡ 0) ps → get_or (won_of scores rule puck left off ps) i 0 ≡ 0
  unfolding won_of
  won_none left off [] m a = zeros_at (length scores) i
  won_none left off (p ∷ ps) (manned w m) a =
      let rest = won_of scores rule puck (left - fee_of rule left p.amount) 0 ps in
      let sh = shares_of (length scores) (p.amount - fee_of rule left p.amount - off) (winners_of scores p.who) puck in
      let ls = shares_length (length scores) (p.amount - fee_of rule left p.amount - off) (winners_of scores p.who) puck in
      let lr = won_length scores rule puck (left - fee_of rule left p.amount) 0 ps in
      let e = plus_at sh rest i (omega (arith, ls, lr)) (omega (arith, ls)) in
      let none = shares_none (length scores) (p.amount - fee_of rule left p.amount - off) (winners_of scores p.who) puck i k l (winners_in scores p.who i w a.0) in
      omega (arith, e, none, won_none (left - fee_of rule left p.amount) 0 ps m a.1)

-- ---- what is due to those whom a mask leaves out
one_is : (b : Bool) → eqb (one b) 1 ≡ b
one_is true = refl
one_is false = refl

unclaimed_sum : (f : ℕ → ℕ) (b : ℕ → Bool) (xs : List ℕ) → unclaimed_of (map f xs) (mask_at (map (λ x. one (b x)) xs) 1) ≡ sum_of (map (λ x. pick (b x) 0 (f x)) xs)
unfolding unclaimed_of mask_at sum_of
unclaimed_sum f b [] = refl
unclaimed_sum f b (x ∷ xs) =
    let m = mask_at (map (λ x. one (b x)) xs) 1 in
    let low = has_truth (b x) in
    let few : one (b x) ≤ 1 = at_most (b x) in
    let e : (has (one (b x)) 1 + 2 * mask_at (map (λ x. one (b x)) xs) 1) % 2 ≡ one (b x) = omega arith in
    let d : (has (one (b x)) 1 + 2 * mask_at (map (λ x. one (b x)) xs) 1) / 2 ≡ mask_at (map (λ x. one (b x)) xs) 1 = omega arith in
    ap₂ (λ (v w : ℕ). pick (eqb v 1) 0 (f x) + unclaimed_of (map f xs) w) e d
    ∙ ap₂ (λ (c : Bool) (w : ℕ). pick c 0 (f x) + w) (one_is (b x)) (unclaimed_sum f b xs)
  where
    at_most : (b : Bool) → one b ≤ 1
    at_most true = omega arith
    at_most false = omega arith

same_seats : (f g : ℕ → ℕ) (k m : ℕ) → ((i : ℕ) → i < m → f (suc (i + k)) ≡ g (suc (i + k))) → map f (seats_from k m) ≡ map g (seats_from k m)
same_seats f g k zero e = refl
same_seats f g k (suc m) e =
    let z : suc k ≡ suc (0 + k) = omega arith in
    ap₂ ◌∷◌ (ap f z ∙ e 0 (omega arith) ∙ sym (ap g z))
    (same_seats f g (suc k) m (λ i l. let w : suc (i + suc k) ≡ suc (suc i + k) = omega arith in ap f w ∙ e (suc i) (omega arith) ∙ sym (ap g w)))

module _ (sheet : Sheet) (ok : is_sheet sheet ≡ true) (es : List Entry) (taken : AllTaken sheet es) where
  abbrev n : Notebook
  n = notebook sheet es

  abbrev t : Table
  t = run sheet es

  -- a sitting that has left is not live
  gone_dead : (x : ℕ) → here n (n.hand.dealt x) ≡ false → (part_at n x).live ≡ false
  gone_dead x e =
      let h = reached sheet ok es taken in
      go (part_at n x).live (ap (λ (p : Part). p.live) (h.noted.says.chairs x).part) (ok_at t.chairs x h.sound.standing.chairs) (here_at n t h.noted h.sound.standing.size x)
    where
      sits_here : (c : Chair) → c.dealt.live ≡ true → ChairOk c → is_here c ≡ true
      sits_here c l o = ap₂ both (lt-ltb 0 c.dealt.sitting (omega (arith, live_some c o l))) (eq-eqb c.sitting c.dealt.sitting (sym (o.here l)))

      go : (b : Bool) → (seat_of (run sheet es) x).dealt.live ≡ b → ChairOk (seat_of (run sheet es) x) → is_here (seat_of (run sheet es) x) ≡ here (notebook sheet es) ((notebook sheet es).hand.dealt x) → b ≡ false
      go true l o q = absurd (true≢false (sym (sits_here (seat_of (run sheet es) x) l o) ∙ q ∙ e))
      go false l o q = refl

  -- it is due its returned chips
  due_gone : (i : ℕ) → i < 10 → here n (n.hand.dealt (suc i)) ≡ false → get_or (due_by sheet n) i 0 ≡ returned_of (puts_by n) (lives_by n) (part_at n (suc i)).put
  due_gone i l e =
      let h = reached sheet ok es taken in
      let puck : n.play.puck ≤ 10 = omega (arith, h.sound.payable.puck, puck_is n t h.noted.says) in
      let dead : bit_at (lives_by n) i ≡ 0 =
      mask_bit (map (λ x. one (part_at n x).live) ten_seats) 1 i (omega arith) ∙ ap (λ (v : ℕ). has v 1) (at_seat (λ x. one (part_at n x).live) i l ∙ ap one (gone_dead (suc i) e)) ∙ has_truth false in
      let out = pots_all (λ m. bit_at m i ≡ 0) (puts_by n) (lives_by n) (λ j p. contender_live (puts_by n) (lives_by n) j i p dead) in
      let d = drop_of_hand (puts_by n) (lives_by n) (rule_by sheet n) in
      let won = won_none (scores_by sheet n) (rule_by sheet n) n.play.puck i puck l (rule_by sheet n).cap d (pots_of (puts_by n) (lives_by n)) (pots_manned (puts_by n) (lives_by n)) out in
      let w = won_of (scores_by sheet n) (rule_by sheet n) n.play.puck (rule_by sheet n).cap d (pots_of (puts_by n) (lives_by n)) in
      let lw = won_length (scores_by sheet n) (rule_by sheet n) n.play.puck (rule_by sheet n).cap d (pots_of (puts_by n) (lives_by n)) in
      let at = plus_at w (map (returned_of (puts_by n) (lives_by n)) (puts_by n)) i (omega (arith, lw)) (omega (arith, lw)) in
      let back = map_at (returned_of (puts_by n) (lives_by n)) (puts_by n) i l ∙ ap (returned_of (puts_by n) (lives_by n)) (at_seat (λ x. (part_at n x).put) i l) in
      omega (arith, at, won, back)

  due_length : length (due_by sheet n) ≡ 10
  due_length = plus_length w (map (returned_of (puts_by n) (lives_by n)) (puts_by n)) ∙ won_length (scores_by sheet n) (rule_by sheet n) n.play.puck (rule_by sheet n).cap (drop_of_hand (puts_by n) (lives_by n) (rule_by sheet n)) (pots_of (puts_by n) (lives_by n))
    where
      w : List ℕ
      w = won_of (scores_by sheet (notebook sheet es)) (rule_by sheet (notebook sheet es)) (notebook sheet es).play.puck (rule_by sheet (notebook sheet es)).cap (drop_of_hand (puts_by (notebook sheet es)) (lives_by (notebook sheet es)) (rule_by sheet (notebook sheet es))) (pots_of (puts_by (notebook sheet es)) (lives_by (notebook sheet es)))

  -- "if it has left, they are unclaimed (house)": these chips, and no others
  pub unclaimed_left : unclaimed_by sheet n ≡ left_behind n
  unfolding unclaimed_by
  unclaimed_left =
      ap (λ (d : List ℕ). unclaimed_of d (mask_at (map (λ x. one (here n (n.hand.dealt x))) ten_seats) 1)) (listed (due_by sheet n) (λ x. get_or (due_by sheet n) (x - 1) 0) 0 10 due_length (λ i l. ap (λ (j : ℕ). get_or (due_by sheet n) j 0) (back i)))
      ∙ unclaimed_sum (λ x. get_or (due_by sheet n) (x - 1) 0) (λ x. here n (n.hand.dealt x)) ten_seats
      ∙ ap sum_of (same_seats (λ x. pick (here n (n.hand.dealt x)) 0 (get_or (due_by sheet n) (x - 1) 0)) (λ x. pick (here n (n.hand.dealt x)) 0 (returned_of (puts_by n) (lives_by n) (part_at n x).put)) 0 10 (λ i l. each i l))
    where
      back : (i : ℕ) → i ≡ suc (i + 0) - 1
      back i = omega arith

      less : (i : ℕ) → suc i - 1 ≡ i
      less i = omega arith

      at : (i : ℕ) → i < 10 → (b : Bool) → here (notebook sheet es) ((notebook sheet es).hand.dealt (suc i)) ≡ b
          → pick b 0 (get_or (due_by sheet (notebook sheet es)) i 0) ≡ pick b 0 (returned_of (puts_by (notebook sheet es)) (lives_by (notebook sheet es)) (part_at (notebook sheet es) (suc i)).put)
      at i l true e = refl
      at i l false e = due_gone i l e

      each : (i : ℕ) → i < 10 → pick (here (notebook sheet es) ((notebook sheet es).hand.dealt (suc (i + 0)))) 0 (get_or (due_by sheet (notebook sheet es)) (suc (i + 0) - 1) 0)
          ≡ pick (here (notebook sheet es) ((notebook sheet es).hand.dealt (suc (i + 0)))) 0 (returned_of (puts_by (notebook sheet es)) (lives_by (notebook sheet es)) (part_at (notebook sheet es) (suc (i + 0))).put)
      each i l =
          let z : suc i ≡ suc (i + 0) = omega arith in
          subst (λ (x : ℕ). pick (here (notebook sheet es) ((notebook sheet es).hand.dealt x)) 0 (get_or (due_by sheet (notebook sheet es)) (x - 1) 0)
          ≡ pick (here (notebook sheet es) ((notebook sheet es).hand.dealt x)) 0 (returned_of (puts_by (notebook sheet es)) (lives_by (notebook sheet es)) (part_at (notebook sheet es) x).put)) z
          (ap (λ (j : ℕ). pick (here (notebook sheet es) ((notebook sheet es).hand.dealt (suc i))) 0 (get_or (due_by sheet (notebook sheet es)) j 0)) (less i)
          ∙ at i l (here (notebook sheet es) ((notebook sheet es).hand.dealt (suc i))) refl)
