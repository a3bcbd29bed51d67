-- "Player's gain plus house's gain is always zero", wager by wager, for any list of wagers, and round upon round: the player's gain is the chips that come back
-- less the chips put in, the house's is its own books, stakes taken less prizes paid. What a fold loses. That a refused round changes nothing and pays nothing.
-- Assumes nothing.
use mathlib.Core.Path.{◌≡◌, refl}
use mathlib.Core.Bool.{Bool, true, false}
use mathlib.Core.List.{List, [], ◌∷◌}
use Prim.Native.Nat.{ℕ, ◌+◌}
use native.Mathlib.Omega.{arith}
use lib.Dec.{eqb}
use borrow.Author.Tests.{ne_eqb}
use Rattle.laws.specs.Tests.{pick}
use Rattle.paper.specs.RefusalNumbers.{taken}
use Rattle.banked.specs.Fates.{ante_fate, play_fate, jackpot_fate, extra_fate, dealer_extra_fate}
use Rattle.banked.specs.Hands.{players_hand, dealers_hand, dealers_flop_hand, standing_of}
use Rattle.banked.specs.Books.{Wager, Gain, and_gain, back_of, taken_of, paid_of, players_gain, houses_gain, players_gains, houses_gains, net_of}
use Rattle.banked.specs.Rounds.{is_fold, stakes_of, backs_of, total_of, settled_of, wagers_of, wagers_with, round_code, Books, books_after, books_of}
use Rattle.banked.proofs.Folds.{none_staked}
use Rattle.banked.specs.declared.Round.{Round}
use Rattle.banked.specs.declared.Deal.{Deal}
use Rattle.banked.specs.declared.Choice.TheVariants.{Fold}
use Rattle.banked.specs.declared.judged.Seven.{Seven}
use Rattle.banked.specs.declared.fates.Fate.{Fate}
use Rattle.banked.specs.declared.fates.Fate.TheVariants.{Lost, Returned, Odds, Times}

-- two gains sum to zero: what comes to both is what goes from both
abbrev pub ZeroSum : Gain → Gain → Type 0
ZeroSum g h = g.up + h.up ≡ g.down + h.down

-- one wager, of any fate
pub wager_zero : (w : Wager) → ZeroSum (players_gain w) (houses_gain w)
unfolding back_of taken_of paid_of
wager_zero w = go w.fate w.stake
  where
    go : (f : Fate) (s : ℕ) → back_of f s + taken_of f s ≡ s + paid_of f s
    go Lost s = omega arith
    go Returned s = omega arith
    go (Odds n) s = omega arith
    go (Times n) s = omega arith

-- any list of wagers
pub zero_sum : (ws : List Wager) → ZeroSum (players_gains ws) (houses_gains ws)
unfolding players_gains houses_gains
zero_sum [] = refl
zero_sum (w ∷ ws) = omega (arith, wager_zero w, zero_sum ws)

-- so what one of them has won the other has lost
pub net_zero : (g h : Gain) → ZeroSum g h → ((net_of g).up ≡ (net_of h).down) × ((net_of g).down ≡ (net_of h).up)
net_zero g h e = (omega arith, omega arith)

-- ---- what the box says of a round is the player's gain, and the house's the other way round

module _ (s : Seven) (f : Bool) (d : Deal) where
  staked_all : total_of s ≡ (players_gains (wagers_with s f d)).down
  unfolding total_of players_gains
  staked_all = omega arith

  back_all : total_of (backs_of s f d) ≡ (players_gains (wagers_with s f d)).up
  unfolding total_of backs_of players_gains
  back_all = omega arith

pub record Said (r : Round) : Type 0 where
  pub staked : (settled_of r).staked ≡ (players_gains (wagers_of r)).down
  pub back : (settled_of r).back ≡ (players_gains (wagers_of r)).up
  pub won : (settled_of r).won ≡ (net_of (houses_gains (wagers_of r))).down
  pub lost : (settled_of r).lost ≡ (net_of (houses_gains (wagers_of r))).up

pub said_right : (r : Round) → Said r
unfolding settled_of
said_right r =
    let s = staked_all (stakes_of r) (is_fold r.choice) r.deal in
    let b = back_all (stakes_of r) (is_fold r.choice) r.deal in
    let n = net_zero (players_gains (wagers_of r)) (houses_gains (wagers_of r)) (zero_sum (wagers_of r)) in
    record { staked = s; back = b; won = rw (s, b) n.0; lost = rw (s, b) n.1 }

-- ---- a fold loses the ante, the jackpot wager and the player's extra (3.6, 3.12, 3.33), no other wager was placed, and the dealer's extra goes by his hand (3.28)

pub record FoldLoses (r : Round) : Type 0 where
  pub ante : (settled_of r).backs.ante ≡ 0
  pub jackpot : (settled_of r).backs.jackpot ≡ 0
  pub extra : (settled_of r).backs.extra ≡ 0
  pub dealer : (settled_of r).backs.dealer ≡ back_of (dealer_extra_fate (dealers_flop_hand r.deal)) r.dealer
  pub back : (settled_of r).back ≡ back_of (dealer_extra_fate (dealers_flop_hand r.deal)) r.dealer
  pub staked : (settled_of r).staked ≡ r.ante + (r.jackpot + (r.extra + r.dealer))

pub fold_loses : (r : Round) → r.choice ≡ Fold → FoldLoses r
unfolding settled_of stakes_of backs_of total_of ante_fate jackpot_fate extra_fate back_of
fold_loses r e =
    let f : is_fold r.choice ≡ true = rw e in
    let a : (settled_of r).backs.ante ≡ 0 = rw f in
    let j : (settled_of r).backs.jackpot ≡ 0 = rw f in
    let x : (settled_of r).backs.extra ≡ 0 = rw f in
    let play = play_fate (standing_of (players_hand r.deal) (dealers_hand r.deal)) in
    let flop : (settled_of r).backs.flop ≡ 0 = rw e (none_staked play) in
    let turn : (settled_of r).backs.turn ≡ 0 = rw e (none_staked play) in
    let river : (settled_of r).backs.river ≡ 0 = rw e (none_staked play) in
    let flopNone : (stakes_of r).flop ≡ 0 = rw e in
    let turnNone : (stakes_of r).turn ≡ 0 = rw e in
    let riverNone : (stakes_of r).river ≡ 0 = rw e in
    record {
      ante = a;
      jackpot = j;
      extra = x;
      dealer = refl;
      back = omega (arith, a, j, x, flop, turn, river);
      staked = omega (arith, flopNone, turnNone, riverNone);
    }

-- ---- a refused round

-- nothing changes
pub refused_same : (b : Books) (r : Round) → (round_code r ≡ taken → ⊥) → books_after b r ≡ b
unfolding books_after
refused_same b r n = rw (ne_eqb (round_code r) taken n)

-- ---- round upon round

pub books_zero : (b : Books) (rs : List Round) → ZeroSum b.player b.house → ZeroSum (books_of b rs).player (books_of b rs).house
unfolding books_of books_after
books_zero b [] e = e
books_zero b (r ∷ rs) e = books_zero (books_after b r) rs (go (eqb (round_code r) taken))
  where
    with-round : Books
    with-round = record { player = and_gain b.player (players_gains (wagers_of r)); house = and_gain b.house (houses_gains (wagers_of r)) }

    go : (t : Bool) → ZeroSum (pick t with-round b).player (pick t with-round b).house
    go true = omega (arith, e, zero_sum (wagers_of r))
    go false = e
