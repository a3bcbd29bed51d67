-- What every chair keeps (`ChairOk`), whatever befalls it. Assumes nothing.
use Prim.Native.Nat.{ℕ, ◌+◌}
use mathlib.Core.Bool.{Bool, true, false, true≢false, false≢true}
use mathlib.Core.Path.{◌≡◌, refl, sym, ◌∙◌}
use mathlib.Core.List.{List, [], ◌∷◌}
use native.Mathlib.Omega.{arith}
use lib.Dec.{ltb}
use borrow.Author.Tests.{ltb-true, ltb-false}
use Rattle.laws.specs.Lists.{All}
use Rattle.chairs.specs.Chairs.{chair_at, put_at, no_chair, paid_of, acts_of, folded_of, held_of, seated_of, dealt_of, rounded_of}
use Rattle.chairs.specs.declared.Chair.{Chair}
use Rattle.chairs.proofs.Over.{all_at, all_put}
use Rattle.table.specs.Standing.{ChairOk}

pub no_ok : ChairOk no_chair
no_ok = record { start = omega arith; none = λ e. refl; dead = λ e. refl; here = λ e. absurd (false≢true e); empty = λ e. refl }

pub ok_at : (cs : List Chair) (x : ℕ) → All ChairOk cs → ChairOk (chair_at cs x)
ok_at cs x a = all_at ChairOk cs x no_ok a

-- nobody is live in an empty chair
pub empty_dead : (c : Chair) → ChairOk c → c.sitting ≡ 0 → c.dealt.live ≡ false
empty_dead c k e = go c.dealt.live refl
  where
    go : (b : Bool) → c.dealt.live ≡ b → c.dealt.live ≡ false
    go true q = k.dead (k.here q ∙ e)
    go false q = q

pub live_some : (c : Chair) → ChairOk c → c.dealt.live ≡ true → c.dealt.sitting ≡ 0 → ⊥
live_some c k l e = true≢false (sym l ∙ k.dead e)

pub ok_sit : (c : Chair) (k a : ℕ) → ChairOk c → c.sitting ≡ 0 → ChairOk (seated_of c (k + 1) a)
ok_sit c k a o e = record { start = o.start; none = o.none; dead = o.dead; here = λ l. absurd (true≢false (sym l ∙ empty_dead c o e)); empty = λ z. absurd (omega arith) }

pub ok_leave : (c : Chair) → ChairOk c → c.dealt.live ≡ false → ChairOk (seated_of c 0 0)
ok_leave c o f = record { start = o.start; none = o.none; dead = o.dead; here = λ l. absurd (true≢false (sym l ∙ f)); empty = λ z. refl }

pub ok_hold : (c : Chair) (a b : ℕ) → ChairOk c → ChairOk (held_of c a b)
ok_hold c a b o = record { start = o.start; none = o.none; dead = o.dead; here = o.here; empty = o.empty }

pub ok_acts : (b d : Bool) (c : Chair) → ChairOk c → ChairOk (acts_of b d c)
ok_acts b d c o = record { start = o.start; none = o.none; dead = o.dead; here = o.here; empty = o.empty }

pub ok_fold : (c : Chair) → ChairOk c → ChairOk (folded_of c)
ok_fold c o = record { start = o.start; none = o.none; dead = λ e. refl; here = λ l. absurd (false≢true l); empty = o.empty }

pub ok_round : (c : Chair) → ChairOk c → ChairOk (rounded_of c)
ok_round c o = record { start = omega arith; none = o.none; dead = o.dead; here = o.here; empty = o.empty }

pub ok_pays : (c : Chair) (m : ℕ) → ChairOk c → (c.dealt.sitting ≡ 0 → c.stack ≡ 0) → ChairOk (paid_of c m)
ok_pays c m o h =
    record {
      start = omega (arith, o.start);
      none = λ e. omega (arith, o.none e, h e);
      dead = o.dead;
      here = o.here;
      empty = λ e. omega (arith, o.empty e);
    }

-- a chair as it is dealt: a sitting with chips
pub record Fresh (c : Chair) : Type 0 where
  pub ok : ChairOk c
  pub poor : c.dealt.sitting ≡ 0 → c.stack ≡ 0

pub deal_fresh : (c : Chair) → ChairOk c → Fresh (dealt_of c)
deal_fresh c o = go (ltb 0 c.stack) refl
  where
    go : (b : Bool) → ltb 0 c.stack ≡ b → Fresh (dealt_of c)
    go true q =
        let p = ltb-true 0 c.stack q in
        let some : (c.sitting ≡ 0 → ⊥) = λ e. omega (arith, p, o.empty e) in
        record {
          ok = record {
            start = omega arith;
            none = λ e. refl;
            dead = λ e. absurd (some (rw q at e));
            here = λ l. rw q;
            empty = o.empty;
          };
          poor = λ e. absurd (some (rw q at e));
        }
    go false q =
        let p = ltb-false 0 c.stack q in
        record {
          ok = record {
            start = omega arith;
            none = λ e. refl;
            dead = λ e. q;
            here = λ l. absurd (true≢false (sym l ∙ q));
            empty = o.empty;
          };
          poor = λ e. omega (arith, p);
        }

pub fresh_pays : (c : Chair) (m : ℕ) → Fresh c → Fresh (paid_of c m)
fresh_pays c m f = record { ok = ok_pays c m f.ok f.poor; poor = λ e. omega (arith, f.poor e) }

no_fresh : Fresh no_chair
no_fresh = record { ok = no_ok; poor = λ e. refl }

pub fresh_ok : (cs : List Chair) → All Fresh cs → All ChairOk cs
fresh_ok [] a = tt
fresh_ok (c ∷ cs) a = (a.0.ok, fresh_ok cs a.1)

pub fresh_post : (cs : List Chair) (x m : ℕ) → All Fresh cs → All Fresh (put_at cs x (paid_of (chair_at cs x) m))
fresh_post cs x m a = all_put Fresh cs x (paid_of (chair_at cs x) m) a (fresh_pays (chair_at cs x) m (all_at Fresh cs x no_fresh a))
