-- The sittings at a table's chairs, and those dealt in there, are among the sittings handed out so far, whatever entry is taken. Assumes nothing.
use Prim.Native.Nat.{ℕ, zero, suc, ◌+◌, ◌≤◌}
use mathlib.Core.Bool.{Bool, true, false}
use mathlib.Core.List.{List, [], ◌∷◌, map}
use native.Mathlib.Omega.{arith}
use lib.ListN.{replicate}
use lib.Dec.{leb, ltb}
use Rattle.laws.specs.Tests.{pick}
use Rattle.paper.specs.declared.Entry.{Entry}
use Rattle.paper.specs.declared.Entry.TheVariants.{Sit, Leave, Hand, Hole, Fold, Check, Call, Wager, Board, Dead, Settle, Void}
use Rattle.chairs.specs.Chairs.{Numbered, no_chair, chair_at, put_at, sweep_of, paid_of, dealt_of, close_all}
use Rattle.laws.specs.Lists.{All}
use Rattle.chairs.specs.declared.Chair.{Chair}
use Rattle.chairs.specs.Sweep.{Again, Round, Deal}
use Rattle.table.specs.Betting.{after_act, is_full_lift, folded_to, checked_to, called_to, wagered_to, dead_to, new_round}
use Rattle.table.specs.Sittings.{sat_to, left_to}
use Rattle.table.specs.Opening.{next_dealt_in, opened_to, posted_to}
use Rattle.table.specs.Dealing.{held_to, boarded_to}
use Rattle.table.specs.Settle.{settled_to, payout_now}
use Rattle.table.specs.Take.{applied_to}
use Rattle.table.specs.declared.table.Table.{Table}
use Rattle.chairs.proofs.Over.{all_at, all_put, all_map}

pub none_numbered : (k n : ℕ) → All (Numbered k) (replicate n no_chair)
none_numbered k zero = tt
none_numbered k (suc n) = (record { here = omega arith; dealt = omega arith }, none_numbered k n)

pub number_at : (k : ℕ) (cs : List Chair) (s : ℕ) → All (Numbered k) cs → Numbered k (chair_at cs s)
number_at k cs s a = all_at (Numbered k) cs s (record { here = omega arith; dealt = omega arith }) a

-- a chair with the same sittings is put down
put_same : (k : ℕ) (cs : List Chair) (s : ℕ) (d : Chair) → All (Numbered k) cs → d.sitting ≤ k → d.dealt.sitting ≤ k → All (Numbered k) (put_at cs s d)
put_same k cs s d a p q = all_put (Numbered k) cs s d a (record { here = p; dealt = q })

sweep_all : (k : ℕ) (f : Chair → Chair) (cs : List Chair) → All (Numbered k) cs → ((c : Chair) → Numbered k c → Numbered k (f c)) → All (Numbered k) (map f cs)
sweep_all k f cs a h = all_map (Numbered k) (Numbered k) f cs a h

more : (k : ℕ) (cs : List Chair) → All (Numbered k) cs → All (Numbered (k + 1)) cs
more k [] a = tt
more k (c ∷ cs) a = (record { here = omega (arith, a.0.here); dealt = omega (arith, a.0.dealt) }, more k cs a.1)

dealt_in : (k : ℕ) (c : Chair) → Numbered k c → Numbered k (dealt_of c)
dealt_in k c h = record { here = h.here; dealt = go (ltb 0 c.stack) }
  where
    go : (b : Bool) → pick b c.sitting 0 ≤ k
    go true = h.here
    go false = omega arith

close_all_law : (k : ℕ) (cs : List Chair) (ps : List ℕ) → All (Numbered k) cs → All (Numbered k) (close_all cs ps)
close_all_law k [] ps a = tt
close_all_law k (c ∷ cs) [] a = (record { here = a.0.here; dealt = omega arith }, close_all_law k cs [] a.1)
close_all_law k (c ∷ cs) (p ∷ ps) a = (record { here = a.0.here; dealt = omega arith }, close_all_law k cs ps a.1)

all_pick : (b : Bool) (t u : Table) → All (Numbered t.sittings) t.chairs → All (Numbered u.sittings) u.chairs → All (Numbered (pick b t u).sittings) (pick b t u).chairs
all_pick true t u p q = p
all_pick false t u p q = q

pub numbered_applied : (t : Table) (e : Entry) → All (Numbered t.sittings) t.chairs → All (Numbered (applied_to t e).sittings) (applied_to t e).chairs
unfolding folded_to checked_to called_to wagered_to sat_to left_to dead_to held_to boarded_to opened_to new_round posted_to after_act settled_to
numbered_applied t (Sit s a) h =
    let c = number_at t.sittings t.chairs s h in
    put_same (t.sittings + 1) t.chairs s _ (more t.sittings t.chairs h) (omega arith) (omega (arith, c.dealt))
numbered_applied t (Leave s) h = let c = number_at t.sittings t.chairs s h in put_same t.sittings t.chairs s _ h (omega arith) c.dealt
numbered_applied t (Hand s) h =
    let k = t.sittings in
    let d = sweep_all k (sweep_of Deal) t.chairs h (dealt_in k) in
    let c = number_at k (map (sweep_of Deal) t.chairs) s d in
    let p = put_same k (map (sweep_of Deal) t.chairs) s (paid_of (chair_at (map (sweep_of Deal) t.chairs) s) t.sheet.small) d c.here c.dealt in
    let q = number_at k _ (next_dealt_in t s) p in
    put_same k _ (next_dealt_in t s) _ p q.here q.dealt
numbered_applied t (Hole s a b) h = let c = number_at t.sittings t.chairs s h in put_same t.sittings t.chairs s _ h c.here c.dealt
numbered_applied t (Fold s) h = let c = number_at t.sittings t.chairs s h in put_same t.sittings t.chairs s _ h c.here c.dealt
numbered_applied t (Check s) h = let c = number_at t.sittings t.chairs s h in put_same t.sittings t.chairs s _ h c.here c.dealt
numbered_applied t (Call s) h = let c = number_at t.sittings t.chairs s h in put_same t.sittings t.chairs s _ h c.here c.dealt
numbered_applied t (Wager s a) h =
    let c = number_at t.sittings t.chairs s h in
    put_same t.sittings _ s _ (sweep_all t.sittings (sweep_of (Again (is_full_lift t a))) t.chairs h (λ d n. record { here = n.here; dealt = n.dealt })) c.here c.dealt
numbered_applied t (Board k) h =
    all_pick (leb 3 (t.board.count + 1)) _ _ (sweep_all t.sittings (sweep_of Round) t.chairs h (λ d n. record { here = n.here; dealt = n.dealt })) h
numbered_applied t (Dead s) h = let c = number_at t.sittings t.chairs s h in put_same t.sittings t.chairs s _ h c.here c.dealt
numbered_applied t Settle h = close_all_law t.sittings t.chairs (payout_now t).paid h
numbered_applied t Void h = h
