-- However the input is chopped: what a feed writes, and then what is written to the rest, is what bytes that come one by one get; for every rest, and so for
-- parts cut anywhere, empty ones too. Assumes nothing.
use mathlib.Core.Path.{◌≡◌, refl}
use mathlib.Core.Bool.{Bool, true, false}
use mathlib.Core.List.{List, [], ◌∷◌, ◌++◌}
use Prim.Native.Nat.{ℕ, ◌<◌}
use lib.Dec.{leb}
use borrow.Author.Tests.{lt-ltb, le-ltb, leb-true, leb-false}
use Rattle.rounds.specs.RoundParts.{Kept, keep_of, gather_of, kept_after, bytes_after, heard_from}

-- one feed, for every rest
pub fed_onward : (k : Kept) (part more : List ℕ) → k.lines < 16
    → heard_from k (part ++ more) ≡ bytes_after (gather_of k part).kept ++ heard_from (kept_after (gather_of k part).kept) ((gather_of k part).left ++ more)
fed_onward k [] more h = rw (lt-ltb k.lines 16 h)
fed_onward k (b ∷ bs) more h = go (leb 16 (keep_of k b).lines) refl (λ w. fed_onward (keep_of k b) bs more w)
  where
    go : (t : Bool) → leb 16 (keep_of k b).lines ≡ t
        → ((keep_of k b).lines < 16 → heard_from (keep_of k b) (bs ++ more) ≡ bytes_after (gather_of (keep_of k b) bs).kept ++ heard_from (kept_after (gather_of (keep_of k b) bs).kept) ((gather_of (keep_of k b) bs).left ++ more))
        → heard_from k (b ∷ bs ++ more) ≡ bytes_after (gather_of k (b ∷ bs)).kept ++ heard_from (kept_after (gather_of k (b ∷ bs)).kept) ((gather_of k (b ∷ bs)).left ++ more)
    go true e r = rw (e, le-ltb (keep_of k b).lines 16 (leb-true 16 (keep_of k b).lines e))
    go false e r = rw e (r (leb-false 16 (keep_of k b).lines e))
