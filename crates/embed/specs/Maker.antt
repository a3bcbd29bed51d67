-- A maker's run as the log arrives: each part is fed, call after call, until it is used up, and the bytes that each call wrote are taken off its output.
-- Each call is lent `room` bytes of output. Assumes nothing.
use Rattle.std.specs.Prelude.{ℕ, ◌<◌, ◌≡◌, List, [], ◌∷◌, ◌++◌, length, get_or, take, drop}
use Rattle.embed.specs.Lent.{FedIn}

-- FedWhole room state part state2 written: a part
pub data FedWhole : ℕ → List ℕ → List ℕ → List ℕ → List ℕ → Type 0 where
  used_up : (room : ℕ) (state : List ℕ) → FedWhole room state [] state []
  once_more : {room r : ℕ} {state part out counts state2 out2 counts2 state3 bs : List ℕ} → length out ≡ room → 0 < length part
      → FedIn state part out counts state2 out2 counts2 r → r ≡ 0 → FedWhole room state2 (drop (get_or counts2 1 0) part) state3 bs
      → FedWhole room state part state3 (take (get_or counts2 0 0) out2 ++ bs)

-- part after part
pub data FedAll : ℕ → List ℕ → List (List ℕ) → List ℕ → List ℕ → Type 0 where
  no_part : (room : ℕ) (state : List ℕ) → FedAll room state [] state []
  one_part : {room : ℕ} {state part state2 state3 bs cs : List ℕ} {parts : List (List ℕ)} → FedWhole room state part state2 bs → FedAll room state2 parts state3 cs
      → FedAll room state (part ∷ parts) state3 (bs ++ cs)
