-- Issue 35: "As it arrives: start, feed, close over a lent state buffer .. so that a maker keeps one array. Each exported function .. refuses what is out of bounds
-- with a code and changes nothing". The state: the clerk in its first bytes (packed/specs/Layout), behind them the bytes of the unfinished sheet or block.
-- Assumes nothing.
use Rattle.std.specs.Prelude.{ℕ, ◌+◌, ◌≤◌, ◌<◌, ◌≡◌, List, [], ◌∷◌, ◌++◌, length, drop, ltb}
use Rattle.laws.specs.Tests.{pick}
use Rattle.writing.specs.AnswerSheet.{over, Wrote}
use Rattle.lines.specs.Kept.{kept_most}
use Rattle.stream.specs.Onward.{closing}
use Rattle.stream.specs.Feeding.{longest_answer, state_of, kept_by, Held, start_of, used_of}
use Rattle.stream.specs.Parts.{Served, call_of}
use Rattle.packed.specs.Layout.{fields_size, clerk_bytes, clerk_from}

abbrev pub state_size : ℕ
state_size = fields_size + kept_most

abbrev pub buffer_in : List ℕ → List ℕ
buffer_in state = drop fields_size state

-- request No. 12's premise, the only one: the same bytes come back and only the box writes there, so that in a state that is long enough stands a clerk
pub record KeptState (state : List ℕ) : Type 0 where
  pub held : state_size ≤ length state → Held (clerk_from state)

-- ---- what is refused: a state, an output, counts that are too short

abbrev pub no_state : ℕ
no_state = 1

abbrev pub no_out : ℕ
no_out = 2

abbrev pub no_counts : ℕ
no_counts = 3

abbrev pub start_code : ℕ → ℕ
start_code state = pick (ltb state state_size) no_state 0

-- of a call that writes so many counts
abbrev pub call_code : ℕ → ℕ → ℕ → ℕ → ℕ
call_code state out counts want = pick (ltb state state_size) no_state (pick (ltb out longest_answer) no_out (pick (ltb counts want) no_counts 0))

-- ---- the start

pub record StartedIn (state state2 : List ℕ) (r : ℕ) : Type 0 where
  pub code : r ≡ start_code (length state)
  pub refused : (r ≡ 0 → ⊥) → state2 ≡ state
  pub done : r ≡ 0 → state2 ≡ clerk_bytes start_of ++ buffer_in state
  pub back : r ≡ 0 → clerk_from state2 ≡ start_of
  pub kept : KeptState state2

-- ---- a part of the log: one call of the stream's `feed`, with the room that is lent

abbrev pub call_in : List ℕ → List ℕ → ℕ → Served
call_in state part room = call_of room (clerk_from state) (buffer_in state) part

abbrev pub used_in : List ℕ → List ℕ → ℕ → ℕ
used_in state part room = used_of (clerk_from state) (buffer_in state) part room

-- what it does: the clerk and the kept bytes after it are left in the state, and read back as they are
pub record CalledIn (state part out state2 out2 : List ℕ) (used written : ℕ) : Type 0 where
  pub uses : used ≡ used_in state part (length out)
  pub wrote : Wrote (call_in state part (length out)).given.bytes out out2 written
  pub leaves : state2 ≡ clerk_bytes (call_in state part (length out)).clerk ++ (call_in state part (length out)).buf
  pub back : clerk_from state2 ≡ (call_in state part (length out)).clerk
  pub held : Held (call_in state part (length out)).clerk
  pub within : (used ≤ length part) × (0 < length part → 0 < used) × (written ≤ length out)

-- how many bytes were written, and how many of the part were used up
abbrev pub counts_of : List ℕ → List ℕ → ℕ → List ℕ
counts_of state part room = length (call_in state part room).given.bytes ∷ used_in state part room ∷ []

pub record FedIn (state part out counts state2 out2 counts2 : List ℕ) (r : ℕ) : Type 0 where
  pub code : r ≡ call_code (length state) (length out) (length counts) 2
  pub refused : (r ≡ 0 → ⊥) → (state2 ≡ state) × (out2 ≡ out) × (counts2 ≡ counts)
  pub called : r ≡ 0
      → CalledIn state part out state2 out2 (used_in state part (length out)) (length (call_in state part (length out)).given.bytes)
  pub counted : r ≡ 0 → counts2 ≡ over (counts_of state part (length out)) counts
  pub kept : KeptState state2

-- ---- the close: the state is only read

abbrev pub closing_in : List ℕ → ℕ → List ℕ
closing_in state room = (closing room (state_of (clerk_from state)) (kept_by (clerk_from state) (buffer_in state))).bytes

pub record ClosedIn (state out counts out2 counts2 : List ℕ) (r : ℕ) : Type 0 where
  pub code : r ≡ call_code (length state) (length out) (length counts) 1
  pub refused : (r ≡ 0 → ⊥) → (out2 ≡ out) × (counts2 ≡ counts)
  pub wrote : r ≡ 0 → out2 ≡ over (closing_in state (length out)) out
  pub counted : r ≡ 0 → counts2 ≡ over (length (closing_in state (length out)) ∷ []) counts
