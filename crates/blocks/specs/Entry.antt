-- Document 01, "The table sheet and the entries": "Once read, an entry is one of twelve kinds, each carrying only its own numbers". Of refusal 2 the
-- reading sees "unknown kind" and "an unused number not 0": such numbers make no entry. The ranges of the used numbers, by the same row of the paper's
-- table, are tested where the entry is taken (paper, `inRange`); together they are paper's `block_fits` (proofs/Entries, `read_fits` and `unread`).
use Rattle.std.specs.Prelude.{ℕ, [], ◌∷◌, get_or, Result, Ok, Err}
use Rattle.paper.specs.declared.refusal.Refusal.TheVariants.{OutOfRange}
use Rattle.paper.specs.declared.refusal.Refusal.{Refusal}
use Rattle.laws.specs.Tests.{pick}
use Rattle.paper.specs.SheetAndEntries.{made, makes_entry}
use Rattle.paper.specs.declared.Entry.{Entry}
use Rattle.paper.specs.declared.Entry.TheVariants.{Sit, Leave, Hand, Hole, Fold, Check, Call, Wager, Board, Dead, Settle, Void}

-- the entry of the k-th kind with these numbers
abbrev pub entry_at : ℕ → ℕ → ℕ → ℕ → Entry
entry_at k seat a b =
    get_or
    (Sit seat a
    ∷ Leave seat
    ∷ Hand seat
    ∷ Hole seat a b
    ∷ Fold seat
    ∷ Check seat
    ∷ Call seat
    ∷ Wager seat a
    ∷ Board a
    ∷ Dead seat
    ∷ Settle
    ∷ Void
    ∷ [])
    k Void

-- what a block's numbers are: an entry, or none
unfoldable pub parsed_of : ℕ → ℕ → ℕ → ℕ → Result Entry Refusal
parsed_of k seat a b = pick (makes_entry (made k seat a b)) (Ok (entry_at k seat a b)) (Err OutOfRange)
