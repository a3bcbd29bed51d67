-- Request No. 9, "State for any place of the cuts": a log in parts, none and empty ones too, from the start over each part, fed until it is used up, to the close.
-- Each call is lent a sheet of `room` bytes. Assumes nothing.
use Rattle.std.specs.Prelude.{ℕ, zero, suc, List, [], ◌∷◌, length, drop, eqb}
pub use Rattle.laws.specs.Lists.{whole}
use Rattle.laws.specs.Tests.{pick}
use Rattle.lines.specs.Kept.{fill_of}
use Rattle.stream.specs.declared.Clerk.{Clerk}
use Rattle.stream.specs.Onward.{Given, still, and_then, closing}
use Rattle.stream.specs.Feeding.{state_of, kept_by, clerk_in, start_of, heard_of, used_of, buffer_of}

-- the clerk after some calls, its buffer, and what was given
pub record Served : Type 0 where
  pub clerk : Clerk
  pub buf : List ℕ
  pub given : Given

abbrev pub idle : Clerk → List ℕ → Served
idle c buf = record { clerk = c; buf = buf; given = still (state_of c) (kept_by c buf) }

abbrev pub following : Served → Served → Served
following x y = record { clerk = y.clerk; buf = y.buf; given = and_then x.given y.given }

-- one call of `feed`
abbrev pub called_of : ℕ → Clerk → List ℕ → List ℕ → Given
called_of room c buf part = heard_of room c buf part (used_of c buf part room)

unfoldable pub call_of : ℕ → Clerk → List ℕ → List ℕ → Served
call_of room c buf part = record {
  clerk = clerk_in c.table (called_of room c buf part).state (fill_of (called_of room c buf part).kept);
  buf = buffer_of c buf part room;
  given = called_of room c buf part;
}

-- a part is fed until it is used up. The first number bounds the calls; each uses up a byte at least
abbrev pub part_from : ℕ → ℕ → Clerk → List ℕ → List ℕ → Served
part_from zero room c buf part = idle c buf
part_from (suc k) room c buf part =
    pick (eqb (length part) 0) (idle c buf)
    (following (call_of room c buf part)
    (part_from k room (call_of room c buf part).clerk (call_of room c buf part).buf (drop (used_of c buf part room) part)))

-- part after part
abbrev pub parts_from : ℕ → Clerk → List ℕ → List (List ℕ) → Served
parts_from room c buf [] = idle c buf
parts_from room c buf (p ∷ ps) =
    following (part_from (length p) room c buf p) (parts_from room (part_from (length p) room c buf p).clerk (part_from (length p) room c buf p).buf ps)

-- what `close` gives
abbrev pub closed_of : ℕ → Served → Given
closed_of room x = and_then x.given (closing room (state_of x.clerk) (kept_by x.clerk x.buf))

unfoldable pub served_of : ℕ → List ℕ → List (List ℕ) → Given
served_of room buf parts = closed_of room (parts_from room start_of buf parts)
