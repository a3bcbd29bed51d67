-- Request No. 9: "A line that grows past 32 bytes is marked bad at once, but its block still ends at its fifth LF": a block that is marked bad gets 1, whole or at
-- the close, a sheet 11, and before the last LF nothing is answered. For any bytes. Assumes nothing.
use Prim.Native.Nat.{ℕ, ◌≤◌, ◌<◌}
use mathlib.Core.Bool.{true}
use mathlib.Core.Path.{◌≡◌, refl, ap}
use mathlib.Core.List.{List, []}
use Rattle.std.specs.Prelude.{Result, Err}
use Rattle.paper.specs.declared.Sheet.{Sheet}
use Rattle.paper.specs.declared.refusal.Refusal.TheVariants.{BadSheet}
use Rattle.paper.specs.declared.refusal.Refusal.{Refusal}
use Rattle.text.specs.Line.{after_lines}
use Rattle.blocks.specs.declared.Block.{Block}
use Rattle.lines.specs.Kept.{nothing, keep_all}
use Rattle.lines.proofs.Cut.{lfs}
use Rattle.text.specs.TableSheet.{sheet_lines}
use Rattle.desk.specs.Log.{lone_read, opened_of}
use Rattle.lines.proofs.Bad.{bad_block, bad_sheet}
use Rattle.paper.specs.RefusalNumbers.{malformed}
use Rattle.table.specs.declared.table.Table.{Table}
use Rattle.desk.specs.Desk.{judge_block, judged_of}
use Rattle.stream.specs.Onward.{Unread, Open, still, open_of, lines_done, onward}
use Rattle.stream.proofs.AtOnce.{open_onward}

-- its code is 1, its number 0, and the table stays
pub bad_is_1 : (t : Table) (raw : List ℕ) → (keep_all nothing raw).bad ≡ true → lfs raw ≤ 5 → after_lines 5 raw ≡ [] → ((judged_of t raw).code ≡ malformed) × ((judged_of t raw).table ≡ t)
unfolding judged_of
bad_is_1 t raw h l e =
    let b = bad_block raw h l e in
    (ap (λ (x : Block). (judge_block t x).code) b, ap (λ (x : Block). (judge_block t x).table) b)

-- an unfinished block is silent: no code, no byte, the same table
pub open_silent : (room : ℕ) (t : Table) (raw : List ℕ) → lfs raw < 5 → onward room (Open t) nothing raw ≡ still (Open t) (keep_all nothing raw)
open_silent room t raw h = open_onward room (Open t) raw refl h

-- the sheet's lines likewise: 11, and the box is shut; and before its last LF nothing
pub bad_is_11 : (room : ℕ) (raw : List ℕ) → (keep_all nothing raw).bad ≡ true → lfs raw ≤ sheet_lines → after_lines sheet_lines raw ≡ []
    → lines_done room Unread raw ≡ open_of room (Err BadSheet)
unfolding opened_of
bad_is_11 room raw h l e = ap (λ (o : Result Sheet Refusal). open_of room (lone_read o)) (bad_sheet raw h l e)

pub sheet_silent : (room : ℕ) (raw : List ℕ) → lfs raw < sheet_lines → onward room Unread nothing raw ≡ still Unread (keep_all nothing raw)
sheet_silent room raw h = open_onward room Unread raw refl h
