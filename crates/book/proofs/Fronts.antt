-- The block at the front of a part, and what an entry's text takes: the bounds that the program's functions promise. Assumes nothing.
use Prim.Native.Nat.{ℕ, ◌-◌, ◌≤◌, ◌<◌}
use mathlib.Core.Path.{◌≡◌, sym, ap, ◌∙◌}
use mathlib.Core.Bool.{Bool, true, false}
use mathlib.Core.List.{List}
use native.Mathlib.Omega.{arith}
use lib.ListN.{length}
use Rattle.std.specs.Prelude.{Result, Ok}
use Rattle.paper.specs.declared.refusal.Refusal.{Refusal}
use Rattle.lines.specs.Kept.{lines_of}
use Rattle.blocks.specs.Block.{rest_of}
use Rattle.blocks.specs.Front.{front_of}
use Rattle.blocks.specs.declared.front.Front.{Front}
use Rattle.blocks.proofs.Blocks.{rest_shorter}
use Rattle.logs.specs.LogText.{put_of}
use Rattle.logs.specs.FairCopy.{copied_as}
use Rattle.logs.proofs.Copies.{copied_within}

pub none_written : {w n : ℕ} → w ≡ 0 → w ≤ n
none_written e = omega arith

-- a sheet and a block have lines
pub some_lines : (opened : Bool) → 0 < lines_of opened
some_lines true = omega arith
some_lines false = omega arith

-- a block uses up no more bytes than there are, and one at least
pub front_used : (l : List ℕ) {f : Front} → f ≡ front_of l → (f.used ≤ length l) × (0 < length l → 0 < f.used)
front_used l {f} e =
    let u : f.used ≡ length l - length (rest_of l) = ap (λ (x : Front). x.used) e in
    (omega (arith, u), λ h. omega (arith, u, rest_shorter l h))

-- an entry that is written is within the buffer
pub put_within : (good : Bool) (bs buffer : List ℕ) {p : Result ℕ Refusal} {n : ℕ} → p ≡ put_of good bs buffer → p ≡ Ok n → n ≤ length buffer
put_within good bs buffer {p} {n} e q = omega (arith, copied_within good bs buffer, ap (λ (x : Result ℕ Refusal). (copied_as x).written) (sym q ∙ e))
