-- Bytes written behind bytes: what two writes wrote, one wrote. Assumes nothing.
use mathlib.Core.Path.{◌≡◌, ap, ap₂, ◌∙◌}
use mathlib.Core.List.{List, [], ◌∷◌, ◌++◌}
use Prim.Native.Nat.{ℕ, ◌+◌}
use native.Mathlib.Omega.{arith}
use lib.ListN.{length, set, length-append}
use Rattle.hands.specs.Answers.{written, WroteAt}

written_behind : (l : List ℕ) (at : ℕ) (bs cs : List ℕ) → written (written l at bs) (at + length bs) cs ≡ written l at (bs ++ cs)
unfolding written
written_behind l at [] cs = ap (λ (k : ℕ). written l k cs) (omega arith)
written_behind l at (b ∷ bs) cs =
    let e : at + length (b ∷ bs) ≡ at + 1 + length bs = omega arith in
    ap (λ (k : ℕ). written (written (set l at b) (at + 1) bs) k cs) e ∙ written_behind (set l at b) (at + 1) bs cs

pub next : {bs cs : List ℕ} {at r s : ℕ} {l m n : List ℕ} → WroteAt bs at l m r → WroteAt cs r m n s → WroteAt (bs ++ cs) at l n s
next {bs} {cs} {at} {r} {s} {l} {m} {n} p q = record {
  end = omega (arith, p.end, q.end, length-append bs cs);
  sheet = q.sheet ∙ ap₂ (λ (v : List ℕ) (k : ℕ). written v k cs) p.sheet p.end ∙ written_behind l at bs cs;
}
