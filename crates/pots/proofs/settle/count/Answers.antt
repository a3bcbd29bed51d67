-- `count` meets its contract: the ones of the mask's ten lowest bits.
-- Assumes nothing.
use Rattle.std.proofs.Common.{◌≡◌, ℕ, zero, suc, ◌+◌, ◌*◌, ◌/◌, ◌%◌, ◌^◌, ◌<◌, sym, ap, add-one, ◌∙◌, arith}
use Rattle.std.specs.Prelude.{count_ones}
use Rattle.std.proofs.lemmas.Nat.{ones_cat, ones_le_self, mod-pow-add}
use Rattle.std.specs.Int.Count.{ones-ones}
use Rattle.pots.specs.Settle.{ones}
use Rattle.pots.proofs.settle.count.Goals as goal

one_bit : (r : ℕ) → r < 2 → count_ones r ≡ r
one_bit zero l = omega (arith, ones_le_self 0)
one_bit (suc zero) l = ones-ones 1
one_bit (suc (suc r)) l = absurd (omega (arith, l))

low_ones : (n m : ℕ) → count_ones (m % 2 ^ n) ≡ ones n m
unfolding ones
low_ones zero m =
    let e : m % 2 ^ 0 ≡ 0 = omega arith in
    ap count_ones e ∙ one_bit 0 (omega arith)
low_ones (suc n) m =
    let e : m % 2 ^ (n + 1) ≡ (m / 2 % 2 ^ n) * 2 + m % 2 = mod-pow-add m n 1 in
    let s : m % 2 ^ suc n ≡ m % 2 ^ (n + 1) = ap (λ k. m % 2 ^ k) (sym (add-one n)) in
    let l : m % 2 < 2 = omega arith in
    ap count_ones (s ∙ e) ∙ ones_cat 1 (m / 2 % 2 ^ n) (m % 2) l ∙ (omega (arith, low_ones n (m / 2), one_bit (m % 2) l))

pub returns : goal.returns
returns c = low_ones 10 c.args.mask
