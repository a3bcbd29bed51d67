-- `cards::asked::any_twice` meets its contract: what is left of the cards decides. Assumes nothing.
use mathlib.Core.Path.{◌≡◌, sym, ap, ◌∙◌}
use mathlib.Core.Bool.{Bool}
use mathlib.Core.List.{List}
use Prim.Native.Nat.{ℕ, ◌+◌, ◌-◌}
use native.Mathlib.Omega.{arith}
use lib.ListN.{length, take, drop, length-drop}
use Rattle.std.proofs.Common.{take_all}
use Rattle.cards.specs.Reading.{is_among}
use Rattle.laws.proofs.Some.{some_here, some_next, some_end}
use Rattle.cards.proofs.asked.any_twice.Goals as goal

-- the slice behind a card is the cards behind it
behind : (l : List ℕ) (i x : ℕ) {b t : Bool} → b ≡ is_among x (take (length l - (i + 1)) (drop (i + 1) l)) → b ≡ t → is_among x (drop (i + 1) l) ≡ t
behind l i x e q = ap (is_among x) (sym (take_all (length l - (i + 1)) (drop (i + 1) l) (omega (arith, length-drop (i + 1) l)))) ∙ sym e ∙ q

pub returns-then-is_among : goal.returns-then-is_among
returns-then-is_among c =
    let s = c.args.cards.now in
    sym (some_here 0 (λ (x : ℕ) (l : List ℕ). is_among x l) s c.loop-i.i c.loop-i-test.true (behind s c.loop-i.i _ c.is_among.ensures c.if-is_among.true)) ∙ c.loop-i.invariant

pub loop-i-preserved : goal.loop-i-preserved
loop-i-preserved c =
    let s = c.args.cards.now in
    sym (some_next 0 (λ (x : ℕ) (l : List ℕ). is_among x l) s c.loop-i.i c.loop-i-test.true (behind s c.loop-i.i _ c.is_among.ensures c.if-is_among.false)) ∙ c.loop-i.invariant

pub returns : goal.returns
returns c = sym (some_end 0 (λ (x : ℕ) (l : List ℕ). is_among x l) c.args.cards.now c.loop-i.i c.loop-i-test.false) ∙ c.loop-i.invariant
