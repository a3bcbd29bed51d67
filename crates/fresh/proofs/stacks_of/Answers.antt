-- `stacks_of` meets its contract: each seat's number is that of its chair.
use Rattle.std.proofs.Common.{◌≡◌, ◌<◌, ℕ, suc, List, [], ◌∷◌, map, length, get_or, refl, ap₂, arith, rules}
use Rattle.chairs.specs.declared.Chair.{Chair}
use Rattle.chairs.proofs.Laws.{unread}
use Rattle.fresh.specs.Reading.{stack_of}
use Rattle.fresh.proofs.stacks_of.Goals as goal

mapped : (f : Chair → ℕ) (cs : List Chair) (ss : List ℕ) → length ss ≡ length cs → ((i : ℕ) → i < length cs → get_or ss i 0 ≡ f (get_or cs i unread)) → ss ≡ map f cs
mapped f [] [] e h = refl
mapped f [] (s ∷ ss) e h = absurd (omega arith)
mapped f (c ∷ cs) [] e h = absurd (omega arith)
mapped f (c ∷ cs) (s ∷ ss) e h = ap₂ (λ x xs. x ∷ xs) (h 0 (omega arith)) (mapped f cs ss (omega arith) (λ i l. h (suc i) (omega arith)))

pub returns : goal.returns
returns c =
    let n : length c.args.cs ≡ 10 = search rules in
    mapped stack_of c.args.cs c.map.result (omega arith) (λ i l. search rules)
