-- Some element of a list passes a test. Over any element type. Assumes nothing.
use Rattle.std.specs.Prelude.{Bool, false, ◌||◌, List, [], ◌∷◌}

-- the test is told of the element and of those after it
unfoldable pub some : {A : Type 0} → (A → List A → Bool) → List A → Bool
some f [] = false
some f (x ∷ xs) = f x xs || some f xs
