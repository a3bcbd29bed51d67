-- The line of a bad sheet gives `code` the paper's number. Assumes nothing.
use mathlib.Core.List.{[], ◌∷◌}
use mathlib.Core.Path.{◌≡◌, refl}
use Rattle.std.specs.Prelude.{Err}
use Rattle.paper.specs.declared.refusal.Refusal.TheVariants.{BadSheet}
use Rattle.text.specs.Line.{number_line}
use Rattle.text.specs.Number.{digits}
use Rattle.text.specs.Codes.{code_of_opening, eleven}

pub eleven_says : eleven ≡ number_line (99 ∷ 111 ∷ 100 ∷ 101 ∷ []) (code_of_opening (Err BadSheet))
unfolding number_line digits
eleven_says = refl
