-- `royal_in` meets its contract: with four hole cards, and with two. Assumes nothing.
use mathlib.Core.Path.{◌≡◌, ◌∙◌}
use mathlib.Core.Logic.{◌⊎◌, ⊎_elim}
use Prim.Native.Nat.{ℕ}
use Rattle.paper.proofs.Sheets.{game_is}
use Rattle.royal.proofs.royal_in.Goals as goal

two : (game : ℕ) → (game ≡ 2) ⊎ (game ≡ 4) → (game ≡ 4 → ⊥) → game ≡ 2
two game h n = ⊎_elim (λ e. e) (λ e. absurd (n e)) h

pub two_royal-requires : goal.two_royal-requires
two_royal-requires c = c.requires.1 ∙ two _ (game_is _ c.requires.0) c.if-game-eq4.false
