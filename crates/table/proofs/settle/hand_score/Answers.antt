-- `hand_score` meets its contract: with four hole cards, and with two.
use mathlib.Core.Path.{◌≡◌, sym, ap, ◌∙◌}
use mathlib.Core.Logic.{◌⊎◌, ⊎_elim}
use Prim.Native.Nat.{ℕ}
use lib.ListN.{take}
use Rattle.paper.proofs.Sheets.{game_is}
use Rattle.table.specs.Settle.{hand_score}
use Rattle.table.proofs.settle.hand_score.Goals as goal

two : (game : ℕ) → (game ≡ 2) ⊎ (game ≡ 4) → (game ≡ 4 → ⊥) → game ≡ 2
two game h n = ⊎_elim (λ e. e) (λ e. absurd (n e)) h

pub four_score-requires : goal.four_score-requires
four_score-requires c = c.requires.1 ∙ c.if-game-eq4.true

pub returns-then-game-eq4 : goal.returns-then-game-eq4
returns-then-game-eq4 c =
    let a = c.args in
    c.four_score.ensures ∙ ap (λ (g : ℕ). hand_score a.deck g (take a.h.count a.h.cards) a.b.cards) (sym c.if-game-eq4.true)

pub two_score-requires : goal.two_score-requires
two_score-requires c = c.requires.1 ∙ two _ (game_is _ c.requires.0) c.if-game-eq4.false

pub returns : goal.returns
returns c =
    let s = c in
    let a = s.args in
    c.two_score.ensures ∙ ap (λ (g : ℕ). hand_score a.deck g (take a.h.count a.h.cards) a.b.cards) (sym (two a.game (game_is a.game s.requires.0) c.if-game-eq4.false))
