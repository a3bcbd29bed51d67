-- `round_backs` meets its contract.
use Rattle.banked.proofs.Folds.{fold_stakes}
use Rattle.banked.specs.Rounds.{is_fold}
use mathlib.Core.Bool.{true}
use mathlib.Core.Path.{◌≡◌, sym, ◌∙◌}
use Rattle.banked.proofs.judged.round_backs.Goals as goal

pub folded_backs-requires : goal.folded_backs-requires
folded_backs-requires c = let s = c.requires in
    let f = fold_stakes c.args.r (sym c.is_fold.ensures ∙ c.if-is_fold.true) in
    (s.1, rw s.0 f.0, rw s.0 f.1, rw s.0 f.2)

pub returns-then-is_fold : goal.returns-then-is_fold
returns-then-is_fold c = let s = c.requires in
    let t : is_fold c.args.r.choice ≡ true = sym c.is_fold.ensures ∙ c.if-is_fold.true in
    (rw (t, sym s.0) c.folded_backs.ensures.0, c.folded_backs.ensures.1)

pub returns : goal.returns
returns c = let s = c.requires in
    (rw (sym c.is_fold.ensures ∙ c.if-is_fold.false, sym s.0) c.backs_of.ensures.0, c.backs_of.ensures.1)
