-- `hand_of` meets its contract: where a block settled no hand there is none. Assumes nothing.
use borrow.Author.Rules.{rules}
use Rattle.shared.proofs.Laws.{sound_game, hand_settled, hand_none}
use Rattle.shared.proofs.hand_of.Goals as goal

pub royal_now-requires : goal.royal_now-requires
royal_now-requires c = sound_game c.args.t c.requires

pub returns-then-j : goal.returns-then-j
returns-then-j c = hand_settled _ _ (search rules) c.royal_now.ensures

pub returns : goal.returns
returns c = hand_none _ _ (search rules)
