-- Five bits in a row, the ace below the two as well.
use mathlib.Core.Path.{◌∙◌}
use Rattle.counts.proofs.Masked.{row_short, foot_is}
use Rattle.counts.proofs.masks.row_foot.Goals as goal

pub top-requires : goal.top-requires
top-requires c = row_short c.args.m c.requires

pub returns : goal.returns
returns c = record { is = c.top.ensures.is ∙ foot_is c.args.m c.requires; small = c.top.ensures.small }
