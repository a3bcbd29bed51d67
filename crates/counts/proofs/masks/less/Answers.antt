-- A bit taken out is a rank left out.
use mathlib.Core.Path.{refl}
use Rattle.counts.proofs.Masked.{less_is}
use Rattle.counts.proofs.masks.less.Goals as goal

pub returns : goal.returns
returns c = let r = less_is c.args.m c.args.r _ c.requires.0 c.requires.1 refl in record { are = r.0; short = r.1 }
