-- `pack` meets its contract.
use Rattle.packed.proofs.Again.{packed_is}
use mathlib.Core.Path.{refl}
use Rattle.packed.proofs.pack.Goals as goal

pub returns : goal.returns
returns c = let r = packed_is c.args.c c.put_head-at.ensures.wrote c.put_chairs.ensures.wrote refl c.put_head-at.ensures.fits c.put_chairs.ensures.fits in record { bytes = r.0; back = r.1 }
