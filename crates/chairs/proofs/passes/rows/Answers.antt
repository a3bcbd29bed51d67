-- `rows` meets its contract: nothing is read off the chairs above the seats. Assumes nothing.
use borrow.Author.Rules.{rules}
use mathlib.Core.Path.{◌≡◌, refl, ◌∙◌}
use lib.ListN.{length}
use Rattle.chairs.specs.Chairs.{column_of}
use Rattle.chairs.specs.What.{Total, Sitting, Live, Here}
use Rattle.chairs.proofs.Above.{column_seats, mask_seats}
use Rattle.chairs.proofs.passes.rows.Goals as goal

pub returns : goal.returns
returns c =
    let cs = c.args.cs in
    let n = c.args.seats in
    let h = c.requires in
    let len : length cs ≡ 10 = search rules in (
      c.column.ensures (column_of Total) (λ d r f. search rules) ∙ column_seats (column_of Total) refl n 10 cs len h.few h.above,
      c.column-2.ensures (column_of Sitting) (λ d r f. search rules) ∙ column_seats (column_of Sitting) refl n 10 cs len h.few h.above,
      c.mask.ensures (column_of Live) (λ d r f. search rules) ∙ mask_seats (column_of Live) refl n cs h.above,
      c.mask-2.ensures (column_of Here) (λ d r f. search rules) ∙ mask_seats (column_of Here) refl n cs h.above,
    )
