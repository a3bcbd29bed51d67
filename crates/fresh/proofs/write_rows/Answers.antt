-- `write_rows` meets its contract.
use Rattle.fresh.proofs.Steps.{rowed_turn, index_turn, rowed_most}
use Rattle.fresh.specs.Reading.{rows_begun, index_from}
use Rattle.records.specs.Stored.{entry_in}
use Rattle.table.specs.declared.table.Table.{Table}
use mathlib.Core.Path.{◌≡◌, refl, ap, ◌∙◌}
use Prim.Native.Nat.{ℕ}
use native.Mathlib.Omega.{arith}
use borrow.Author.Rules.{rules}
use Rattle.fresh.proofs.write_rows.Goals as goal

pub new_table-t-requires : goal.new_table-t-requires
new_table-t-requires c = c.requires.0

pub loop-k-init : goal.loop-k-init
loop-k-init c = (refl, refl, c.new_table-t.ensures.1, omega arith, refl)

pub row_one-p-requires : goal.row_one-p-requires
row_one-p-requires c = (c.loop-k.invariant.2, c.loop-k.invariant.3, omega arith)

pub loop-k-preserved : goal.loop-k-preserved
loop-k-preserved c = let f = entry_in c.args.log.now in (rowed_turn _ f c.loop-k.k c.loop-k.invariant.0 c.row_one-p.ensures.rowed.0, index_turn _ f c.loop-k.k _ c.loop-k.invariant.0 c.loop-k.invariant.1 c.row_one-p.ensures.index, c.row_one-p.ensures.rowed.1, rowed_most c.loop-k.p c.loop-k.k _ c.loop-k.invariant.3 c.row_one-p.ensures.rowed.0, search rules)

pub shape_of-index : goal.shape_of-index
shape_of-index c = c.loop-k.invariant.4

pub returns : goal.returns
returns c = let f = entry_in c.args.log.now in let n : c.loop-k.k ≡ c.args.count = omega arith in c.loop-k.invariant.1 ∙ ap (λ (t : Table). index_from (record { table = t; hands = 0 }) f c.loop-k.k c.args.index.now) c.new_table-t.ensures.0 ∙ ap (λ (k : ℕ). index_from (rows_begun c.args.sheet) f k c.args.index.now) n
