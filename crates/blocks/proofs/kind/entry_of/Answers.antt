-- `entry_of` meets its contract: the numbers make an entry, or they make none.
use Rattle.std.specs.Prelude.{Ok}
use Rattle.paper.specs.declared.Entry.{Entry}
use Rattle.blocks.proofs.Entries.{kind_known, entry_read, entry_none}
use mathlib.Core.Path.{sym, ap, ◌∙◌}
use Rattle.blocks.proofs.kind.entry_of.Goals as goal

pub entry_at-requires : goal.entry_at-requires
entry_at-requires c = kind_known c.args.kind c.args.seat c.args.a c.args.b (sym c.makes_entry.ensures ∙ c.if-makes_entry.true)

pub returns-then-makes_entry : goal.returns-then-makes_entry
returns-then-makes_entry c = ap (λ (e : Entry). Ok e) c.entry_at.ensures ∙ sym (entry_read c.args.kind c.args.seat c.args.a c.args.b (sym c.makes_entry.ensures ∙ c.if-makes_entry.true))

pub returns : goal.returns
returns c = sym (entry_none c.args.kind c.args.seat c.args.a c.args.b (sym c.makes_entry.ensures ∙ c.if-makes_entry.false))
