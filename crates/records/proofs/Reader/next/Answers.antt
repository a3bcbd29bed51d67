-- `Reader::next` meets its contract: where a record is there, eight bytes are left.
use Rattle.std.proofs.Common.{◌≡◌, ◌-◌, ◌≤◌, ◌∙◌, true, length, sym, ap, arith}
use Rattle.std.specs.Prelude.{Option, is_some}
use Rattle.records.specs.declared.Record.{Record}
use Rattle.records.specs.Stored.{record_at}
use Rattle.records.proofs.Found.{here_long}
use Rattle.records.proofs.Reader.next.Goals as goal

pub overflow_add-self : goal.overflow_add-self
overflow_add-self c =
    let l = c.args.self.now.log.now in
    let at = c.args.self.now.at in
    let there : is_some (record_at l at) ≡ true = sym (ap (λ (o : Option Record). is_some o) c.record_at-got.ensures) ∙ sym c.is_some.ensures ∙ c.if-is_some.true in
    let h : 8 ≤ length l - at = here_long l at there in
    omega arith
