-- `read_on` meets its contract: each turn reads the record that the reader comes to.
use Rattle.std.proofs.Common.{◌≡◌, ◌+◌, ◌∙◌, refl, sym, ap, ap₂, arith}
use Rattle.std.proofs.Math.Numerals.{add-one}
use Rattle.std.specs.Prelude.{Option, unwrap_or}
use Rattle.records.specs.Stored.{no_record, record_at, behind}
use Rattle.records.specs.declared.Record.{Record}
use Rattle.records.specs.declared.Reader.{Reader}
use Rattle.paper.specs.declared.Entry.{Entry}
use Rattle.fresh.specs.declared.Played.{Played}
use Rattle.fresh.specs.Reading.{played_of, entry_or, read_to, place_to, met}
use Rattle.fresh.proofs.read_on.Goals as goal

pub loop-k-init : goal.loop-k-init
loop-k-init c = (refl, c.requires, ap (λ r. r.now) c.new-reader.ensures.0, c.new-reader.ensures.1)

pub loop-k-preserved : goal.loop-k-preserved
loop-k-preserved c =
    let v = c.loop-k.invariant in
    let a = c.args in
    let log = a.log.now in
    let k = c.loop-k.k in
    let got : c.unwrap_or-got.result ≡ met log k =
    c.unwrap_or-got.ensures ∙ ap (λ (o : Option Record). unwrap_or o no_record) (c.next.ensures.got ∙ ap₂ record_at v.2 v.3) in
    let e : c.entry_or.result ≡ entry_or k a.at a.e (met log k) = c.entry_or.ensures ∙ ap (entry_or k a.at a.e) got in (
      c.play_on-p.ensures.0 ∙ ap₂ (λ (p : Played) (x : Entry). played_of p (k + 1) x) v.0 e ∙ ap (read_to a.start log a.at a.e) (sym (add-one k)),
      c.play_on-p.ensures.1,
      ap (λ (r : Reader). r.log.now) c.next.ensures.rest ∙ v.2,
      ap (λ (r : Reader). r.at) c.next.ensures.rest ∙ ap₂ behind v.2 v.3 ∙ ap (place_to log) (sym (add-one k)),
    )

pub returns : goal.returns
returns c =
    let a = c.args in
    let all : c.loop-k.k ≡ a.count = omega arith in
    (c.loop-k.invariant.0 ∙ ap (read_to a.start a.log.now a.at a.e) all, c.loop-k.invariant.1)
