-- `last_hand` meets its contract: each turn goes on behind a record that is there.
use Rattle.std.proofs.Common.{◌≡◌, ◌+◌, ◌-◌, ◌≤◌, ◌∙◌, ℕ, List, length, sym, ap, ap₂, arith}
use Rattle.std.specs.Prelude.{Option, Some, None, is_some}
use Rattle.records.specs.declared.Record.{Record}
use Rattle.records.specs.declared.Reader.{Reader}
use Rattle.records.specs.Stored.{record_at, behind}
use Rattle.records.specs.Reading.{last_on, last_hand, later_of}
use Rattle.records.proofs.Found.{here_long, next_is, turn, done, all_of}
use Rattle.records.proofs.last_hand.Goals as goal

pub loop-r-init : goal.loop-r-init
loop-r-init c =
    let log = ap (λ r. r.now) c.new-reader.ensures.0 in
    let at = c.new-reader.ensures.1 in
    (log, (length c.args.log.now, (ap (λ (k : ℕ). last_on (length c.args.log.now) c.args.log.now k 0) at ∙ all_of c.args.log.now, omega arith)))

-- eight bytes are left where the reader came to a record, and it goes on behind them
module _ (log : List ℕ) (r : Reader) (same : r.log.now ≡ log) {got : Option Record} {x : Record} (e : got ≡ record_at r.log.now r.at) (is : got ≡ Some x) where
  there : record_at log r.at ≡ Some x
  there = sym (ap (λ (l : List ℕ). record_at l r.at) same) ∙ sym e ∙ is

  pub long : 8 ≤ length log - r.at
  long = here_long log r.at (ap (λ (o : Option Record). is_some o) there)

  pub on : behind r.log.now r.at ≡ r.at + 8
  on = ap (λ (l : List ℕ). behind l r.at) same ∙ next_is log r.at long

pub loop-r-smaller : goal.loop-r-smaller
loop-r-smaller c =
    let v = c.loop-r.invariant in
    let log = c.args.log.now in
    let h = long log c.loop-r.reader v.0 c.next.ensures.got c.in-Some.is in
    let a : c.next.new.self.at ≡ c.loop-r.reader.at + 8 = ap (λ (r : Reader). r.at) c.next.ensures.rest ∙ on log c.loop-r.reader v.0 c.next.ensures.got c.in-Some.is in
    omega (arith, h, a)

pub loop-r-preserved : goal.loop-r-preserved
loop-r-preserved c =
    let v = c.loop-r.invariant in
    let log = c.args.log.now in
    let f = v.1.0 in
    let at = c.loop-r.reader.at in
    let h = long log c.loop-r.reader v.0 c.next.ensures.got c.in-Some.is in
    let a : c.next.new.self.at ≡ at + 8 = ap (λ (r : Reader). r.at) c.next.ensures.rest ∙ on log c.loop-r.reader v.0 c.next.ensures.got c.in-Some.is in
    let last : c.later-last.result ≡ later_of c.loop-r.last (at + 8) c.in-Some.r = c.later-last.ensures ∙ ap (λ (k : ℕ). later_of c.loop-r.last k c.in-Some.r) a in
    let goes : last_on (f - 1) log c.next.new.self.at c.later-last.result ≡ last_hand log =
    ap₂ (last_on (f - 1) log) a last ∙ sym (turn log f at c.loop-r.last (there log c.loop-r.reader v.0 c.next.ensures.got c.in-Some.is) v.1.1.1) ∙ v.1.1.0 in
    (ap (λ (r : Reader). r.log.now) c.next.ensures.rest ∙ v.0, (f - 1, (goes, omega (arith, h, a, v.1.1.1))))

pub returns : goal.returns
returns c =
    let v = c.loop-r.invariant in
    let log = c.args.log.now in
    let gone : record_at log c.loop-r.reader.at ≡ None =
    sym (ap (λ (l : List ℕ). record_at l c.loop-r.reader.at) v.0) ∙ sym c.next.ensures.got ∙ c.in_default.is in
    sym (done log v.1.0 c.loop-r.reader.at c.loop-r.last gone) ∙ v.1.1.0
