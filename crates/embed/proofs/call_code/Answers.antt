-- `call_code` meets its contract.
use Rattle.embed.proofs.Codes.{code_state, code_out, code_counts, code_none}
use Rattle.embed.proofs.call_code.Goals as goal

pub returns-then-state-lt-STATE : goal.returns-then-state-lt-STATE
returns-then-state-lt-STATE c = let r = code_state c.args.state c.args.out c.args.counts c.args.want c.if-state-lt-STATE.true in record { is = r.0; room = r.1 }

pub returns-then-out-lt-LONGEST : goal.returns-then-out-lt-LONGEST
returns-then-out-lt-LONGEST c = let r = code_out c.args.state c.args.out c.args.counts c.args.want c.if-state-lt-STATE.false c.if-out-lt-LONGEST.true in record { is = r.0; room = r.1 }

pub returns-then-counts-want : goal.returns-then-counts-want
returns-then-counts-want c = let r = code_counts c.args.state c.args.out c.args.counts c.args.want c.if-state-lt-STATE.false c.if-out-lt-LONGEST.false c.if-counts-want.true in record { is = r.0; room = r.1 }

pub returns : goal.returns
returns c = let r = code_none c.args.state c.args.out c.args.counts c.args.want c.if-state-lt-STATE.false c.if-out-lt-LONGEST.false c.if-counts-want.false in record { is = r.0; room = r.1 }
