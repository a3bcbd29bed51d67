-- `start_code` meets its contract.
use Rattle.embed.proofs.Codes.{short_state, long_state}
use Rattle.embed.proofs.start_code.Goals as goal

pub returns-then-state-lt-STATE : goal.returns-then-state-lt-STATE
returns-then-state-lt-STATE c = let r = short_state c.args.state c.if-state-lt-STATE.true in record { is = r.0; room = r.1 }

pub returns : goal.returns
returns c = let r = long_state c.args.state c.if-state-lt-STATE.false in record { is = r.0; room = r.1 }
