-- `put_state` meets its contract: two lines behind two lines.
use native.Mathlib.Omega.{arith}
use Rattle.writing.proofs.Sheets.{then}
use Rattle.answers.proofs.Blocks.{state_count, two_count}
use Rattle.answers.specs.Answer.{state_bytes, key_n, key_code, key_turn, key_mark}
use Rattle.answers.proofs.put_state.Goals as goal

pub put_code-at-requires : goal.put_code-at-requires
put_code-at-requires c = let s = c in omega (arith, state_count s.args.n s.args.code s.args.turn s.args.mark, two_count key_n s.args.n key_code s.args.code)

pub slice_bounds-put_turn-count : goal.slice_bounds-put_turn-count
slice_bounds-put_turn-count c = let s = c in omega (arith, state_count s.args.n s.args.code s.args.turn s.args.mark, two_count key_n s.args.n key_code s.args.code)

pub slice_bounds-put_turn-start : goal.slice_bounds-put_turn-start
slice_bounds-put_turn-start c = let s = c in omega (arith, state_count s.args.n s.args.code s.args.turn s.args.mark, two_count key_n s.args.n key_code s.args.code)

pub put_turn-requires : goal.put_turn-requires
put_turn-requires c = let s = c in omega (arith, state_count s.args.n s.args.code s.args.turn s.args.mark, two_count key_n s.args.n key_code s.args.code, two_count key_turn s.args.turn key_mark s.args.mark)

pub overflow_add-result : goal.overflow_add-result
overflow_add-result c = let s = c in omega (arith, state_count s.args.n s.args.code s.args.turn s.args.mark, two_count key_n s.args.n key_code s.args.code, two_count key_turn s.args.turn key_mark s.args.mark)

pub returns : goal.returns
unfolding state_bytes
returns c = then c.put_code-at.ensures c.put_turn.ensures
