-- `whole_block` meets its contract: a copy has room, since it is no longer than its block.
use Rattle.copier.proofs.Steps.{block_gave}
use Rattle.copier.proofs.whole_block.Goals as goal

pub returns : goal.returns
returns c = let s = c in
    let k = c.copy_block-k in
    let n = c.write_note-noted in
    record { gave = block_gave s.args.s s.args.count s.args.block.now s.args.copy.now s.args.notes.now s.requires.0 s.requires.1 c.next_number-n.ensures.0 k.ensures.answer k.ensures.bytes n.ensures.bytes c.behind-d.ensures.0; held = (c.behind-d.ensures.1, k.ensures.within, n.ensures.within) }
