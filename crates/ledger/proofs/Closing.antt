-- What a judged entry or correction shows a payout of has no pots: the premise of the answer's bound (request No. 8). A correction never pays. Assumes nothing.
use mathlib.Core.Path.{◌≡◌, sym, subst}
use mathlib.Core.Bool.{Bool, true, false, false≢true}
use mathlib.Core.List.{List}
use Prim.Native.Nat.{ℕ, ◌-◌}
use lib.Dec.{eqb, leb}
use Rattle.std.specs.Prelude.{Result, Ok, Err}
use Rattle.paper.specs.declared.Entry.{Entry}
use Rattle.paper.specs.declared.refusal.Refusal.{Refusal}
use Rattle.laws.specs.Tests.{pick, both, either}
use Rattle.blocks.specs.declared.Block.{Block}
use Rattle.table.specs.Settle.{no_payout}
use Rattle.table.specs.declared.table.Table.{Table}
use Rattle.records.specs.Stored.{entry_in}
use Rattle.fresh.specs.Reading.{replacing, played_to}
use Rattle.fresh.specs.declared.Played.{Played}
use Rattle.desk.specs.Desk.{judge_block, refused_at, Closed}
use Rattle.desk.specs.declared.Judged.{Judged}
use Rattle.desk.proofs.Room.{block_closed}
use Rattle.amends.specs.Righting.{number_of, parsed_in, righted_by, replayed_of, code_before, judged_right}
use Rattle.amends.specs.declared.Right.{Right}
use Rattle.ledger.specs.Entering.{is_full, numbers_in, held_back, judged_entry}
use Rattle.ledger.specs.declared.Book.{Book}

abbrev ClosedOf : Judged → Type 0
ClosedOf j = Closed j.table j.payout

pub entry_closed : (b : Book) (block : Block) (log index : ℕ) {j : Judged} → j ≡ judged_entry b block log index → Closed j.table j.payout
unfolding judged_entry held_back
entry_closed b block log index {j} e =
    subst ClosedOf (sym e) (go (both (is_full b.table.taken b.hands (eqb (numbers_in block).kind 2) log index) (either (eqb i.code 0) (leb 4 i.code))))
  where
    i : Judged
    i = judge_block b.table block

    go : (x : Bool) → ClosedOf (pick x (refused_at b.table i.n 15) i)
    go true = λ z. absurd (false≢true z)
    go false = block_closed b.table block

righted_closed : (t : Table) (n : ℕ) (p : Played) → ClosedOf (righted_by t n p)
unfolding righted_by
righted_closed t n p = go p.ok
  where
    go : (b : Bool) → ClosedOf (pick b (record { block = true; n = n; code = 0; table = p.table; payout = no_payout }) (refused_at t n 13))
    go true = λ z. absurd (false≢true z)
    go false = λ z. absurd (false≢true z)

replayed_closed : (t : Table) (n : ℕ) (x : Result Entry Refusal) (log : List ℕ) → ClosedOf (replayed_of t n x log)
replayed_closed t n (Ok e) log = righted_closed t n (played_to t.sheet (replacing (n - 1) e (entry_in log)) t.taken)
replayed_closed t n (Err why) log = λ z. absurd (false≢true z)

pub right_closed : (t : Table) (shared : Bool) (r : Right) (log : List ℕ) {j : Judged} → j ≡ judged_right t shared r log → Closed j.table j.payout
unfolding judged_right
right_closed t shared r log {j} e = subst ClosedOf (sym e) (go (eqb (code_before t shared r log) 0))
  where
    go : (b : Bool) → ClosedOf (pick b (replayed_of t (number_of r) (parsed_in r.block) log) (refused_at t (number_of r) (code_before t shared r log)))
    go true = replayed_closed t (number_of r) (parsed_in r.block) log
    go false = λ z. absurd (false≢true z)
