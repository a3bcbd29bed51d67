-- What the supervisor's page keeps between two blocks, and what each block does to it: for each sitting what it has brought, put in and been paid, what it takes home;
-- what each seat put in by round and how its hand ended; the blocks by code; hands, fees, drops and what nobody claimed. Assumes nothing.
use Rattle.std.specs.Prelude.{ℕ, suc, ◌-◌, Bool, true, false, List, [], ◌∷◌, Option, Some, None, map, sum_by, ltb, eqb, get_or, set, replicate}
use Rattle.laws.specs.Tests.{pick}
use Rattle.paper.specs.declared.Entry.{Entry}
use Rattle.paper.specs.declared.Entry.TheVariants.{Sit, Leave, Hand, Hole, Fold, Check, Call, Wager, Board, Dead, Settle, Void}
use Rattle.chairs.specs.Chairs.{is_here, round_of, chair_at}
use Rattle.chairs.specs.declared.Chair.{Chair}
use Rattle.table.specs.declared.table.Table.{Table}
use Rattle.table.specs.declared.table.Payout.{Payout}
use Rattle.accounts.specs.Sums.{added_to, nobody, brings, putting, pays, without, totalled, uncharged, charged, counted}
use Rattle.accounts.specs.declared.Account.{Account}
use Rattle.accounts.specs.declared.Sums.{Sums}
use Rattle.accounts.specs.declared.Charges.{Charges}
use Rattle.notes.specs.declared.Ending.{Ending}
use Rattle.notes.specs.declared.Ending.TheVariants.{Folded, Dead as GivenUp}
use Rattle.notes.specs.declared.Rounds.{Rounds}
use Rattle.notes.specs.declared.Notes.{Notes}

-- put in by round: before the flop, flop, turn, river
abbrev pub rounds : List ℕ → List ℕ → List ℕ → List ℕ → Rounds
rounds first flop turn river = record { first = first; flop = flop; turn = turn; river = river }

abbrev pub no_rounds : Rounds
no_rounds = rounds (replicate 10 0) (replicate 10 0) (replicate 10 0) (replicate 10 0)

abbrev notes : ℕ → Bool → List ℕ → Rounds → List (Option Ending) → List ℕ → Charges → Sums → List Account → Notes
notes h f b r w k c g a = record { hands = h; refusing = f; before = b; rounds = r; ended = w; codes = k; charges = c; gone = g; accounts = a }

-- nobody has sat down and no block has come
abbrev pub no_notes : Notes
no_notes = notes 0 false (replicate 10 0) no_rounds (replicate 10 None) (replicate 13 0) uncharged without (replicate 10 nobody)

abbrev pub with_accounts : Notes → List Account → Notes
with_accounts m a = notes m.hands m.refusing m.before m.rounds m.ended m.codes m.charges m.gone a

abbrev pub with_gone : Notes → Sums → Notes
with_gone m g = notes m.hands m.refusing m.before m.rounds m.ended m.codes m.charges g m.accounts

abbrev pub with_charges : Notes → Charges → Notes
with_charges m c = notes m.hands m.refusing m.before m.rounds m.ended m.codes c m.gone m.accounts

abbrev pub with_ended : Notes → List (Option Ending) → Notes
with_ended m w = notes m.hands m.refusing m.before m.rounds w m.codes m.charges m.gone m.accounts

abbrev pub with_rounds : Notes → Rounds → Notes
with_rounds m r = notes m.hands m.refusing m.before r m.ended m.codes m.charges m.gone m.accounts

-- the place of a seat among ten places, which are counted from 0; a seat that is not there has none of them
unfoldable pub place_of : ℕ → ℕ
place_of seat = pick (eqb seat 0) 10 (pick (ltb 10 seat) 10 (seat - 1))

-- the account of who sits at a place
abbrev pub account_at : Notes → ℕ → Account
account_at m i = get_or m.accounts i nobody

abbrev pub with_account : Notes → ℕ → Account → Notes
with_account m i a = with_accounts m (set m.accounts i a)

-- how the hand of a place ended
abbrev pub with_end : Notes → ℕ → Ending → Notes
with_end m i how = with_ended m (set m.ended i (Some how))

abbrev pub stack_of : Chair → ℕ
stack_of c = c.stack

-- "When three, four and five board cards lie, a new round opens": what is put in while so many lie belongs to that round
unfoldable pub rounds_with : Rounds → ℕ → List ℕ → Rounds
rounds_with r count now =
    pick (ltb count 3) (rounds now r.flop r.turn r.river)
    (pick (eqb count 3) (rounds r.first now r.turn r.river)
    (pick (eqb count 4) (rounds r.first r.flop now r.river) (rounds r.first r.flop r.turn now)))

-- the round that is played, as it stands: each seat's round total
unfoldable pub rounds_noted : Notes → Table → Notes
rounds_noted m t = with_rounds m (rounds_with m.rounds t.board.count (map round_of t.chairs))

-- what a place put in, round by round
unfoldable pub rounds_at : Rounds → ℕ → List ℕ
rounds_at r i = get_or r.first i 0 ∷ get_or r.flop i 0 ∷ get_or r.turn i 0 ∷ get_or r.river i 0 ∷ []

-- a settled hand: a sitting that was dealt in and is still there has put in its total, and is paid
unfoldable pub settled_of : Account → Chair → ℕ → Account
settled_of a c paid = pick (is_here c) (pays (putting a c.dealt.total) paid) a

abbrev pub settle_all : List Account → List Chair → List ℕ → List Account
settle_all [] cs ps = []
settle_all (a ∷ rest) [] ps = a ∷ rest
settle_all (a ∷ rest) (c ∷ cs) [] = settled_of a c 0 ∷ settle_all rest cs []
settle_all (a ∷ rest) (c ∷ cs) (p ∷ ps) = settled_of a c p ∷ settle_all rest cs ps

-- an account as it stands: what the sitting has put into the open hand is among what it has put in
unfoldable pub account_now : Notes → Chair → ℕ → Account
account_now m c i = pick (is_here c) (putting (account_at m i) c.dealt.total) (account_at m i)

-- sums over sittings: those that left, and then who sits at each chair from place i on, with the stack that lies there
unfoldable pub sums_with : Sums → Notes → Chair → ℕ → Sums
sums_with s m c i = pick (eqb c.sitting 0) s (totalled s (account_now m c i) c.stack)

abbrev pub sums_from : Sums → Notes → ℕ → List Chair → Sums
sums_from s m i [] = s
sums_from s m i (c ∷ cs) = sums_from (sums_with s m c i) m (suc i) cs

abbrev pub sums_now : Notes → List Chair → Sums
sums_now m cs = sums_from m.gone m 0 cs

-- what lies in the open hand
abbrev pub lies_in : List Chair → ℕ
lies_in cs = sum_by (λ (c : Chair). c.dealt.total) cs

-- sit: the sitting has brought its chips, and that is its account
abbrev pub sat_notes : Notes → ℕ → ℕ → Notes
sat_notes m s a = with_account m (place_of s) (brings a)

-- leave: the sitting takes its stack home; its account is among the sums over those that left
unfoldable pub left_notes : Notes → Table → ℕ → Notes
left_notes m t s = with_gone m (totalled m.gone (account_now m (chair_at t.chairs s) (place_of s)) (chair_at t.chairs s).stack)

-- hand: one more; the stacks before it; nothing is put in and no hand has ended
unfoldable pub opened_notes : Notes → Table → Notes
opened_notes m t = notes (added_to m.hands 1) m.refusing (map stack_of t.chairs) no_rounds (replicate 10 None) m.codes m.charges m.gone m.accounts

-- settle: the last round, fee, drop and what nobody claimed, and the accounts of those who are still there
unfoldable pub settled_notes : Notes → Table → Payout → Notes
settled_notes m t p = with_accounts (with_charges (rounds_noted m t) (charged m.charges p.fee p.drop p.unclaimed)) (settle_all m.accounts t.chairs p.paid)

-- what an entry that is taken does: t is the table before it, p what it pays
abbrev pub noted_by : Notes → Table → Entry → Payout → Notes
noted_by m t (Sit s a) p = sat_notes m s a
noted_by m t (Leave s) p = left_notes m t s
noted_by m t (Hand s) p = opened_notes m t
noted_by m t (Hole s a b) p = m
noted_by m t (Fold s) p = with_end m (place_of s) Folded
noted_by m t (Check s) p = m
noted_by m t (Call s) p = m
noted_by m t (Wager s a) p = m
noted_by m t (Board k) p = rounds_noted m t
noted_by m t (Dead s) p = with_end m (place_of s) GivenUp
noted_by m t Settle p = settled_notes m t p
noted_by m t Void p = m

-- one block more with a code; whether the blocks that come now are refused ones
abbrev pub code_noted : Notes → ℕ → Bool → Notes
code_noted m code f = notes m.hands f m.before m.rounds m.ended (counted m.codes code) m.charges m.gone m.accounts

-- after an entry that is taken at table t, which pays p
unfoldable pub taken_notes : Notes → Table → Entry → Payout → Notes
taken_notes m t e p = noted_by (code_noted m 0 false) t e p

-- after a block that is refused: it is counted by its code, and nothing else changes
unfoldable pub refused_notes : Notes → ℕ → Notes
refused_notes m code = code_noted m code true
