-- One answer of a table that shares a pool: with the jackpot's number blanked it is the same whatever the pool holds (`blanked_at`), and it ends its last line
-- (`answer_ended`). A block that is cut short gets code 1, and the table stays (`cut_one`). For any table and block. Assumes nothing.
use Prim.Native.Nat.{ℕ}
use mathlib.Core.Bool.{Bool, true, false}
use mathlib.Core.Path.{◌≡◌, refl, sym, ap, ap₂, subst, ◌∙◌}
use mathlib.Core.List.{List, [], ◌++◌}
use lib.ListN.{take}
use Rattle.laws.specs.Tests.{pick}
use Rattle.paper.specs.RefusalNumbers.{malformed}
use Rattle.text.specs.Line.{number_line, value_of}
use Rattle.text.specs.Number.{well_formed, number_of}
use Rattle.blocks.specs.Block.{block_of}
use Rattle.amends.specs.Righting.{is_right}
use Rattle.pairs.specs.Pairs.{cut_lines}
use Rattle.writing.specs.Nine.{nine_line}
use Rattle.answers.specs.Answer.{joined, key_back, key_fee, key_jackpot, key_unclaimed, pot_bytes, row_bytes, state_bytes, jackpot_bytes, payout_bytes, table_bytes, answer_bytes}
use Rattle.answers.specs.declared.ShownPayout.{ShownPayout}
use Rattle.answers.specs.declared.Shown.{Shown}
use Rattle.table.specs.declared.table.Table.{Table}
use Rattle.pool.specs.declared.Pool.{Pool}
use Rattle.desk.specs.Desk.{shown_of, refused_at, judged_of}
use Rattle.desk.specs.declared.Judged.{Judged}
use Rattle.shared.specs.Shared.{judged_at, settled_at, with_jackpot, shown_at, bytes_at}
use Rattle.neighbours.specs.Blanked.{blanked_in, blanked}
use Rattle.neighbours.proofs.Blanks.{line_after, blanked_append, after_append, after_line, blanked_jackpot, after_jackpot}

-- the same but for the jackpot's number, behind the same bytes of a line
abbrev Alike : List ℕ → List ℕ → List ℕ → Type 0
Alike line xs ys = (blanked_in line xs ≡ blanked_in line ys) × (line_after line xs ≡ line_after line ys)

alike_then : (line xs ys zs ws : List ℕ) → Alike line xs ys → Alike (line_after line xs) zs ws → Alike line (xs ++ zs) (ys ++ ws)
alike_then line xs ys zs ws a b = (
  blanked_append line xs zs ∙ ap₂ (λ (l m : List ℕ). l ++ m) a.0 b.0 ∙ ap (λ (l : List ℕ). blanked_in line ys ++ blanked_in l ws) a.1 ∙ sym (blanked_append line ys ws),
  after_append line xs zs ∙ b.1 ∙ ap (λ (l : List ℕ). line_after l ws) a.1 ∙ sym (after_append line ys ws),
)

-- behind bytes that end a line
alike_behind : (bs xs ys : List ℕ) → line_after [] bs ≡ [] → Alike [] xs ys → Alike [] (bs ++ xs) (bs ++ ys)
alike_behind bs xs ys e a = alike_then [] bs bs xs ys (refl, refl) (subst (λ (l : List ℕ). Alike l xs ys) (sym e) a)

alike_before : (xs ys bs : List ℕ) → Alike [] xs ys → Alike [] (xs ++ bs) (ys ++ bs)
alike_before xs ys bs a = alike_then [] xs ys bs bs a (refl, refl)

-- ---- the jackpot's number

jackpots : (a b : ℕ) → Alike [] (nine_line key_jackpot a) (nine_line key_jackpot b)
jackpots a b = (blanked_jackpot a ∙ sym (blanked_jackpot b), after_jackpot a ∙ sym (after_jackpot b))

payouts : (s : Shown) (a b : ℕ) → Alike [] (payout_bytes (with_jackpot a s).payout) (payout_bytes (with_jackpot b s).payout)
unfolding payout_bytes jackpot_bytes with_jackpot
payouts s a b =
    let fee : List ℕ = number_line key_fee s.payout.fee in
    let rows : List ℕ = joined row_bytes s.payout.rows in
    let last : List ℕ = number_line key_unclaimed s.payout.unclaimed in
    let x : List ℕ = nine_line key_jackpot a in
    let y : List ℕ = nine_line key_jackpot b in
    alike_before (fee ++ x ++ rows) (fee ++ y ++ rows) last
    (alike_before (fee ++ x) (fee ++ y) rows (alike_behind fee x y (after_line [] key_fee s.payout.fee) (jackpots a b)))

-- ---- the lines of the table, and the end

table_ended : (s : Shown) → line_after [] (table_bytes s) ≡ []
unfolding table_bytes
table_ended s =
    let front : List ℕ = state_bytes s.n s.code s.turn s.mark ++ joined pot_bytes (take s.pots.n s.pots.list) in
    after_append [] front (number_line key_back s.back) ∙ after_line (line_after [] front) key_back s.back

payout_ended : (line : List ℕ) (p : ShownPayout) → line_after line (payout_bytes p) ≡ []
unfolding payout_bytes
payout_ended line p =
    let front : List ℕ = number_line key_fee p.fee ++ jackpot_bytes p.jackpot ++ joined row_bytes p.rows in
    after_append line front (number_line key_unclaimed p.unclaimed) ∙ after_line (line_after line front) key_unclaimed p.unclaimed

shown_ended : (s : Shown) → line_after [] (answer_bytes s) ≡ []
unfolding answer_bytes
shown_ended s = after_append [] (table_bytes s) (pick s.settled (payout_bytes s.payout) []) ∙ go s.settled
  where
    go : (b : Bool) → line_after (line_after [] (table_bytes s)) (pick b (payout_bytes s.payout) []) ≡ []
    go true = payout_ended (line_after [] (table_bytes s)) s.payout
    go false = table_ended s

shown_alike : (s : Shown) (a b : ℕ) → Alike [] (answer_bytes (with_jackpot a s)) (answer_bytes (with_jackpot b s))
unfolding answer_bytes with_jackpot table_bytes
shown_alike s a b =
    alike_behind (table_bytes s) (pick s.settled (payout_bytes (with_jackpot a s).payout) []) (pick s.settled (payout_bytes (with_jackpot b s).payout) []) (table_ended s) (go s.settled)
  where
    go : (z : Bool) → Alike [] (pick z (payout_bytes (with_jackpot a s).payout) []) (pick z (payout_bytes (with_jackpot b s).payout) [])
    go true = payouts s a b
    go false = (refl, refl)

-- ---- an answer

pub answer_ended : (t : Table) (p : Pool) (log : List ℕ) → line_after [] (bytes_at t p log) ≡ []
unfolding bytes_at
answer_ended t p log = go (judged_at t log) (judged_at t log).block
  where
    go : (j : Judged) (b : Bool) → line_after [] (pick b (answer_bytes (shown_at j (settled_at t p j).jackpot)) []) ≡ []
    go j true = shown_ended (shown_at j (settled_at t p j).jackpot)
    go j false = refl

pub blanked_at : (t : Table) (p q : Pool) (log : List ℕ) → blanked (bytes_at t p log) ≡ blanked (bytes_at t q log)
unfolding bytes_at
blanked_at t p q log = go (judged_at t log) (judged_at t log).block
  where
    go : (j : Judged) (b : Bool) → blanked (pick b (answer_bytes (shown_at j (settled_at t p j).jackpot)) []) ≡ blanked (pick b (answer_bytes (shown_at j (settled_at t q j).jackpot)) [])
    go j true = (shown_alike (shown_of j.n j.code j.table j.payout) (settled_at t p j).jackpot (settled_at t q j).jackpot).0
    go j false = refl

-- "it leaves that block cut short, which is table K's code 1": n is 0 after it, and the table stays
pub cut_one : (t : Table) → judged_at t cut_lines ≡ refused_at t 0 malformed
unfolding judged_at judged_of is_right block_of value_of number_of well_formed
cut_one t = refl
