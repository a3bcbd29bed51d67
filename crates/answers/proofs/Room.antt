-- Change request No. 8, "how much room": an answer is its lines, one behind the other; it has no more than 27, each of at most 20 bytes, so at most 540 bytes;
-- 28 and 560 where a pool is shared.
-- Assumes nothing.
use mathlib.Core.Path.{◌≡◌, refl, sym, ap, ap₂, ◌∙◌}
use mathlib.Core.List.{List, [], ◌∷◌, ◌++◌, map, append_assoc, append-nil}
use mathlib.Core.Bool.{Bool, true, false}
use Prim.Native.Nat.{ℕ, zero, suc, ◌+◌, ◌-◌, ◌*◌, ◌/◌, ◌%◌, ◌≤◌}
use native.Mathlib.Omega.{arith}
use lib.ListN.{length, take, replicate, length-append, length-take}
use lib.Dec.{eqb, ltb}
use borrow.Author.Tests.{ne_eqb}
use Rattle.laws.specs.Tests.{pick, one}
use Rattle.laws.specs.Lists.{All}
use Rattle.laws.specs.Often.{count}
use Rattle.laws.proofs.Often.{count_append}
use Rattle.laws.proofs.Sums.{map_length}
use Rattle.text.specs.Line.{number_line}
use Rattle.text.specs.Number.{digits_in, digits}
use Rattle.writing.specs.Nine.{nine_digits, nine_line}
use Rattle.writing.proofs.Nine.{nine_count}
use Rattle.pots.specs.declared.Pot.{Pot}
use Rattle.answers.specs.declared.PaidRow.{PaidRow}
use Rattle.answers.specs.declared.ShownPayout.{ShownPayout}
use Rattle.answers.specs.declared.Shown.{Shown}
use Rattle.std.specs.Prelude.{Option, Some, None, is_some}
use Rattle.answers.specs.Answer.{joined, key_n, key_code, key_turn, key_mark, key_pot, key_back, key_fee, key_jackpot, key_sitting, key_paid, key_unclaimed, two_bytes, pot_bytes, row_bytes, state_bytes, jackpot_bytes, payout_bytes, table_bytes, answer_bytes, longest_shared, longest_with}
use Rattle.answers.specs.Room.{Line, line, line_bytes, pot_line, table_lines, row_lines, rows_lines, jackpot_lines, payout_lines, answer_lines, most_lines_with, longest_line}
use Rattle.answers.proofs.Blocks.{joined_append, line_most}

-- ---- an answer is its lines
pots_lines : (ps : List Pot) → joined line_bytes (map pot_line ps) ≡ joined pot_bytes ps
pots_lines [] = refl
pots_lines (p ∷ ps) = ap (λ (l : List ℕ). pot_bytes p ++ l) (pots_lines ps)

row_lines_law : (r : PaidRow) → joined line_bytes (row_lines r) ≡ row_bytes r
unfolding row_bytes two_bytes
row_lines_law r = go (eqb r.sitting 0)
  where
    go : (b : Bool) → joined line_bytes (pick b [] (line key_sitting r.sitting ∷ line key_paid r.paid ∷ []))
        ≡ pick b [] (number_line key_sitting r.sitting ++ number_line key_paid r.paid)
    go true = refl
    go false = ap (λ (l : List ℕ). number_line key_sitting r.sitting ++ l) (append-nil (number_line key_paid r.paid))

rows_lines_law : (rs : List PaidRow) → joined line_bytes (rows_lines rs) ≡ joined row_bytes rs
rows_lines_law [] = refl
rows_lines_law (r ∷ rs) = joined_append line_bytes (row_lines r) (rows_lines rs) ∙ ap₂ ◌++◌ (row_lines_law r) (rows_lines_law rs)

one_line : (k : List ℕ) (n : ℕ) → joined line_bytes (line k n ∷ []) ≡ number_line k n
one_line k n = append-nil (number_line k n)

jackpot_lines_law : (j : Option ℕ) → joined line_bytes (jackpot_lines j) ≡ jackpot_bytes j
unfolding jackpot_bytes
jackpot_lines_law None = refl
jackpot_lines_law (Some n) = append-nil (nine_line key_jackpot n)

payout_lines_law : (p : ShownPayout) → joined line_bytes (payout_lines p) ≡ payout_bytes p
unfolding payout_bytes
payout_lines_law p =
    let fee = line key_fee p.fee ∷ [] in
    let won = jackpot_lines p.jackpot in
    let last = line key_unclaimed p.unclaimed ∷ [] in
    joined_append line_bytes (fee ++ won ++ rows_lines p.rows) last
    ∙ ap₂ ◌++◌
    (joined_append line_bytes (fee ++ won) (rows_lines p.rows)
    ∙ ap₂ ◌++◌ (joined_append line_bytes fee won ∙ ap₂ ◌++◌ (one_line key_fee p.fee) (jackpot_lines_law p.jackpot)) (rows_lines_law p.rows))
    (one_line key_unclaimed p.unclaimed)

state_lines : (n code turn mark : ℕ) → joined line_bytes (line key_n n ∷ line key_code code ∷ line key_turn turn ∷ line key_mark mark ∷ []) ≡ state_bytes n code turn mark
unfolding state_bytes two_bytes
state_lines n code turn mark =
    ap (λ (l : List ℕ). number_line key_n n ++ (number_line key_code code ++ (number_line key_turn turn ++ l))) (append-nil (number_line key_mark mark))
    ∙ sym (append_assoc (number_line key_n n) (number_line key_code code) (number_line key_turn turn ++ number_line key_mark mark))

table_lines_law : (s : Shown) → joined line_bytes (table_lines s) ≡ table_bytes s
unfolding table_bytes
table_lines_law s =
    let state = line key_n s.n ∷ line key_code s.code ∷ line key_turn s.turn ∷ line key_mark s.mark ∷ [] in
    let pots = map pot_line (take s.pots.n s.pots.list) in
    joined_append line_bytes (state ++ pots) (line key_back s.back ∷ [])
    ∙ ap₂ ◌++◌ (joined_append line_bytes state pots ∙ ap₂ ◌++◌ (state_lines s.n s.code s.turn s.mark) (pots_lines (take s.pots.n s.pots.list))) (one_line key_back s.back)

pub answer_lines_law : (s : Shown) → joined line_bytes (answer_lines s) ≡ answer_bytes s
unfolding answer_bytes
answer_lines_law s = joined_append line_bytes (table_lines s) (pick s.settled (payout_lines s.payout) []) ∙ ap₂ ◌++◌ (table_lines_law s) (added s.settled)
  where
    added : (b : Bool) → joined line_bytes (pick b (payout_lines s.payout) []) ≡ pick b (payout_bytes s.payout) []
    added true = payout_lines_law s.payout
    added false = refl

-- ---- a line has one LF, which ends it, and at most 20 bytes
pub record Good (l : Line) : Type 0 where
  pub plain : count 10 l.key ≡ 0
  pub short : length l.key ≤ 9

good : (k : List ℕ) (n : ℕ) → count 10 k ≡ 0 → length k ≤ 9 → Good (line k n)
good k n e h = record { plain = e; short = h }

goods : (ls ms : List Line) → All Good ls → All Good ms → All Good (ls ++ ms)
goods [] ms g h = h
goods (l ∷ ls) ms g h = (g.0, goods ls ms g.1 h)

digit_plain : (n : ℕ) → count 10 ((48 + n) ∷ []) ≡ 0
digit_plain n = omega (arith, ap one (ne_eqb 10 (48 + n) (λ e. omega arith)))

digits_plain : (more n : ℕ) → count 10 (digits_in more n) ≡ 0
digits_plain zero n = digit_plain n
digits_plain (suc more) n = go (ltb n 10) (digits_plain more (n / 10))
  where
    go : (b : Bool) → count 10 (digits_in more (n / 10)) ≡ 0 → count 10 (pick b ((48 + n) ∷ []) (digits_in more (n / 10) ++ ((48 + n % 10) ∷ []))) ≡ 0
    go true r = digit_plain n
    go false r = omega (arith, count_append 10 (digits_in more (n / 10)) ((48 + n % 10) ∷ []), r, digit_plain (n % 10))

zeros_plain : (k : ℕ) → count 10 (replicate k 48) ≡ 0
zeros_plain zero = refl
zeros_plain (suc k) = omega (arith, zeros_plain k)

-- a key, `=`, digits and LF
made_ends : (k d : List ℕ) → count 10 k ≡ 0 → count 10 d ≡ 0 → count 10 (k ++ (61 ∷ []) ++ d ++ (10 ∷ [])) ≡ 1
made_ends k d p q =
    omega (
      arith,
      count_append 10 (k ++ (61 ∷ []) ++ d) (10 ∷ []),
      count_append 10 (k ++ (61 ∷ [])) d,
      count_append 10 k (61 ∷ []),
      p,
      q,
    )

plain_ends : (k : List ℕ) (n : ℕ) → count 10 k ≡ 0 → count 10 (number_line k n) ≡ 1
unfolding number_line digits
plain_ends k n p = made_ends k (digits_in 8 n) p (digits_plain 8 n)

nine_ends : (k : List ℕ) (n : ℕ) → count 10 k ≡ 0 → count 10 (nine_line k n) ≡ 1
unfolding nine_line nine_digits digits
nine_ends k n p =
    let d = digits_in 8 n in
    let z : List ℕ = replicate (9 - length d) 48 in
    made_ends k (z ++ d) p (omega (arith, count_append 10 z d, zeros_plain (9 - length d), digits_plain 8 n))

line_ends : (l : Line) → Good l → count 10 (line_bytes l) ≡ 1
line_ends l g = go l.nine
  where
    go : (b : Bool) → count 10 (pick b (nine_line l.key l.number) (number_line l.key l.number)) ≡ 1
    go true = nine_ends l.key l.number g.plain
    go false = plain_ends l.key l.number g.plain

line_room : (l : Line) → length (line_bytes l) ≤ length l.key + 11
line_room l = go l.nine
  where
    go : (b : Bool) → length (pick b (nine_line l.key l.number) (number_line l.key l.number)) ≤ length l.key + 11
    go true = omega (arith, nine_count l.key l.number)
    go false = line_most l.key l.number

pub lines_counted : (ls : List Line) → All Good ls → count 10 (joined line_bytes ls) ≡ length ls
lines_counted [] g = refl
lines_counted (l ∷ ls) g = omega (arith, count_append 10 (line_bytes l) (joined line_bytes ls), line_ends l g.0, lines_counted ls g.1)

pub lines_room : (ls : List Line) → All Good ls → length (joined line_bytes ls) ≤ length ls * longest_line
lines_room [] g = omega arith
lines_room (l ∷ ls) g = omega (arith, length-append (line_bytes l) (joined line_bytes ls), line_room l, g.0.short, lines_room ls g.1)

-- ---- the lines of an answer
pots_good : (ps : List Pot) → All Good (map pot_line ps)
pots_good [] = tt
pots_good (p ∷ ps) = (good key_pot p.amount refl (omega arith), pots_good ps)

rows_good : (rs : List PaidRow) → All Good (rows_lines rs)
rows_good [] = tt
rows_good (r ∷ rs) = goods (row_lines r) (rows_lines rs) (go (eqb r.sitting 0)) (rows_good rs)
  where
    go : (b : Bool) → All Good (pick b [] (line key_sitting r.sitting ∷ line key_paid r.paid ∷ []))
    go true = tt
    go false = (good key_sitting r.sitting refl (omega arith), (good key_paid r.paid refl (omega arith), tt))

jackpot_good : (j : Option ℕ) → All Good (jackpot_lines j)
jackpot_good None = tt
jackpot_good (Some n) = (record { plain = refl; short = omega arith }, tt)

payout_good : (p : ShownPayout) → All Good (payout_lines p)
payout_good p =
    let fee = line key_fee p.fee ∷ [] in
    let won = jackpot_lines p.jackpot in
    goods (fee ++ won ++ rows_lines p.rows) (line key_unclaimed p.unclaimed ∷ [])
    (goods (fee ++ won) (rows_lines p.rows) (goods fee won (good key_fee p.fee refl (omega arith), tt) (jackpot_good p.jackpot)) (rows_good p.rows))
    (good key_unclaimed p.unclaimed refl (omega arith), tt)

table_good : (s : Shown) → All Good (table_lines s)
table_good s =
    let state = line key_n s.n ∷ line key_code s.code ∷ line key_turn s.turn ∷ line key_mark s.mark ∷ [] in
    let pots = map pot_line (take s.pots.n s.pots.list) in
    goods (state ++ pots) (line key_back s.back ∷ [])
    (goods state pots
    (good key_n s.n refl (omega arith), (good key_code s.code refl (omega arith), (good key_turn s.turn refl (omega arith), (good key_mark s.mark refl (omega arith), tt))))
    (pots_good (take s.pots.n s.pots.list)))
    (good key_back s.back refl (omega arith), tt)

pub answer_good : (s : Shown) → All Good (answer_lines s)
answer_good s = goods (table_lines s) (pick s.settled (payout_lines s.payout) []) (table_good s) (added s.settled)
  where
    added : (b : Bool) → All Good (pick b (payout_lines s.payout) [])
    added true = payout_good s.payout
    added false = tt

-- ---- how many
-- at most nine pots, none once a hand is settled, and a row for each of at most ten seats
pub record Few (s : Shown) : Type 0 where
  pub pots : s.pots.n ≤ 9
  pub rows : length s.payout.rows ≤ 10
  pub closed : s.settled ≡ true → s.pots.n ≡ 0

rows_most : (rs : List PaidRow) → length (rows_lines rs) ≤ 2 * length rs
rows_most [] = omega arith
rows_most (r ∷ rs) = omega (arith, length-append (row_lines r) (rows_lines rs), go (eqb r.sitting 0), rows_most rs)
  where
    go : (b : Bool) → length (pick b [] (line key_sitting r.sitting ∷ line key_paid r.paid ∷ [])) ≤ 2
    go true = omega arith
    go false = omega arith

jackpot_one : (j : Option ℕ) → length (jackpot_lines j) ≡ one (is_some j)
jackpot_one None = refl
jackpot_one (Some n) = refl

payout_most : (p : ShownPayout) → length p.rows ≤ 10 → length (payout_lines p) ≤ 22 + one (is_some p.jackpot)
payout_most p h =
    let fee = line key_fee p.fee ∷ [] in
    let won = jackpot_lines p.jackpot in
    omega (
      arith,
      length-append (fee ++ won ++ rows_lines p.rows) (line key_unclaimed p.unclaimed ∷ []),
      length-append (fee ++ won) (rows_lines p.rows),
      length-append fee won,
      jackpot_one p.jackpot,
      rows_most p.rows,
      h,
    )

table_most : (s : Shown) → length (table_lines s) ≤ 5 + s.pots.n
table_most s =
    let state = line key_n s.n ∷ line key_code s.code ∷ line key_turn s.turn ∷ line key_mark s.mark ∷ [] in
    let pots = map pot_line (take s.pots.n s.pots.list) in
    omega (
      arith,
      length-append (state ++ pots) (line key_back s.back ∷ []),
      length-append state pots,
      map_length pot_line (take s.pots.n s.pots.list),
      length-take s.pots.n s.pots.list,
    )

-- the two bounds, told whether a pool is shared
bounds : (b : Bool) → (most_lines_with b ≡ 27 + one b) × (longest_with b ≡ most_lines_with b * longest_line)
bounds true = (refl, refl)
bounds false = (refl, refl)

pub answer_lines_most : (s : Shown) → Few s → length (answer_lines s) ≤ most_lines_with (is_some s.payout.jackpot)
answer_lines_most s f =
    omega (arith, length-append (table_lines s) (pick s.settled (payout_lines s.payout) []), go s.settled f.closed, (bounds (is_some s.payout.jackpot)).0)
  where
    go : (b : Bool) → (b ≡ true → s.pots.n ≡ 0)
        → length (table_lines s) + length (pick b (payout_lines s.payout) []) ≤ 27 + one (is_some s.payout.jackpot)
    go true c = omega (arith, table_most s, payout_most s.payout f.rows, c refl)
    go false c = omega (arith, table_most s, f.pots)

-- in the bytes: as many LFs as lines
pub answer_lfs : (s : Shown) → count 10 (answer_bytes s) ≡ length (answer_lines s)
answer_lfs s = ap (count 10) (sym (answer_lines_law s)) ∙ lines_counted (answer_lines s) (answer_good s)

pub answer_most : (s : Shown) → Few s → length (answer_bytes s) ≤ longest_with (is_some s.payout.jackpot)
answer_most s f =
    omega (arith, ap length (answer_lines_law s), lines_room (answer_lines s) (answer_good s), answer_lines_most s f, (bounds (is_some s.payout.jackpot)).1)

-- with a pool or without
pub answer_any : (s : Shown) → Few s → length (answer_bytes s) ≤ longest_shared
answer_any s f = omega (arith, answer_most s f, go (is_some s.payout.jackpot))
  where
    go : (b : Bool) → longest_with b ≤ longest_shared
    go true = omega arith
    go false = omega arith
