-- A line that is read at one go is the log's first line, and five of them are the block at its front. Assumes nothing.
use mathlib.Core.Path.{◌≡◌, refl, sym, ap, subst, ◌∙◌}
use mathlib.Core.List.{List, [], ◌∷◌, ◌++◌, append_assoc}
use mathlib.Core.Bool.{Bool, true, false}
use mathlib.Core.Logic.{⊎_elim}
use Prim.Native.Nat.{ℕ, suc, ◌+◌, ◌-◌, ◌*◌, ◌≤◌, ◌<◌}
use native.Mathlib.Numerals.{add-one}
use native.Mathlib.Omega.{arith}
use lib.ListN.{length, get_or, take, drop, length-append, length-drop, take-append-drop}
use lib.Seq.{drop-cons, length-take-le, get_or-drop}
use lib.Dec.{eqb, ltb}
use borrow.Author.Tests.{lt-ltb, eqb-false}
use Rattle.std.specs.Prelude.{Option, Some, None, IfSome}
use Rattle.laws.specs.Tests.{pick}
use Rattle.text.specs.Bytes.{all_within, pack_of}
use Rattle.text.specs.Number.{number_of, value_from}
use Rattle.text.specs.Line.{line_len, after_line, starts_with, has_key, value_of, line_number, after_lines}
use Rattle.blocks.specs.Block.{all_letters, kind_names, place_in, kind_of, line_kind, rest_of, block_of}
use Rattle.blocks.specs.Front.{block_ended, front_of, AtOneGo}
use Rattle.blocks.specs.declared.Block.{Block}
use Rattle.blocks.specs.declared.Block.TheVariants.{Raw}
use Rattle.blocks.specs.declared.runs.Run.{Run}
use Rattle.blocks.specs.declared.front.Line.{Line}
use Rattle.blocks.specs.declared.front.Front.{Front}
use Rattle.laws.proofs.Sums.{le_or_lt}
use Rattle.text.proofs.Parts.{part_is}
use Rattle.text.proofs.Lines.{key_here}
use Rattle.blocks.proofs.Packs.{first_split}
use Rattle.blocks.proofs.Blocks.{place_within, kind_letters, block_five}
use Rattle.text.proofs.Bytes.{run_on}
use Rattle.text.proofs.Numbers.{value_on, run_one, run_more}
use Rattle.text.proofs.RoundTrip.{NoLF, no_append, no_within, no_number, line_is, value_is}
use Rattle.text.proofs.ReadBack.{key_is}

-- bytes whose line is all of them have no LF
pub no_lf : (l : List ℕ) → line_len l ≡ length l → NoLF l
no_lf [] e = tt
no_lf (b ∷ l) e = go (eqb b 10) refl e (no_lf l)
  where
    go : (t : Bool) → eqb b 10 ≡ t → pick t 0 (suc (line_len l)) ≡ suc (length l) → (line_len l ≡ length l → NoLF l) → NoLF (b ∷ l)
    go true q w r = absurd (omega arith)
    go false q w r = (eqb-false b 10 q, r (omega arith))

-- a log whose first bytes, packed, are those of `key=` has the key; so has one with the key's bytes and `=` behind them
pub key_first : (key first log : List ℕ) {w : ℕ} → ((x : List ℕ) → has_key key (first ++ x) ≡ true) → all_within 0 255 first ≡ true → length first ≤ length log
    → (w ≡ pack_of (take (length first) log)) × (all_within 0 255 (take (length first) log) ≡ true) → w ≡ pack_of first → has_key key log ≡ true
key_first key first log h b l p e = ap (has_key key) (first_split first log l b p e) ∙ h (drop (length first) log)

pub key_then : (key log : List ℕ) {w : ℕ} → ((x : List ℕ) → starts_with key (key ++ x) ≡ true) → all_within 0 255 key ≡ true → length key ≤ length log
    → (w ≡ pack_of (take (length key) log)) × (all_within 0 255 (take (length key) log) ≡ true) → w ≡ pack_of key → get_or log (length key) 0 ≡ 61 → has_key key log ≡ true
key_then key log h b l p e z = key_here key log (ap (starts_with key) (first_split key log l b p e) ∙ h (drop (length key) log)) z

-- ---- `key=`, then e bytes with no LF, then an LF

module _ (key log part : List ℕ) (e : ℕ) (f : line_len key ≡ length key) (w : length key ≤ 8) (k : has_key key log ≡ true) (p : part ≡ drop (length key + 1) log)
    (h : e < length part) (z : get_or part e 0 ≡ 10) where
  part_split : part ≡ take e part ++ (10 ∷ drop (suc e) part)
  part_split =
      sym (take-append-drop e part) ∙ ap (λ (r : List ℕ). take e part ++ r) (drop-cons part e 0 h ∙ ap (λ (b : ℕ). b ∷ drop (suc e) part) z)

  log_split : log ≡ key ++ (61 ∷ take e part) ++ (10 ∷ drop (suc e) part)
  log_split =
      sym (key_is key log k) ∙ ap (λ (r : List ℕ). key ++ (61 ∷ r)) (sym p ∙ part_split) ∙ sym (append_assoc key (61 ∷ take e part) (10 ∷ drop (suc e) part))

  count : length (take e part) ≡ e
  count = length-take-le e part (omega arith)

  line_seen : NoLF (take e part) → line_len log ≡ length key + 1 + e
  line_seen n =
      ap line_len log_split
      ∙ line_is (key ++ (61 ∷ take e part)) (drop (suc e) part) (no_append key (61 ∷ take e part) (no_lf key f) (λ q. omega arith, n))
      ∙ omega (arith, length-append key (61 ∷ take e part), count)

  value_seen : NoLF (take e part) → e ≤ 9 → value_of key log ≡ take e part
  value_seen n s = ap (value_of key) log_split ∙ value_is key (take e part) (drop (suc e) part) (no_lf key f) n (omega (arith, count))

  pub seen_within : length key + 1 + e + 1 ≤ length log
  seen_within = omega (arith, ap length p, length-drop (length key + 1) log)

  after_seen : NoLF (take e part) → after_line log ≡ drop (length key + 1 + e + 1) log
  after_seen n = ap (λ (i : ℕ). drop (suc i) log) (line_seen n) ∙ ap (λ (i : ℕ). drop i log) (sym (add-one (length key + 1 + e)))

  pub number_seen : {v : ℕ} → number_of (take e part) ≡ Some v → AtOneGo (line_number key log) log (record { value = v; next = length key + 1 + e + 1 })
  number_seen {v} q =
      let n = no_number (take e part) v q in
      (seen_within, ap number_of (value_seen n.0 (omega (arith, n.1, count))) ∙ q, after_seen n.0, omega (arith, line_seen n.0))

-- ---- one digit, two digits

-- a number and its LF at the front of a part
abbrev NumberAt : List ℕ → Run → Type 0
NumberAt part r = (r.count ≤ 9) × (0 < r.count → (number_of (take r.count part) ≡ Some r.value) × (get_or part r.count 0 ≡ 10))

-- what `digit` promises of a byte
abbrev DigitOf : ℕ → ℕ → Type 0
DigitOf b a = a ≤ 9 → (48 ≤ b) × (b ≤ 57) × (a ≡ b - 48)

one_number : (l : List ℕ) {a : ℕ} → 1 ≤ length l → DigitOf (get_or l 0 0) a → a ≤ 9 → number_of (take 1 l) ≡ Some a
one_number l h f s =
    let d = f s in
    run_one l 1 (omega arith) h (run_on 48 57 l 0 h d.0 d.1 refl) (d.2 ∙ sym (value_on l 0 h ∙ omega arith)) (omega arith) (omega arith)

two_number : (l : List ℕ) {a b : ℕ} → 2 ≤ length l → DigitOf (get_or l 0 0) a → DigitOf (get_or l 1 0) b → a ≤ 9 → 0 < a → b ≤ 9 → number_of (take 2 l) ≡ Some (a * 10 + b)
two_number l h f g s o t =
    let d = f s in
    let e = g t in
    let v : value_from 0 (take 1 l) ≡ get_or l 0 0 - 48 = value_on l 0 (omega arith) ∙ omega arith in
    run_more l 2 (omega arith) h (run_on 48 57 l 1 (omega arith) e.0 e.1 (run_on 48 57 l 0 (omega arith) d.0 d.1 refl))
    (omega (arith, value_on l 1 (omega arith), v, d.2, e.2)) (omega arith) (λ z. omega (arith, d.2, z))

module _ (log : List ℕ) (from : ℕ) (h : from + 10 ≤ length log) (r : Run) where
  room_behind : 10 ≤ length (drop from log)
  room_behind = omega (arith, length-drop from log)

  byte_behind : (i j : ℕ) → from + i ≡ j → get_or (drop from log) i 0 ≡ get_or log j 0
  byte_behind i j e = get_or-drop from log i 0 ∙ ap (λ (k : ℕ). get_or log k 0) e

  pub one_behind : {a : ℕ} → get_or log (from + 1) 0 ≡ 10 → DigitOf (get_or log from 0) a
      → (r.count ≤ 1) × (0 < r.count → (r.count ≡ 1) × (a ≤ 9) × (r.value ≡ a)) → NumberAt (drop from log) r
  one_behind {a} z f p = (
    omega (arith, p.0),
    λ o.
        let q = p.1 o in
        let n = one_number (drop from log) {a = a} (omega (arith, room_behind)) (rw (byte_behind 0 from (omega arith)) f) q.1 in (
          ap (λ (i : ℕ). number_of (take i (drop from log))) q.0 ∙ n ∙ ap (λ (v : ℕ). Some v) (sym q.2),
          ap (λ (i : ℕ). get_or (drop from log) i 0) q.0 ∙ byte_behind 1 (from + 1) refl ∙ z,
        ),
  )

  pub two_behind : {a b : ℕ} → get_or log (from + 2) 0 ≡ 10 → DigitOf (get_or log from 0) a → DigitOf (get_or log (from + 1) 0) b
      → (r.count ≤ 2) × (0 < r.count → (r.count ≡ 2) × (a ≤ 9) × (0 < a) × (b ≤ 9) × (r.value ≡ a * 10 + b)) → NumberAt (drop from log) r
  two_behind {a} {b} z f g p = (
    omega (arith, p.0),
    λ o.
        let q = p.1 o in
        let n = two_number (drop from log) {a = a} {b = b} (omega (arith, room_behind)) (rw (byte_behind 0 from (omega arith)) f) (rw (byte_behind 1 (from + 1) refl) g) q.1 q.2 q.3 in (
          ap (λ (i : ℕ). number_of (take i (drop from log))) q.0 ∙ n ∙ ap (λ (v : ℕ). Some v) (sym q.4),
          ap (λ (i : ℕ). get_or (drop from log) i 0) q.0 ∙ byte_behind 2 (from + 2) refl ∙ z,
        ),
  )

  pub more_behind : NumberAt (take (length log - from) (drop from log)) r → NumberAt (drop from log) r
  more_behind p = subst (λ (x : List ℕ). NumberAt x r) (part_is from log) p

-- the word, as it is lent to be looked up
pub word_part : (part : List ℕ) (e : ℕ) → e ≤ length part → e ≤ 8 → all_letters (take e part) ≡ true
    → (length (take (e - 0) (drop 0 part)) ≤ 8) × (all_letters (take (e - 0) (drop 0 part)) ≡ true)
word_part part e h s l =
    let n : e - 0 ≡ e = omega arith in
    rw n (omega (arith, length-take-le e part h), l)

pub place_most : {r : ℕ} (w : List ℕ) → r ≡ place_in kind_names w → r ≤ 12
place_most w e = omega (arith, place_within kind_names w)

pub place_lent : {r : ℕ} (part : List ℕ) (e : ℕ) → r ≡ place_in kind_names (take (e - 0) (drop 0 part)) → r ≡ place_in kind_names (take e part)
place_lent part e q = let m : e - 0 ≡ e = omega arith in q ∙ ap (λ (x : ℕ). place_in kind_names (take x part)) m

-- ---- a line of what was found behind its key

abbrev line_at : ℕ → Run → Line
line_at from d = record { value = d.value; next = from + d.count + 1 }

-- what `line_from` promises
abbrev Made : ℕ → Run → Option Line → Type 0
Made from d r = (0 < d.count → r ≡ Some (line_at from d)) × (d.count ≡ 0 → r ≡ None)

-- a line that is read at one go, if there is one
abbrev Seen : Option ℕ → List ℕ → ℕ → Option Line → Type 0
Seen x log most r = IfSome r (λ (y : Line). AtOneGo x log y × (y.next ≤ most))

line_made : (x : Option ℕ) (log : List ℕ) (from most : ℕ) (d : Run) (r : Option Line) → Made from d r → d.count ≤ most → (0 < d.count → AtOneGo x log (line_at from d))
    → Seen x log (from + most + 1) r
line_made x log from most d r m s f = ⊎_elim
    (λ o. subst (Seen x log (from + most + 1)) (sym (m.0 o)) (f o, omega arith))
    (λ o. subst (Seen x log (from + most + 1)) (sym (m.1 (omega arith))) tt)
    (le_or_lt 1 d.count)

pub number_read : (key log part : List ℕ) (d : Run) {r : Option Line} → line_len key ≡ length key → length key ≤ 8 → has_key key log ≡ true
    → part ≡ drop (length key + 1) log → 10 ≤ length part
    → NumberAt part d → Made (length key + 1) d r → Seen (line_number key log) log (length key + 1 + 9 + 1) r
number_read key log part d {r} f w k p h s m =
    line_made (line_number key log) log (length key + 1) 9 d r m s.0
    (λ o. number_seen key log part d.count f w k p (omega arith) (s.1 o).1 (s.1 o).0)

-- the line of the kind
kind_seen : (log part : List ℕ) (e : ℕ) {v : ℕ} → has_key (100 ∷ 111 ∷ []) log ≡ true → part ≡ drop 3 log → e < length part → get_or part e 0 ≡ 10 → 0 < e → e ≤ 8
    → all_letters (take e part) ≡ true → v ≡ place_in kind_names (take e part) → AtOneGo (line_kind log) log (record { value = v; next = 3 + e + 1 })
kind_seen log part e {v} k p h z o s l q =
    let key : List ℕ = 100 ∷ 111 ∷ [] in
    let n = no_within 97 122 (take e part) (omega arith) l in
    let c = count key log part e refl (omega arith) k p h z in
    let r : line_kind log ≡ Some v =
    ap (λ (b : List ℕ). kind_of b) (value_seen key log part e refl (omega arith) k p h z n (omega arith))
    ∙ kind_letters (take e part) (omega arith) (omega arith) l ∙ ap (λ (x : ℕ). Some x) (sym q) in (
      omega (arith, seen_within key log part e refl (omega arith) k p h z),
      r,
      after_seen key log part e refl (omega arith) k p h z n,
      omega (arith, line_seen key log part e refl (omega arith) k p h z n),
    )

pub kind_read : (log part : List ℕ) (d : Run) {r : Option Line} → has_key (100 ∷ 111 ∷ []) log ≡ true → part ≡ drop 3 log → 9 ≤ length part
    → (d.count ≤ 8)
    × (0 < d.count → (all_letters (take d.count part) ≡ true) × (get_or part d.count 0 ≡ 10) × (d.value ≡ place_in kind_names (take d.count part)))
    → Made 3 d r → Seen (line_kind log) log (3 + 8 + 1) r
kind_read log part d {r} k p h s m =
    line_made (line_kind log) log 3 8 d r m s.0
    (λ o. kind_seen log part d.count k p (omega (arith, s.0)) (s.1 o).1 o s.0 (s.1 o).0 (s.1 o).2)

-- ---- five lines

drop_count : (i : ℕ) (l : List ℕ) → i ≤ length l → length (drop i l) + i ≡ length l
drop_count i l h = omega (arith, length-drop i l)

-- what is lent of the log behind four lines has room for the fifth
abbrev later : ℕ → List ℕ → List ℕ
later i l = take (length l - i) (drop i l)

later_count : (i : ℕ) (l : List ℕ) → i ≤ length l → length (later i l) + i ≡ length l
later_count i l h = omega (arith, ap length (part_is i l), length-drop i l)

pub fifth_room : (log : List ℕ) (i j k l : ℕ) → 64 ≤ length log → i ≤ 12 → j ≤ 12 → k ≤ 15 → l ≤ 12 → 12 ≤ length (later l (later k (later j (later i log))))
fifth_room log i j k l h p q r s =
    let e1 = later_count i log (omega arith) in
    let e2 = later_count j (later i log) (omega arith) in
    let e3 = later_count k (later j (later i log)) (omega arith) in
    omega (arith, later_count l (later k (later j (later i log))) (omega arith))

pub five_seen : (log : List ℕ) {l1 l2 l3 l4 : List ℕ} {n k s a b : Line}
    → AtOneGo (line_number (110 ∷ []) log) log n
    → l1 ≡ drop n.next log → AtOneGo (line_kind l1) l1 k
    → l2 ≡ drop k.next l1 → AtOneGo (line_number (115 ∷ 101 ∷ 97 ∷ 116 ∷ []) l2) l2 s
    → l3 ≡ drop s.next l2 → AtOneGo (line_number (97 ∷ []) l3) l3 a
    → l4 ≡ drop a.next l3 → AtOneGo (line_number (98 ∷ []) l4) l4 b
    → ◌≡◌ {A = Front} (record {
      block = Raw n.value k.value s.value a.value b.value;
      used = n.next + k.next + s.next + a.next + b.next;
      whole = true;
    }) (front_of log)
unfolding block_ended rest_of
five_seen log {l1} {l2} {l3} {l4} {n} {k} {s} {a} {b} rn e1 rk e2 rs e3 ra e4 rb =
    let f1 : l1 ≡ after_line log = e1 ∙ sym rn.2 in
    let f2 : l2 ≡ after_line l1 = e2 ∙ sym rk.2 in
    let f3 : l3 ≡ after_line l2 = e3 ∙ sym rs.2 in
    let f4 : l4 ≡ after_line l3 = e4 ∙ sym ra.2 in
    let four : after_lines 4 log ≡ l4 = rw (← f1, ← f2, ← f3, ← f4) in
    let five : rest_of log ≡ drop b.next l4 = ap after_line four ∙ rb.2 in
    let blk : Raw n.value k.value s.value a.value b.value ≡ block_of log =
    block_five log (λ z. omega (arith, rn.0)) (sym rn.1) f1 (sym rk.1) f2 (sym rs.1) f3 (sym ra.1) f4 (sym rb.1) refl in
    let total : n.next + k.next + s.next + a.next + b.next ≡ length log - length (rest_of log) =
    omega (arith, ap length five, drop_count b.next l4 rb.0, ap length e4, drop_count a.next l3 ra.0, ap length e3, drop_count s.next l2 rs.0, ap length e2, drop_count k.next l1 rk.0, ap length e1, drop_count n.next log rn.0) in
    let end : true ≡ ltb (line_len (after_lines 4 log)) (length (after_lines 4 log)) =
    rw four (sym (lt-ltb (line_len l4) (length l4) (omega (arith, rb.0, rb.3)))) in
    joined blk total end
  where
    joined : {x y : Block} {u v : ℕ} {p q : Bool} → x ≡ y → u ≡ v → p ≡ q
        → ◌≡◌ {A = Front} (record { block = x; used = u; whole = p }) (record { block = y; used = v; whole = q })
    joined e f g = cc

-- by the ends of the lines
pub by_ends : (log : List ℕ) {fifth left : List ℕ} {x : Block} {e : ℕ} → x ≡ block_of log → left ≡ rest_of log → fifth ≡ after_lines 4 log → e ≡ line_len fifth
    → ◌≡◌ {A = Front} (record { block = x; used = length log - length left; whole = ltb e (length fifth) }) (front_of log)
unfolding block_ended
by_ends log p q r s = rw (p, q, s, r)
