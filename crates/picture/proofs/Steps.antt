-- Laws of the screen's step: what a test on the way decides. Assumes nothing.
use mathlib.Core.Path.{◌≡◌, refl, sym, ap, ◌∙◌}
use mathlib.Core.List.{List, [], ◌∷◌, ◌++◌}
use mathlib.Core.Bool.{Bool, true, false}
use Prim.Native.Nat.{ℕ, suc, ◌+◌, ◌-◌, ◌≤◌, ◌<◌}
use native.Mathlib.Numerals.{add-one}
use native.Mathlib.Omega.{arith}
use lib.ListN.{length, take, set}
use lib.Seq.{take-suc-set, take-set-le, length-take-le}
use lib.Dec.{eqb}
use borrow.Author.Tests.{eq-eqb, ne_eqb, lt-ltb, le-ltb}
use Rattle.laws.specs.Tests.{pick, both, either}
use Rattle.figures.specs.Placing.{Put}
use Rattle.figures.specs.Words.{rule}
use Rattle.figures.specs.ScreenRow.{half_row, left_of, counted_of}
use Rattle.picture.specs.Lines.{line_kinds}
use Rattle.picture.specs.Rows.{numbered, front_of, completes, start_row, rest_row, column_number, line_drawn, mark_of, visible_all, foreign_row}
use Rattle.picture.specs.Screen.{line_most, Kept, state_of, said_of, shown_of, step_of, close_of}
use Rattle.picture.specs.declared.Line.{Line}
use Rattle.picture.specs.declared.Screen.{Screen}
use Rattle.figures.proofs.Puts.{next, put_none}

-- a row that begins, by its three parts
module _ (last kind n : ℕ) {h o k m : Bool} (e : h ≡ half_row last) (f : o ≡ either (eqb kind 0) (eqb kind 1)) (g : k ≡ half_row kind)
    (i : m ≡ either k (eqb kind 4)) where
  pub front_drawn : {a b c d : ℕ} {l s t u : List ℕ} → Put (pick h (10 ∷ []) []) a l s b → Put (pick o rule []) b s t c → Put (left_of kind m n) c t u d
      → Put (front_of last kind n) a l u d
  unfolding front_of numbered
  front_drawn p q r = next (next (rw e at p) (rw f at q)) (rw (i, g) at r)

-- a row's start: nothing where the line completes the row before
module _ (last kind n : ℕ) {x y z : Bool} (e : x ≡ both (eqb last 0) (eqb kind 1)) (f : y ≡ both (eqb last 7) (eqb kind 8)) (g : z ≡ either x y) where
  completes_is : completes last kind ≡ z
  unfolding completes
  completes_is = rw (← e, ← f) (sym g)

  pub start_none : (a : ℕ) (l : List ℕ) → z ≡ true → a ≤ length l → Put (start_row last kind n) a l l a
  unfolding start_row
  start_none a l t h = rw (completes_is ∙ t) (put_none a l h)

  pub start_drawn : {a d : ℕ} {l s : List ℕ} → z ≡ false → Put (front_of last kind n) a l s d → Put (start_row last kind n) a l s d
  unfolding start_row
  start_drawn t p = rw (completes_is ∙ t) p

-- an answer line, by its start, its rest and the rule below it
module _ (colour : Bool) (last pots kind v : ℕ) {m n : ℕ} {o : Bool} (e : m ≡ counted_of pots kind) (f : n ≡ pick (eqb kind 4) m v)
    (g : o ≡ either (eqb kind 5) (eqb kind 9)) where
  pub answer_drawn : {a b c d : ℕ} {l s t u : List ℕ} → Put (start_row last kind n) a l s b → Put (rest_row colour kind v) b s t c → Put (pick o rule []) c t u d
      → Put (line_drawn colour last pots kind v) a l u d
  unfolding line_drawn column_number
  answer_drawn p q r = next (next (rw (f, e) at p) q) (rw g at r)

-- a foreign row, by its four parts
module _ (last : ℕ) (long : Bool) (bs : List ℕ) {h : Bool} {m : List ℕ} (e : h ≡ half_row last) (f : m ≡ mark_of long) where
  pub foreign_drawn : {a b c d z : ℕ} {l s t u v : List ℕ} → Put (pick h (10 ∷ []) []) a l s b → Put m b s t c → Put (visible_all bs) c t u d
      → Put (10 ∷ []) d u v z → Put (foreign_row last long bs) a l v z
  unfolding foreign_row
  foreign_drawn p q r w = next (next (next (rw e at p) (rw f at q)) r) w

-- ---- a byte

-- the kept line with its LF, and without; with another byte
module _ (buf : List ℕ) (n : ℕ) (h : n < length buf) where
  with_lf : take (n + 1 - 0) (set buf n 10) ≡ take n buf ++ (10 ∷ [])
  with_lf =
      let e : n + 1 - 0 ≡ suc n = omega arith in
      rw e (take-suc-set buf n 10 h)

  without_lf : take (n - 0) (set buf n 10) ≡ take n buf
  without_lf =
      let e : n - 0 ≡ n = omega arith in
      rw e (take-set-le n buf n 10 (omega arith))

  with_byte : (b : ℕ) → take (n + 1) (set buf n b) ≡ take n buf ++ (b ∷ [])
  with_byte b = rw (add-one n) (take-suc-set buf n b h)

kept_is : {l m : List ℕ} {a b : Bool} {i j p q : ℕ} → l ≡ m → a ≡ b → i ≡ j → p ≡ q
    → ◌≡◌ {A = Kept} (record { line = l; long = a; last = i; pots = p }) (record { line = m; long = b; last = j; pots = q })
kept_is e f g h = cc

module _ (colour : Bool) (s : Screen) (buf : List ℕ) (b : ℕ) (room : s.count < length buf) where
  -- an LF
  pub step_ended : {l : Line} {after : Screen} {a r : ℕ} {out new : List ℕ} → b ≡ 10
      → l ≡ said_of s.long (take (s.count + 1 - 0) (set buf s.count 10))
      → Put (shown_of colour s.last s.long s.pots l (take (s.count - 0) (set buf s.count 10))) a out new r
      → after.count ≡ 0 → after.long ≡ false → after.last ≡ l.kind → after.pots ≡ counted_of s.pots l.kind
      → Put (step_of colour (state_of s buf) b).drawn a out new r × (state_of after (set buf s.count 10) ≡ (step_of colour (state_of s buf) b).after)
  unfolding step_of
  step_ended {l} {after} e q p c1 c2 c3 c4 =
      let f : l ≡ said_of s.long (take s.count buf ++ (10 ∷ [])) = q ∙ ap (said_of s.long) (with_lf buf s.count room) in
      let d = rw (without_lf buf s.count room) at p in (
        rw (eq-eqb b 10 e, ← f) d,
        rw (eq-eqb b 10 e, ← f) (kept_is (ap (λ (k : ℕ). take k (set buf s.count 10)) c1) c2 c3 c4),
      )

  -- another byte, where there is room for it
  pub step_kept : (a : ℕ) (out : List ℕ) → (b ≡ 10 → ⊥) → s.count < line_most → a ≤ length out → Put (step_of colour (state_of s buf) b).drawn a out out a
      × (state_of (record { count = s.count + 1; long = s.long; last = s.last; pots = s.pots }) (set buf s.count b)
      ≡ (step_of colour (state_of s buf) b).after)
  unfolding step_of
  step_kept a out e h w =
      let k : length (take s.count buf) ≡ s.count = length-take-le s.count buf (omega arith) in (
        rw (ne_eqb b 10 e, k, lt-ltb s.count line_most h) (put_none a out w),
        rw (ne_eqb b 10 e, k, lt-ltb s.count line_most h) (kept_is (with_byte buf s.count room b) refl refl refl),
      )

  -- and where there is none
  pub step_full : {a r : ℕ} {out new : List ℕ} → (b ≡ 10 → ⊥) → line_most ≤ s.count → Put (foreign_row s.last s.long (take (s.count - 0) buf)) a out new r
      → Put (step_of colour (state_of s buf) b).drawn a out new r
      × (state_of (record { count = 1; long = true; last = line_kinds; pots = 0 }) (set buf 0 b) ≡ (step_of colour (state_of s buf) b).after)
  unfolding step_of
  step_full e h p =
      let k : length (take s.count buf) ≡ s.count = length-take-le s.count buf (omega arith) in
      let z : s.count - 0 ≡ s.count = omega arith in (
        rw (ne_eqb b 10 e, k, le-ltb s.count line_most h) (rw z at p),
        rw (ne_eqb b 10 e, k, le-ltb s.count line_most h) (kept_is (with_byte buf 0 (omega arith) b) refl refl refl),
      )

-- ---- the end of the input

module _ (s : Screen) (buf : List ℕ) (room : s.count ≤ length buf) where
  pub close_half : {h : Bool} {a r : ℕ} {out new : List ℕ} → s.count ≡ 0 → h ≡ half_row s.last → Put (pick h (10 ∷ []) []) a out new r
      → Put (close_of (state_of s buf)) a out new r
  unfolding close_of
  close_half e f p =
      let k : length (take s.count buf) ≡ s.count = length-take-le s.count buf room in
      rw (k, eq-eqb s.count 0 e) (rw f at p)

  pub close_line : {a r : ℕ} {out new : List ℕ} → (s.count ≡ 0 → ⊥) → Put (foreign_row s.last s.long (take (s.count - 0) buf)) a out new r
      → Put (close_of (state_of s buf)) a out new r
  unfolding close_of
  close_line e p =
      let k : length (take s.count buf) ≡ s.count = length-take-le s.count buf room in
      let z : s.count - 0 ≡ s.count = omega arith in
      rw (k, ne_eqb s.count 0 e) (rw z at p)
