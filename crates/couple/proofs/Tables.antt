-- Two tables: the one that is due is read and put back, the other stays, and both stay sound; and what is written is what the definitions say. For the proofs of the
-- functions. Assumes nothing.
use Prim.Native.Nat.{ℕ, zero, suc, ◌+◌, ◌-◌, ◌≤◌, ◌<◌, min}
use mathlib.Core.Bool.{Bool, true, false}
use mathlib.Core.Path.{◌≡◌, refl, sym, ap, subst, ◌∙◌}
use mathlib.Core.List.{List, [], ◌∷◌, ◌++◌}
use native.Mathlib.Omega.{arith}
use lib.ListN.{length, get_or, set, length-set}
use lib.Seq.{get_or-set_same, get_or-set_other}
use lib.Dec.{eqb, ltb}
use borrow.Author.Tests.{eq-eqb, ne_eqb, ltb-false}
use Rattle.std.specs.Prelude.{Option, Some, None, Result, Ok, Err}
use Rattle.paper.specs.declared.refusal.Refusal.TheVariants.{BadSheet}
use Rattle.paper.specs.declared.refusal.Refusal.{Refusal}
use Rattle.laws.specs.Tests.{pick}
use Rattle.paper.specs.Paper.{stand_in}
use Rattle.paper.specs.RefusalNumbers.{taken}
use Rattle.paper.specs.declared.Sheet.{Sheet}
use Rattle.text.specs.Line.{number_line}
use Rattle.text.proofs.Lines.{line_count}
use Rattle.text.proofs.Numbers.{count_most}
use Rattle.writing.specs.AnswerSheet.{Wrote}
use Rattle.table.specs.declared.table.Table.{Table}
use Rattle.table.specs.Take.{fresh_table, Sound}
use Rattle.pool.specs.Jackpot.{most, fits_in, fed_by, opened_with}
use Rattle.pool.specs.declared.Pool.{Pool}
use Rattle.pool.specs.declared.PoolOpened as opens
use Rattle.laws.proofs.Tests.{test}
use mathlib.Core.Logic.{◌⊎◌, inl, inr}
use Rattle.frames.specs.declared.Due.{Due}
use Rattle.frames.specs.Frames.{table_key}
use Rattle.couple.specs.declared.Pair.{Pair}
use Rattle.couple.specs.Couple.{is_second, table_at, with_table, start_of, named, shown_bytes, pool_key, house_key, last_bytes, still, refused, pool_done, sheet_done, Gave, Good}

-- ---- a table by its place

pub same_at : (l : List Table) (i : ℕ) (d e : Table) → i < length l → get_or l i d ≡ get_or l i e
same_at [] i d e h = absurd (omega arith)
same_at (t ∷ l) zero d e h = refl
same_at (t ∷ l) (suc i) d e h = same_at l i d e (omega arith)

pub at_second : (ts : List Table) {second : Bool} (d : Table) → length ts ≡ 2 → second ≡ true → get_or ts 1 d ≡ table_at ts second
at_second ts {second} d n e = same_at ts 1 d (fresh_table stand_in) (omega (arith, n)) ∙ sym (ap (table_at ts) e)

pub at_first : (ts : List Table) {second : Bool} (d : Table) → length ts ≡ 2 → second ≡ false → get_or ts 0 d ≡ table_at ts second
at_first ts {second} d n e = same_at ts 0 d (fresh_table stand_in) (omega (arith, n)) ∙ sym (ap (table_at ts) e)

pub with_second : (ts : List Table) {second : Bool} (t : Table) → second ≡ true → set ts 1 t ≡ with_table ts second t
with_second ts t e = sym (ap (λ (b : Bool). with_table ts b t) e)

pub with_first : (ts : List Table) {second : Bool} (t : Table) → second ≡ false → set ts 0 t ≡ with_table ts second t
with_first ts t e = sym (ap (λ (b : Bool). with_table ts b t) e)

module _ (ts : List Table) (two : length ts ≡ 2) (u : Table) where
  put_other : Sound (table_at ts false) → Sound (table_at (set ts 1 u) false)
  put_other s = subst Sound (sym (get_or-set_other ts 1 0 u (fresh_table stand_in) (λ e. omega arith))) s

  put_first : Sound (table_at ts true) → Sound (table_at (set ts 0 u) true)
  put_first s = subst Sound (sym (get_or-set_other ts 0 1 u (fresh_table stand_in) (λ e. omega arith))) s

  put_same : (i : ℕ) → i < 2 → Sound u → Sound (get_or (set ts i u) i (fresh_table stand_in))
  put_same i l s = subst Sound (sym (get_or-set_same ts i u (fresh_table stand_in) (omega (arith, two)))) s

pub good_with : (p : Pair) (shut second : Bool) (u : Table) (q : Pool) (h : ℕ) → Good p → Sound u → q.held ≤ most → h ≤ most
    → Good (record { shut = shut; tables = with_table p.tables second u; pool = q; house = h })
good_with p shut true u q h g s a b = record {
  two = length-set p.tables 1 u ∙ g.two;
  first = put_other p.tables g.two u g.first;
  second = put_same p.tables g.two u 1 (omega arith) s;
  held = a;
  house = b;
}
good_with p shut false u q h g s a b = record {
  two = length-set p.tables 0 u ∙ g.two;
  first = put_same p.tables g.two u 0 (omega arith) s;
  second = put_first p.tables g.two u g.second;
  held = a;
  house = b;
}

pub sound_at : (p : Pair) (second : Bool) → Good p → Sound (table_at p.tables second)
sound_at p true g = g.second
sound_at p false g = g.first

pub started : {t : Table} → (t ≡ fresh_table stand_in) × Sound t
    → (record { shut = false; tables = t ∷ t ∷ []; pool = record { held = 0 }; house = 0 } ≡ start_of) × Good (record { shut = false; tables = t ∷ t ∷ []; pool = record { held = 0 }; house = 0 })
started {t} e = (
  ap (λ (x : Table). record { shut = false; tables = x ∷ x ∷ []; pool = record { held = 0 }; house = 0 }) e.0,
  record { two = refl; first = e.1; second = e.1; held = omega arith; house = omega arith },
)

-- ---- what went to the house

pub house_is : (h part : ℕ) {l s r : ℕ} → h ≤ most → s ≡ most - h → l ≡ min part s → r ≡ h + l → (r ≡ fed_by h part) × (r ≤ most)
unfolding fed_by fits_in
house_is h part q e f g = (g ∙ ap (λ (x : ℕ). h + x) (f ∙ ap (min part) e), omega (arith, e, f, g))

-- ---- what is shown

pub line_most : (key : List ℕ) (n : ℕ) → length (number_line key n) ≤ length key + 11
line_most key n = omega (arith, line_count key n, count_most n)

module _ (only : ℕ) (due : Due) (answer : List ℕ) {out new : List ℕ} {r : ℕ} where
  pub shown_both : {n : ℕ} → n ≡ named due → only ≡ 0 → Wrote (number_line table_key n ++ answer) out new r → Wrote (shown_bytes only due answer) out new r
  unfolding shown_bytes
  shown_both {n} q e v =
      let w : Wrote (number_line table_key (named due) ++ answer) out new r = subst (λ (i : ℕ). Wrote (number_line table_key i ++ answer) out new r) q v in
      subst (λ (b : Bool). Wrote (pick b (number_line table_key (named due) ++ answer) (pick (eqb only (named due)) answer [])) out new r) (sym (eq-eqb only 0 e)) w

  pub shown_one : {n : ℕ} → n ≡ named due → (only ≡ 0 → ⊥) → only ≡ n → Wrote answer out new r → Wrote (shown_bytes only due answer) out new r
  unfolding shown_bytes
  shown_one {n} q z e w =
      subst (λ (b : Bool). Wrote (pick b (number_line table_key (named due) ++ answer) (pick (eqb only (named due)) answer [])) out new r) (sym (ne_eqb only 0 z))
      (subst (λ (b : Bool). Wrote (pick b answer []) out new r) (sym (eq-eqb only (named due) (e ∙ q))) w)

pub shown_none : (only : ℕ) (due : Due) (answer : List ℕ) {out : List ℕ} {n : ℕ} → n ≡ named due → (only ≡ 0 → ⊥) → (only ≡ n → ⊥) → Wrote (shown_bytes only due answer) out out 0
unfolding shown_bytes
shown_none only due answer {out} {n} q z m =
    subst (λ (b : Bool). Wrote (pick b (number_line table_key (named due) ++ answer) (pick (eqb only (named due)) answer [])) out out 0) (sym (ne_eqb only 0 z))
    (subst (λ (b : Bool). Wrote (pick b answer []) out out 0) (sym (ne_eqb only (named due) (λ e. m (e ∙ sym q)))) (record { count = refl; sheet = refl }))

-- ---- the last lines

pub last_both : (only : ℕ) (p : Pair) {out new : List ℕ} {r : ℕ} → p.shut ≡ false → only ≡ 0
    → Wrote (number_line pool_key p.pool.held ++ number_line house_key p.house) out new r → Wrote (last_bytes only p) out new r
unfolding last_bytes
last_both only p {out} {new} {r} s e w =
    subst (λ (b : Bool). Wrote (pick b [] (pick (eqb only 0) (number_line pool_key p.pool.held ++ number_line house_key p.house) [])) out new r) (sym s)
    (subst (λ (b : Bool). Wrote (pick b (number_line pool_key p.pool.held ++ number_line house_key p.house) []) out new r) (sym (eq-eqb only 0 e)) w)

pub last_shut : (only : ℕ) (p : Pair) {out : List ℕ} → p.shut ≡ true → Wrote (last_bytes only p) out out 0
unfolding last_bytes
last_shut only p {out} s =
    subst (λ (b : Bool). Wrote (pick b [] (pick (eqb only 0) (number_line pool_key p.pool.held ++ number_line house_key p.house) [])) out out 0) (sym s) (record { count = refl; sheet = refl })

pub last_one : (only : ℕ) (p : Pair) {out : List ℕ} → p.shut ≡ false → (only ≡ 0 → ⊥) → Wrote (last_bytes only p) out out 0
unfolding last_bytes
last_one only p {out} s n =
    subst (λ (b : Bool). Wrote (pick b [] (pick (eqb only 0) (number_line pool_key p.pool.held ++ number_line house_key p.house) [])) out out 0) (sym s)
    (subst (λ (b : Bool). Wrote (pick b (number_line pool_key p.pool.held ++ number_line house_key p.house) []) out out 0) (sym (ne_eqb only 0 n)) (record { count = refl; sheet = refl }))

-- ---- the opening

nothing_written : {out : List ℕ} → Wrote [] out out 0
nothing_written {out} = record { count = refl; sheet = refl }

pub opened_held : {o : opens.PoolOpened} (v : ℕ) → o ≡ opened_with v → o.code ≡ taken → o.pool.held ≤ most
unfolding opened_with
opened_held {o} v e c = subst (λ (x : opens.PoolOpened). x.pool.held ≤ most) (sym e) (go (test (ltb most v)))
  where
    go : (ltb most v ≡ true) ⊎ (ltb most v ≡ false) → pick (ltb most v) 0 v ≤ most
    go (inl t) = subst (λ (b : Bool). pick b 0 v ≤ most) (sym t) (omega arith)
    go (inr f) = subst (λ (b : Bool). pick b 0 v ≤ most) (sym f) (ltb-false most v f)

-- a value below the pool's limit opens it
module _ (p : Pair) {n : Option ℕ} where
  pub pool_gave : {v : ℕ} {x : Option ℕ} {q : Pair} {out : List ℕ} → n ≡ x → n ≡ Some v → (opened_with v).code ≡ taken
      → q ≡ record { shut = p.shut; tables = p.tables; pool = (opened_with v).pool; house = p.house } → Gave (pool_done p x) out out q 0
  pool_gave {v} {x} {q} {out} e f c g =
      subst (λ (y : Option ℕ). Gave (pool_done p y) out out q 0) (sym f ∙ e)
      (subst (λ (b : Bool). Gave (pick b (still (record { shut = p.shut; tables = p.tables; pool = (opened_with v).pool; house = p.house })) (refused p)) out out q 0)
      (sym (eq-eqb (opened_with v).code taken c)) (record { pair = g; wrote = nothing_written }))

  pub pool_over : {v : ℕ} {x : Option ℕ} {q : Pair} {out new : List ℕ} {w : ℕ} → n ≡ x → n ≡ Some v → ((opened_with v).code ≡ taken → ⊥)
      → Gave (refused p) out new q w → Gave (pool_done p x) out new q w
  pool_over {v} {x} {q} {out} {new} {w} e f c g =
      subst (λ (y : Option ℕ). Gave (pool_done p y) out new q w) (sym f ∙ e)
      (subst (λ (b : Bool). Gave (pick b (still (record { shut = p.shut; tables = p.tables; pool = (opened_with v).pool; house = p.house })) (refused p)) out new q w)
      (sym (ne_eqb (opened_with v).code taken c)) g)

  pub pool_bad : {x : Option ℕ} {q : Pair} {out new : List ℕ} {w : ℕ} → n ≡ x → n ≡ None → Gave (refused p) out new q w → Gave (pool_done p x) out new q w
  pool_bad {x} {q} {out} {new} {w} e f g = subst (λ (y : Option ℕ). Gave (pool_done p y) out new q w) (sym f ∙ e) g

module _ (p : Pair) (due : Due) {o x : Result Sheet Refusal} {q : Pair} {out new : List ℕ} {w : ℕ} (e : o ≡ x) where
  pub sheet_bad : {why : Refusal} → o ≡ Err why → Gave (refused p) out new q w → Gave (sheet_done p due x) out new q w
  sheet_bad f g = subst (λ (y : Result Sheet Refusal). Gave (sheet_done p due y) out new q w) (sym f ∙ e) g

  pub sheet_gave : {s : Sheet} → o ≡ Ok s → Gave (sheet_done p due (Ok s)) out new q w → Gave (sheet_done p due x) out new q w
  sheet_gave f g = subst (λ (y : Result Sheet Refusal). Gave (sheet_done p due y) out new q w) (sym f ∙ e) g

-- a table that a sheet opens
pub sheet_with : (p : Pair) (due : Due) (s : Sheet) {second : Bool} {t : Table} {ts : List Table} → Good p → second ≡ is_second due → (t ≡ fresh_table s) × Sound t → ts ≡ with_table p.tables second t
    → (◌≡◌ {A = Pair} (record { shut = p.shut; tables = ts; pool = p.pool; house = p.house }) (record { shut = p.shut; tables = with_table p.tables (is_second due) (fresh_table s); pool = p.pool; house = p.house }))
    × Good (record { shut = p.shut; tables = ts; pool = p.pool; house = p.house })
sheet_with p due s {second} {t} {ts} g e f w =
    let made : List Table → Pair = λ (l : List Table). record { shut = p.shut; tables = l; pool = p.pool; house = p.house } in (
      ap made (w ∙ ap (λ (b : Bool). with_table p.tables b t) e ∙ ap (with_table p.tables (is_second due)) f.0),
      subst (λ (l : List Table). Good (record { shut = p.shut; tables = l; pool = p.pool; house = p.house })) (sym w) (good_with p p.shut second t p.pool p.house g f.1 g.held g.house),
    )
