-- One entry more of a log that is read afresh, and one row more of its index. Assumes nothing.
use mathlib.Core.Path.{◌≡◌, sym, ap, ◌∙◌}
use mathlib.Core.Bool.{Bool, true, false}
use mathlib.Core.List.{List, map}
use Prim.Native.Nat.{ℕ, ◌+◌, ◌≤◌}
use native.Mathlib.Numerals.{add-one}
use native.Mathlib.Omega.{arith}
use lib.Dec.{eqb}
use borrow.Author.Tests.{eq-eqb, ne_eqb}
use Rattle.laws.specs.Tests.{pick, both, one}
use Rattle.paper.specs.declared.Entry.{Entry}
use Rattle.chairs.specs.declared.Chair.{Chair}
use Rattle.table.specs.Take.{code_of, next_of, taken_of}
use Rattle.table.specs.declared.table.Table.{Table}
use Rattle.table.specs.declared.table.Taken.{Taken}
use Rattle.records.specs.Stored.{put_row}
use Rattle.fresh.specs.Reading.{played_of, replacing, stack_of, rowed_of, index_after, rowed_by, index_by, rowed_from, index_from, is_hand}
use Rattle.fresh.specs.declared.Played.{Played}
use Rattle.fresh.specs.declared.Rowed.{Rowed}

-- ---- the table after one entry more

pub taken_table : (t : Table) (n : ℕ) (e : Entry) {k : Taken} → k ≡ taken_of t n e → k.table ≡ next_of t n e
unfolding taken_of
taken_table t n e h = ap (λ (k : Taken). k.table) h

pub taken_code : (t : Table) (n : ℕ) (e : Entry) {k : Taken} → k ≡ taken_of t n e → k.code ≡ code_of t n e
unfolding taken_of
taken_code t n e h = ap (λ (k : Taken). k.code) h

pub play_is : (p : Played) (n : ℕ) (e : Entry) {k : Taken} {ok b : Bool} → k ≡ taken_of p.table n e → b ≡ eqb k.code 0 → ok ≡ both p.ok b
    → record { table = k.table; ok = ok } ≡ played_of p n e
unfolding played_of
play_is p n e {k} {ok} {b} h g f =
    ap (λ (u : Table). record { table = u; ok = ok }) (taken_table p.table n e h)
    ∙ ap (λ (c : Bool). record { table = next_of p.table n e; ok = c })
    (f ∙ ap (λ (c : Bool). both p.ok c) (g ∙ ap (λ (c : ℕ). eqb c 0) (taken_code p.table n e h)))

pub here_it_is : (k at : ℕ) (e : Entry) (f : ℕ → Entry) → k ≡ at → e ≡ replacing at e f k
here_it_is k at e f h = sym (ap (λ (b : Bool). pick b e (f k)) (eq-eqb k at h))

pub another : (k at : ℕ) (e : Entry) (f : ℕ → Entry) {x : Entry} → (k ≡ at → ⊥) → x ≡ f k → x ≡ replacing at e f k
another k at e f n h = h ∙ sym (ap (λ (b : Bool). pick b e (f k)) (ne_eqb k at n))

-- ---- the rows

pub rowed_yes : (hand : Bool) (hands n : ℕ) (cs : List Chair) (index : List ℕ) {new ss : List ℕ} → hand ≡ true → ss ≡ map stack_of cs → new ≡ put_row index hands n ss
    → (hands + 1 ≡ rowed_of hand hands) × (new ≡ index_after hand hands n cs index)
unfolding index_after
rowed_yes hand hands n cs index {new} {ss} q e h = (
  ap (λ (b : Bool). hands + one b) (sym q),
  h ∙ ap (put_row index hands n) e ∙ ap (λ (b : Bool). pick b (put_row index hands n (map stack_of cs)) index) (sym q),
)

pub rowed_no : (hand : Bool) (hands n : ℕ) (cs : List Chair) (index : List ℕ) → hand ≡ false → (hands ≡ rowed_of hand hands) × (index ≡ index_after hand hands n cs index)
unfolding index_after
rowed_no hand hands n cs index q = (
  omega (arith, ap one q),
  ap (λ (b : Bool). pick b (put_row index hands n (map stack_of cs)) index) (sym q),
)

pub row_is : (p : Rowed) (k : ℕ) (e : Entry) (index : List ℕ) {x : Entry} {b : Bool} {h : ℕ} {new : List ℕ} {tk : Taken} → x ≡ e → b ≡ is_hand x
    → h ≡ rowed_of b p.hands → new ≡ index_after b p.hands (k + 1) p.table.chairs index → tk ≡ taken_of p.table (k + 1) x
    → (record { table = tk.table; hands = h } ≡ rowed_by p k e) × (new ≡ index_by p k e index)
row_is p k e index {x} {b} {h} {new} {tk} q f g i t =
    let hand : b ≡ is_hand e = f ∙ ap is_hand q in (
      ap (λ (u : Table). record { table = u; hands = h }) (taken_table p.table (k + 1) x t ∙ ap (next_of p.table (k + 1)) q)
          ∙ ap (λ (m : ℕ). record { table = next_of p.table (k + 1) e; hands = m }) (g ∙ ap (λ (c : Bool). rowed_of c p.hands) hand),
      i ∙ ap (λ (c : Bool). index_after c p.hands (k + 1) p.table.chairs index) hand,
    )

pub rowed_turn : (p₀ : Rowed) (f : ℕ → Entry) (k : ℕ) {p r : Rowed} → p ≡ rowed_from p₀ f k → r ≡ rowed_by p k (f k) → r ≡ rowed_from p₀ f (k + 1)
rowed_turn p₀ f k {p} {r} g e = e ∙ ap (λ (q : Rowed). rowed_by q k (f k)) g ∙ ap (rowed_from p₀ f) (sym (add-one k))

pub index_turn : (p₀ : Rowed) (f : ℕ → Entry) (k : ℕ) (index₀ : List ℕ) {p : Rowed} {index new : List ℕ} → p ≡ rowed_from p₀ f k
    → index ≡ index_from p₀ f k index₀ → new ≡ index_by p k (f k) index → new ≡ index_from p₀ f (k + 1) index₀
index_turn p₀ f k index₀ {p} {index} {new} g h e =
    e ∙ ap (λ (q : Rowed). index_by q k (f k) index) g ∙ ap (index_by (rowed_from p₀ f k) k (f k)) h ∙ ap (λ (m : ℕ). index_from p₀ f m index₀) (sym (add-one k))

-- there are at most as many rows as entries
pub one_most : (b : Bool) → one b ≤ 1
one_most true = omega arith
one_most false = omega arith

pub rowed_most : (p : Rowed) (k : ℕ) (e : Entry) {r : Rowed} → p.hands ≤ k → r ≡ rowed_by p k e → r.hands ≤ k + 1
rowed_most p k e {r} h g = omega (arith, h, ap (λ (q : Rowed). q.hands) g, one_most (is_hand e))
