-- Laws of keeping bytes in a lent buffer, and of gathering from the place i on. For the proofs of the functions.
use mathlib.Core.Path.{◌≡◌, refl, sym, ap, ◌∙◌}
use mathlib.Core.List.{List, [], ◌∷◌, ◌++◌, append_assoc}
use mathlib.Core.Bool.{Bool, true, false, true≢false}
use mathlib.Core.Logic.{◌⊎◌, ⊎_elim, inl, inr}
use Prim.Native.Nat.{ℕ, suc, ◌+◌, ◌-◌, ◌≤◌, ◌<◌}
use native.Mathlib.Numerals.{add-one}
use native.Mathlib.Omega.{arith}
use lib.ListN.{length, get_or, take, drop, set, length-append, length-take, drop_of_length-le, take-append-drop}
use lib.Seq.{set_split, drop-cons, take-append_seam, drop-append-add, drop-drop}
use lib.Dec.{eqb, ltb}
use borrow.Author.Tests.{eqb-true, eq-eqb, ne_eqb, lt-ltb, le-ltb, le-leb, lt-leb}
use Rattle.laws.specs.Tests.{pick}
use Rattle.laws.proofs.Tests.{test}
use Rattle.writing.specs.AnswerSheet.{over}
use Rattle.lines.proofs.Cut.{keep_lf, keep_in, keep_out}
use Rattle.lines.specs.declared.Fill.{Fill}
use Rattle.lines.specs.declared.Progress.{Progress}
use Rattle.lines.specs.Kept.{Kept, nothing, bad_of, keep_of, Gathered, further, gather_of, kept_in, fill_of, progress_of, Room}

-- ---- what is kept is what lies at the buffer's front

pub kept_back : (k : Kept) (buf : List ℕ) → kept_in (fill_of k) (over k.bytes buf) ≡ k
kept_back k buf =
    ap (λ (x : List ℕ). record { bytes = x; lines = k.lines; width = k.width; bad = k.bad }) (take-append_seam k.bytes (drop (length k.bytes) buf))

pub fill_back : (m : Fill) (buf : List ℕ) → m.count ≤ length buf → m ≡ fill_of (kept_in m buf)
fill_back m buf h =
    let e : m.count ≡ length (take m.count buf) = omega (arith, length-take m.count buf) in
    ap (λ (n : ℕ). record { count = n; lines = m.lines; width = m.width; bad = m.bad }) e

-- what was there before is written over
pub over_again : (xs ys l : List ℕ) → length xs ≤ length ys → over ys (over xs l) ≡ over ys l
over_again xs ys l h =
    let n : ℕ = length ys in
    let e : n ≡ length xs + (n - length xs) = omega arith in
    ap (λ (x : List ℕ). ys ++ x)
    (ap (λ (i : ℕ). drop i (over xs l)) e ∙ drop-append-add xs (drop (length xs) l) (n - length xs) ∙ drop-drop (n - length xs) (length xs) l ∙ ap (λ (i : ℕ). drop i l) (sym e))

-- the bytes at the front of the buffer are those that are there
pub over_own : (n : ℕ) (buf : List ℕ) → n ≤ length buf → buf ≡ over (take n buf) buf
over_own n buf h =
    let e : length (take n buf) ≡ n = omega (arith, length-take n buf) in
    sym (take-append-drop n buf) ∙ ap (λ (i : ℕ). take n buf ++ drop i buf) (sym e)

-- ---- one byte more

-- a line is bad that was bad, or had 32 bytes
pub bad_when : {w : Bool} (width : ℕ) (bad : Bool) → w ≡ bad_of width bad → w ≡ true → (width ≡ 32) ⊎ (bad ≡ true)
unfolding bad_of
bad_when width bad e h = ⊎_elim
    (λ z. inl (eqb-true width 32 z))
    (λ z. inr (sym (ap (λ (b : Bool). pick b true bad) z) ∙ sym e ∙ h))
    (test (eqb width 32))

pub empty_room : Room (fill_of nothing)
empty_room = record {
  count = omega arith;
  least = omega arith;
  bad = λ h. absurd (true≢false (sym h));
  width = omega arith;
  lines = omega arith;
  most = omega arith;
}

-- no byte is kept and no line is too long
pub none_kept : (m : Fill) (buf : List ℕ) → Room m → m.lines ≡ 0 → m.width ≡ 0 → kept_in m buf ≡ nothing
none_kept m buf r l w =
    let c : m.count ≡ 0 = omega (arith, r.count) in
    let b : m.bad ≡ false = ⊎_elim (λ e. absurd (omega (arith, r.bad e))) (λ e. e) (test m.bad) in
    same (ap (λ (n : ℕ). take n buf) c) l w b
  where
    same : {x y : List ℕ} {i j u v : ℕ} {a b : Bool} → x ≡ y → i ≡ j → u ≡ v → a ≡ b
        → ◌≡◌ {A = Kept} (record { bytes = x; lines = i; width = u; bad = a }) (record { bytes = y; lines = j; width = v; bad = b })
    same p q r s = cc

module _ (m : Fill) (buf : List ℕ) (b : ℕ) (h : m.count < length buf) where
  abbrev more : List ℕ
  more = take m.count buf ++ (b ∷ [])

  size : m.count + 1 ≡ length more
  size = omega (arith, length-append (take m.count buf) (b ∷ []), length-take m.count buf)

  put : set buf m.count b ≡ over more buf
  put =
      set_split buf m.count b h
      ∙ sym (append_assoc (take m.count buf) (b ∷ []) (drop (suc m.count) buf))
      ∙ ap (λ (i : ℕ). more ++ drop i buf) (sym (add-one m.count) ∙ size)

  -- so much, and the buffer
  abbrev Is : Fill → List ℕ → Type 0
  Is r new = (r ≡ fill_of (keep_of (kept_in m buf) b)) × (new ≡ over (keep_of (kept_in m buf) b).bytes buf)

  pub keep_end : b ≡ 10 → Is (record { count = m.count + 1; lines = m.lines + 1; width = 0; bad = m.bad }) (set buf m.count b)
  unfolding keep_of
  keep_end e = rw (eq-eqb b 10 e) (ap (λ (n : ℕ). record { count = n; lines = m.lines + 1; width = 0; bad = m.bad }) size, put)

  pub keep_on : {w : Bool} → (b ≡ 10 → ⊥) → m.width < 33 → w ≡ bad_of m.width m.bad
      → Is (record { count = m.count + 1; lines = m.lines; width = m.width + 1; bad = w }) (set buf m.count b)
  unfolding keep_of
  keep_on {w} n l e =
      rw (ne_eqb b 10 n, lt-ltb m.width 33 l) (
        ap (λ (x : Bool). record { count = m.count + 1; lines = m.lines; width = m.width + 1; bad = x }) e
            ∙ ap (λ (n : ℕ). record { count = n; lines = m.lines; width = m.width + 1; bad = bad_of m.width m.bad }) size,
        put,
      )

  pub keep_not : (b ≡ 10 → ⊥) → 33 ≤ m.width → Is m buf
  unfolding keep_of
  keep_not n w = rw (ne_eqb b 10 n, le-ltb m.width 33 w) (fill_back m buf (omega arith), over_own m.count buf (omega arith))

-- nothing that is kept goes
pub keeps_longer : (k : Kept) (b : ℕ) → length k.bytes ≤ length (keep_of k b).bytes
keeps_longer k b = ⊎_elim
    (λ e. omega (arith, ap (λ (x : Kept). length x.bytes) (keep_lf k b e), length-append k.bytes (b ∷ [])))
    (λ e. ⊎_elim
    (λ f. omega (arith, ap (λ (x : Kept). length x.bytes) (keep_in k b e f), length-append k.bytes (b ∷ [])))
    (λ f. omega (arith, ap (λ (x : Kept). length x.bytes) (keep_out k b e f)))
    (test (ltb k.width 33)))
    (test (eqb b 10))

-- ---- gathering, from the place i on

module _ (want : ℕ) (k : Kept) (part : List ℕ) (i : ℕ) where
  gather_on : i < length part → (keep_of k (get_or part i 0)).lines < want → gather_of want k (drop i part) ≡ further (gather_of want (keep_of k (get_or part i 0)) (drop (i + 1) part))
  gather_on h p = rw (add-one i, drop-cons part i 0 h, lt-leb want (keep_of k (get_or part i 0)).lines p)

  gather_stop : i < length part → want ≤ (keep_of k (get_or part i 0)).lines → gather_of want k (drop i part) ≡ record { kept = keep_of k (get_or part i 0); used = 1 }
  gather_stop h p = rw (drop-cons part i 0 h, le-leb want (keep_of k (get_or part i 0)).lines p)

  gather_end : length part ≤ i → gather_of want k (drop i part) ≡ record { kept = k; used = 0 }
  gather_end h = rw (drop_of_length-le part h)

-- what is gathered is what is gathered from the place i on, behind i bytes that are used up; the buffer has what is kept at its front
pub record Going (want : ℕ) (g : Gathered) (part buf₀ : List ℕ) (m : Fill) (buf : List ℕ) (i : ℕ) : Type 0 where
  pub inside : i ≤ length part
  pub size : length buf ≡ length buf₀
  pub fits : m.count ≤ length buf
  pub front : buf ≡ over (take m.count buf) buf₀
  pub kept : g.kept ≡ (gather_of want (kept_in m buf) (drop i part)).kept
  pub used : g.used ≡ i + (gather_of want (kept_in m buf) (drop i part)).used

pub going_start : (want : ℕ) (part buf : List ℕ) (m : Fill) → m.count ≤ length buf → Going want (gather_of want (kept_in m buf) part) part buf m buf 0
going_start want part buf m h = record { inside = omega arith; size = refl; fits = h; front = over_own m.count buf h; kept = refl; used = omega arith }

module _ {want : ℕ} {g : Gathered} {part buf₀ : List ℕ} {m : Fill} {buf : List ℕ} {i : ℕ} (s : Going want g part buf₀ m buf i) where
  -- the part is at its end
  pub going_end : length part ≤ i → (record { fill = m; used = i } ≡ progress_of g) × (buf ≡ over g.kept.bytes buf₀)
  going_end h =
      let e : gather_of want (kept_in m buf) (drop i part) ≡ record { kept = kept_in m buf; used = 0 } = gather_end want (kept_in m buf) part i h in
      let k : g.kept ≡ kept_in m buf = s.kept ∙ ap (λ (x : Gathered). x.kept) e in
      let u : i ≡ g.used = omega (arith, s.used, ap (λ (x : Gathered). x.used) e) in (
        same-progress (fill_back m buf s.fits ∙ ap fill_of (sym k)) u,
        s.front ∙ ap (λ (x : Kept). over x.bytes buf₀) (sym k),
      )
    where
      same-progress : {a b : Fill} {u v : ℕ} → a ≡ b → u ≡ v → ◌≡◌ {A = Progress} (record { fill = a; used = u }) (record { fill = b; used = v })
      same-progress p q = cc

  module _ {r : Fill} {new : List ℕ} (h : i < length part)
      (e : r ≡ fill_of (keep_of (kept_in m buf) (get_or part i 0))) (n : new ≡ over (keep_of (kept_in m buf) (get_or part i 0)).bytes buf) (l : length new ≡ length buf) where
    abbrev next : Kept
    next = keep_of (kept_in m buf) (get_or part i 0)

    longer : m.count ≤ length next.bytes
    longer = omega (arith, keeps_longer (kept_in m buf) (get_or part i 0), length-take m.count buf, s.fits)

    new-front : new ≡ over next.bytes buf₀
    new-front =
        n ∙ ap (over next.bytes) s.front
        ∙ over_again (take m.count buf) next.bytes buf₀ (omega (arith, longer, length-take m.count buf))

    kept-is : kept_in r new ≡ next
    kept-is = ap (λ (x : Fill). kept_in x new) e ∙ ap (kept_in (fill_of next)) new-front ∙ kept_back next buf₀

    -- the last line is ended
    pub going-stop : want ≤ r.lines → (record { fill = r; used = i + 1 } ≡ progress_of g) × (new ≡ over g.kept.bytes buf₀)
    going-stop w =
        let f : gather_of want (kept_in m buf) (drop i part) ≡ record { kept = next; used = 1 } =
        gather_stop want (kept_in m buf) part i h (omega (arith, ap (λ (x : Fill). x.lines) e)) in
        let k : g.kept ≡ next = s.kept ∙ ap (λ (x : Gathered). x.kept) f in
        let u : i + 1 ≡ g.used = omega (arith, s.used, ap (λ (x : Gathered). x.used) f) in (
          same-progress (e ∙ ap fill_of (sym k)) u,
          new-front ∙ ap (λ (x : Kept). over x.bytes buf₀) (sym k),
        )
      where
        same-progress : {a b : Fill} {u v : ℕ} → a ≡ b → u ≡ v → ◌≡◌ {A = Progress} (record { fill = a; used = u }) (record { fill = b; used = v })
        same-progress p q = cc

    -- it is not
    pub going_turn : r.lines < want → r.count ≤ length buf → Going want g part buf₀ r new (i + 1)
    going_turn w c =
        let f : gather_of want (kept_in m buf) (drop i part) ≡ further (gather_of want next (drop (i + 1) part)) =
        gather_on want (kept_in m buf) part i h (omega (arith, ap (λ (x : Fill). x.lines) e)) in
        record {
          inside = omega arith;
          size = l ∙ s.size;
          fits = omega (arith, l);
          front = new-front ∙ ap (λ (x : Kept). over x.bytes buf₀) (sym kept-is);
          kept = s.kept ∙ ap (λ (x : Gathered). x.kept) f ∙ ap (λ (x : Kept). (gather_of want x (drop (i + 1) part)).kept) (sym kept-is);
          used = omega (arith, s.used, ap (λ (x : Gathered). x.used) f, ap (λ (x : Kept). (gather_of want x (drop (i + 1) part)).used) kept-is);
        }
