-- Feed after feed: with the bytes that are used up so far the clerk has done what they do one by one. For the proofs of the functions.
use Prim.Native.Nat.{ℕ, ◌+◌, ◌-◌, ◌≤◌, ◌<◌}
use mathlib.Core.Bool.{Bool, true, false, true≢false}
use mathlib.Core.Path.{◌≡◌, refl, sym, ap, subst, ◌∙◌}
use mathlib.Core.List.{List, [], ◌∷◌}
use mathlib.Core.Logic.{⊎_elim}
use native.Mathlib.Omega.{arith}
use lib.ListN.{length, take, drop, length-drop}
use lib.Seq.{take-add}
use lib.Dec.{leb}
use borrow.Rule.Slice.PartMut.{mid_of, put_mid, same_len_mid}
use Rattle.laws.specs.Tests.{pick}
use Rattle.laws.proofs.Tests.{test}
use Rattle.laws.proofs.Sums.{le_or_lt}
use Rattle.text.proofs.Parts.{part_is}
use Rattle.writing.proofs.Sheets.{then}
use Rattle.lines.specs.declared.Fill.{Fill}
use Rattle.lines.specs.Kept.{Kept, keep_of, kept_most, fill_of}
use Rattle.lines.proofs.Keeps.{fill_back}
use Rattle.table.specs.declared.table.Table.{Table}
use Rattle.stream.specs.declared.Clerk.{Clerk}
use Rattle.stream.specs.declared.Fed.{Fed}
use Rattle.stream.specs.Onward.{State, Unread, Open, Shut, Given, still, and_then, lines_done, wanted, byte_of, onward}
use Rattle.stream.specs.Feeding.{longest_answer, state_at, state_of, kept_by, clerk_in, Held, Gave, heard_of, FedOn}
use Rattle.stream.proofs.Onward.{onward_append}
use Rattle.stream.proofs.Enough.{held_sound, onward_enough, never_short, any_append}
use Rattle.stream.proofs.Steps.{state_shut, state_else}

-- ---- a box that has read its sheet stays so, and needs no stand_in

abbrev is_open : State → Bool
is_open Unread = false
is_open (Open t) = true
is_open Shut = false

byte_open : (room : ℕ) (s : State) (k : Kept) (b : ℕ) → is_open s ≡ true → is_open (byte_of room s k b).state ≡ true
unfolding byte_of
byte_open room Unread k b h = absurd (true≢false (sym h))
byte_open room Shut k b h = absurd (true≢false (sym h))
byte_open room (Open t) k b h = go (leb (wanted (Open t)) (keep_of k b).lines)
  where
    go : (y : Bool) → is_open (pick y (lines_done room (Open t) (keep_of k b).bytes) (still (Open t) (keep_of k b))).state ≡ true
    go true = refl
    go false = refl

stays_open : (room : ℕ) (s : State) (k : Kept) (bs : List ℕ) → is_open s ≡ true → is_open (onward room s k bs).state ≡ true
stays_open room s k [] h = h
stays_open room s k (b ∷ bs) h = stays_open room (byte_of room s k b).state (byte_of room s k b).kept bs (byte_open room s k b h)

no_stand_in : (t u : Table) (s : State) (m : Fill) → is_open s ≡ true → clerk_in t s m ≡ clerk_in u s m
no_stand_in t u Unread m h = absurd (true≢false (sym h))
no_stand_in t u (Open v) m h = refl
no_stand_in t u Shut m h = absurd (true≢false (sym h))

-- the stand_in of the clerk before is that of the clerk after
stand_in : (room : ℕ) (t : Table) (s : State) (l m : Fill) (k : Kept) (bs : List ℕ)
    → clerk_in (clerk_in t s l).table (onward room s k bs).state m ≡ clerk_in t (onward room s k bs).state m
stand_in room t Unread l m k bs = refl
stand_in room t Shut l m k bs = refl
stand_in room t (Open u) l m k bs = no_stand_in u t (onward room (Open u) k bs).state m (stays_open room (Open u) k bs refl)

pub state_in : (t : Table) (s : State) (m : Fill) → state_of (clerk_in t s m) ≡ s
unfolding state_of
state_in t Unread m = refl
state_in t (Open u) m = refl
state_in t Shut m = refl

-- a clerk is what its state and its fill say
pub clerk_own : (c : Clerk) (buf : List ℕ) → Held c → c.fill.count ≤ length buf → c ≡ clerk_in c.table (state_of c) (fill_of (kept_by c buf))
clerk_own c buf h n = ⊎_elim
    (λ e. same (h.shut e) e (fill_back c.fill buf n) ∙ ap (λ (s : State). clerk_in c.table s (fill_of (kept_by c buf))) (sym (state_shut c e)))
    (λ e. ⊎_elim
    (λ o. same o e (fill_back c.fill buf n) ∙ ap (λ (s : State). clerk_in c.table s (fill_of (kept_by c buf))) (sym (state_else c e ∙ ap (λ (b : Bool). state_at b c.table) o)))
    (λ o. same o e (fill_back c.fill buf n) ∙ ap (λ (s : State). clerk_in c.table s (fill_of (kept_by c buf))) (sym (state_else c e ∙ ap (λ (b : Bool). state_at b c.table) o)))
    (test c.opened))
    (test c.shut)
  where
    same : {o p s q : Bool} {m l : Fill} → o ≡ p → s ≡ q → m ≡ l
        → ◌≡◌ {A = Clerk} (record { opened = o; shut = s; table = c.table; fill = m }) (record { opened = p; shut = q; table = c.table; fill = l })
    same a b d = cc

-- ---- what was done with some bytes, and then with the next

-- a call after bytes that led somewhere
pub heard_on : (room : ℕ) (c : Clerk) (buf part : List ℕ) (used u : ℕ) (clerk : Clerk) (buf2 : List ℕ) → state_of clerk ≡ (heard_of room c buf part used).state
    → kept_by clerk buf2 ≡ (heard_of room c buf part used).kept
    → heard_of room c buf part (used + u) ≡ and_then (heard_of room c buf part used) (heard_of room clerk buf2 (drop used part) u)
heard_on room c buf part used u clerk buf2 e f =
    let x : Given = heard_of room c buf part used in
    ap (onward room (state_of c) (kept_by c buf)) (take-add used u part)
    ∙ onward_append room (state_of c) (kept_by c buf) (take used part) (take u (drop used part))
    ∙ ap (λ (s : State). and_then x (onward room s x.kept (take u (drop used part)))) (sym e)
    ∙ ap (λ (k : Kept). and_then x (onward room (state_of clerk) k (take u (drop used part)))) (sym f)

-- ---- the loop

pub record Feeding (c : Clerk) (buf₀ part out₀ buf out : List ℕ) (clerk : Clerk) (used at : ℕ) : Type 0 where
  pub held : Held clerk
  pub size : length buf ≡ length buf₀
  pub same : length out ≡ length out₀
  pub inside : used ≤ length part
  pub within : at ≤ length out₀
  pub first : used ≡ 0 → at ≡ 0
  pub fed : FedOn longest_answer c buf₀ part out₀ buf out (record { clerk = clerk; used = used; written = at; short = false })

pub on_start : (c : Clerk) (buf part out : List ℕ) → Held c → kept_most ≤ length buf → Feeding c buf part out buf out c 0 0
on_start c buf part out h n = record {
  held = h;
  size = refl;
  same = refl;
  inside = omega arith;
  within = omega arith;
  first = λ e. refl;
  fed = record { gave = record { clerk = clerk_own c buf h (omega (arith, h.room.most)); wrote = record { count = refl; sheet = refl }; short = refl }; kept = refl };
}

module _ {c : Clerk} {buf₀ part out₀ buf out : List ℕ} {clerk : Clerk} {used at : ℕ} (g : Feeding c buf₀ part out₀ buf out clerk used at) where
  pub on_turn : {r : Fed} {buf2 mid after : List ℕ} → longest_answer ≤ length out - at
      → FedOn (length (mid_of at (length out - at) out)) clerk buf (mid_of used (length part - used) part) (mid_of at (length out - at) out) buf2 mid r
      → Held r.clerk → 0 < r.used → r.used ≤ length (mid_of used (length part - used) part) → r.written ≤ length (mid_of at (length out - at) out)
      → after ≡ put_mid at (length out - at) out mid → length mid ≡ length (mid_of at (length out - at) out) → length buf2 ≡ length buf
      → Feeding c buf₀ part out₀ buf2 after r.clerk (used + r.used) (at + r.written)
  on_turn {r} {buf2} {mid} {after} room f h v u w p q n =
      let part' : List ℕ = mid_of used (length part - used) part in
      let is : part' ≡ drop used part = part_is used part in
      let sheet : List ℕ = mid_of at (length out - at) out in
      let m : length sheet ≡ length out - at = ap length (part_is at out) ∙ length-drop at out in
      let x : Given = heard_of longest_answer c buf₀ part used in
      let y : Given = heard_of longest_answer clerk buf (drop used part) r.used in
      let was : clerk ≡ clerk_in c.table x.state (fill_of x.kept) = g.fed.gave.clerk in
      let state : state_of clerk ≡ x.state = ap state_of was ∙ state_in c.table x.state (fill_of x.kept) in
      let sound = held_sound clerk g.held in
      let here : heard_of (length sheet) clerk buf part' r.used ≡ y =
      ap (λ (l : List ℕ). heard_of (length sheet) clerk buf l r.used) is ∙ onward_enough (length sheet) (omega (arith, m)) (state_of clerk) (kept_by clerk buf) (take r.used (drop used part)) sound in
      let now : Gave clerk.table y sheet mid r.clerk r.written r.short = subst (λ (z : Given). Gave clerk.table z sheet mid r.clerk r.written r.short) here f.gave in
      let all : heard_of longest_answer c buf₀ part (used + r.used) ≡ and_then x y = heard_on longest_answer c buf₀ part used r.used clerk buf state g.fed.kept in
      let same-clerk : r.clerk ≡ clerk_in c.table y.state (fill_of y.kept) =
      now.clerk
      ∙ ap (λ (d : Clerk). clerk_in d.table y.state (fill_of y.kept)) was
      ∙ ap (λ (s : State). clerk_in (clerk_in c.table x.state (fill_of x.kept)).table (onward longest_answer s (kept_by clerk buf) (take r.used (drop used part))).state (fill_of y.kept)) state
      ∙ stand_in longest_answer c.table x.state (fill_of x.kept) (fill_of y.kept) (kept_by clerk buf) (take r.used (drop used part))
      ∙ ap (λ (s : State). clerk_in c.table (onward longest_answer s (kept_by clerk buf) (take r.used (drop used part))).state (fill_of y.kept)) (sym state) in
      record {
        held = h;
        size = n ∙ g.size;
        same = ap length p ∙ same_len_mid at (length out - at) out mid q ∙ g.same;
        inside = omega (arith, g.inside, ap length is, length-drop used part);
        within = omega (arith, g.within, g.same, m);
        first = λ e. absurd (omega arith);
        fed = record {
          gave = subst (λ (z : Given). Gave c.table z out₀ after r.clerk (at + r.written) false) (sym all) (record {
            clerk = same-clerk;
            wrote = rw p (then g.fed.gave.wrote now.wrote);
            short = sym (any_append x.codes y.codes (sym g.fed.gave.short) ∙ never_short (state_of clerk) (kept_by clerk buf) (take r.used (drop used part)) sound);
          });
          kept = f.kept ∙ ap (λ (z : Given). z.kept) (here ∙ refl) ∙ ap (λ (z : Given). z.kept) (sym all);
        };
      }

  -- the counts stay within the part and the sheet, and the part is used up further
  pub on_used : {u : ℕ} → u ≤ length (mid_of used (length part - used) part) → used + u ≤ length part
  on_used u = omega (arith, g.inside, ap length (part_is used part), length-drop used part)

  pub on_room : {w : ℕ} → w ≤ length (mid_of at (length out - at) out) → at + w ≤ length out
  on_room w = omega (arith, g.within, g.same, ap length (part_is at out), length-drop at out)

  pub on_moves : {u : ℕ} → used < length part → (0 < length (mid_of used (length part - used) part) → 0 < u) → (0 < u) × (length part - (used + u) < length part - used)
  on_moves {u} l h = let m : 0 < u = h (omega (arith, ap length (part_is used part), length-drop used part)) in (m, omega arith)

  -- the part is used up, or there is less room than the longest answer takes
  pub on_done : (used < length part → length out - at < longest_answer)
      → FedOn longest_answer c buf₀ part out₀ buf out (record { clerk = clerk; used = used; written = at; short = false })
      × ((Held clerk × (used ≤ length part) × (at ≤ length out₀))
      × ((used < length part → length out₀ < at + longest_answer) × (0 < length part → longest_answer ≤ length out₀ → 0 < used)))
  on_done n = (
    g.fed,
    (
      (g.held, g.inside, g.within),
      (
        λ l. omega (arith, g.within, g.same, n l),
        λ l m. ⊎_elim
            (λ z. let k : used ≡ 0 = omega arith in absurd (omega (arith, g.same, g.first k, n (omega arith))))
            (λ z. z)
            (le_or_lt used 0),
      ),
    ),
  )
