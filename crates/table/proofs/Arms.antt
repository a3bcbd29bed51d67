-- What an arm of `take` makes of one copy of the chairs is what the table's state gives the entry: the chair of a seat by its place, a chair that is put
-- down where it lies, and the arms of sit, leave, hole, hand, dead and settle. Assumes nothing.
use Prim.Native.Nat.{ℕ, zero, suc, ◌+◌, ◌≤◌, ◌<◌}
use mathlib.Core.Bool.{Bool, true, false}
use mathlib.Core.Path.{◌≡◌, refl, sym, ap, ◌∙◌}
use mathlib.Core.List.{List, [], ◌∷◌}
use native.Mathlib.Omega.{arith}
use lib.ListN.{length, get_or, set}
use lib.Dec.{eqb}
use borrow.Author.Tests.{eq-eqb, ne_eqb}
use Rattle.laws.specs.Tests.{pick}
use Rattle.paper.specs.Paper.{is_seat}
use Rattle.paper.proofs.Codes.{between_in}
use Rattle.paper.specs.declared.Entry.{Entry}
use Rattle.paper.specs.declared.Entry.TheVariants.{Sit}
use Rattle.chairs.specs.Chairs.{no_chair, chair_at, put_at, seated_of}
use Rattle.chairs.specs.declared.Chair.{Chair}
use Rattle.chairs.proofs.Laws.{unread, read_any}
use Rattle.table.specs.State.{seat_of, with_chair, with_chairs, with_sitting}
use Rattle.table.specs.Sittings.{sit_code, sat_to}
use Rattle.table.specs.Settle.{no_payout}
use Rattle.table.specs.Take.{Sound, kind_code, applied_to, payout_by, kind_taken}
use Rattle.table.specs.declared.table.Table.{Table}
use Rattle.table.specs.declared.table.Payout.{Payout}
use Rattle.table.specs.declared.table.Taken.{Taken}
use Rattle.table.proofs.Laws.{sheet_seats}

-- ---- the chair of a seat, by its place

next_is : (i s : ℕ) → i + 1 ≡ s → suc i ≡ s
next_is i s e = omega arith

pub at_place : (cs : List Chair) (i s : ℕ) → i + 1 ≡ s → i < length cs → get_or cs i unread ≡ chair_at cs s
at_place cs i s e l = read_any cs i unread no_chair l ∙ ap (chair_at cs) (next_is i s e)

pub set_place : (cs : List Chair) (i s : ℕ) (d : Chair) → i + 1 ≡ s → set cs i d ≡ put_at cs s d
set_place cs i s d e = ap (λ (n : ℕ). put_at cs n d) (next_is i s e)

-- the chair that lies at a seat, put down there again
pub put_same : (cs : List Chair) (s : ℕ) → put_at cs s (chair_at cs s) ≡ cs
put_same cs zero = refl
put_same [] (suc k) = refl
put_same (c ∷ cs) (suc zero) = refl
put_same (c ∷ cs) (suc (suc k)) = ap (λ (l : List Chair). c ∷ l) (put_same cs (suc k))

-- the chair that is read at the place of a seat of a table
pub seat_read : (t : Table) (i s : ℕ) → Sound t → i + 1 ≡ s → i < 10 → get_or t.chairs i unread ≡ seat_of t s
seat_read t i s h e l = at_place t.chairs i s e (omega (arith, h.standing.size))

-- a used seat has a place
pub seat_place : (t : Table) (s : ℕ) → Sound t → is_seat t.sheet s ≡ true → (1 ≤ s) × (s ≤ 10)
unfolding is_seat
seat_place t s h q =
    let p = between_in 1 t.sheet.seats s q in
    (p.0, omega (arith, p.1, sheet_seats t.sheet h.payable.sheet))

-- ---- the three parts of what an entry gets
pub taken_by : (t : Table) (e : Entry) (r : Taken) → r.code ≡ kind_code t e → r.table ≡ pick (eqb (kind_code t e) 0) (applied_to t e) t
    → r.payout ≡ pick (eqb (kind_code t e) 0) (payout_by t e) no_payout → r ≡ kind_taken t e
unfolding kind_taken
taken_by t e r p q w = rw (p, q, w)

pick_same : (b : Bool) (p : Payout) → pick b p p ≡ p
pick_same true p = refl
pick_same false p = refl

-- where an entry pays nothing, taken or not
pub plain_taken : (t : Table) (e : Entry) (r : Taken) → payout_by t e ≡ no_payout → r.code ≡ kind_code t e
    → r.table ≡ pick (eqb (kind_code t e) 0) (applied_to t e) t → r.payout ≡ no_payout → r ≡ kind_taken t e
plain_taken t e r n p q w =
    let b = eqb (kind_code t e) 0 in
    taken_by t e r p q (w ∙ sym (ap (λ (x : Payout). pick b x no_payout) n ∙ pick_same b no_payout))

-- where it is refused, and where it is taken
pub refused_by : (t : Table) (e : Entry) (r : Taken) (k : ℕ) → k ≡ kind_code t e → (k ≡ 0 → ⊥) → (r.code ≡ k) × (r.table ≡ t) × (r.payout ≡ no_payout)
    → r ≡ kind_taken t e
refused_by t e r k q n f =
    let b = ne_eqb (kind_code t e) 0 (λ z. n (q ∙ z)) in
    taken_by t e r (f.0 ∙ q) (f.1 ∙ sym (ap (λ (x : Bool). pick x (applied_to t e) t) b)) (f.2 ∙ sym (ap (λ (x : Bool). pick x (payout_by t e) no_payout) b))

pub applied_by : (t : Table) (e : Entry) (r : Taken) (k : ℕ) → k ≡ kind_code t e → k ≡ 0 → r.code ≡ 0 → r.table ≡ applied_to t e → r.payout ≡ payout_by t e
    → r ≡ kind_taken t e
applied_by t e r k q z c u p =
    let o = sym q ∙ z in
    let b = eq-eqb (kind_code t e) 0 o in
    taken_by t e r (c ∙ sym o) (u ∙ sym (ap (λ (x : Bool). pick x (applied_to t e) t) b)) (p ∙ sym (ap (λ (x : Bool). pick x (payout_by t e) no_payout) b))

-- ---- one chair is put down: the new one, or the old one again
put_or : (t : Table) (s : ℕ) (b : Bool) (d : Chair) → with_chairs t (put_at t.chairs s (pick b d (seat_of t s))) ≡ pick b (with_chair t s d) t
put_or t s true d = refl
put_or t s false d = ap (λ (l : List Chair). with_chairs t l) (put_same t.chairs s)

pub put_taken : (t : Table) (e : Entry) (i s k : ℕ) (g : Chair → Chair) (c x d : Chair) (u : Table) (r : Taken) → payout_by t e ≡ no_payout
    → applied_to t e ≡ with_chair t s (g (seat_of t s)) → i + 1 ≡ s → c ≡ seat_of t s → k ≡ kind_code t e → x ≡ g c → d ≡ pick (eqb k 0) x c
    → u ≡ with_chairs t (set t.chairs i d) → (r.code ≡ k) × (r.table ≡ u) × (r.payout ≡ no_payout) → r ≡ kind_taken t e
put_taken t e i s k g c x d u r none after place same code new by put f =
    let b = eqb k 0 in
    let d-is = by ∙ ap (λ (y : Chair). pick b y c) new ∙ ap (λ (y : Chair). pick b (g y) y) same in
    let u-is =
    put ∙ ap (λ (l : List Chair). with_chairs t l) (set_place t.chairs i s d place ∙ ap (λ (y : Chair). put_at t.chairs s y) d-is) ∙ put_or t s b (g (seat_of t s))
    ∙ ap (λ (v : Table). pick b v t) (sym after) in
    plain_taken t e r none (f.0 ∙ code) (f.1 ∙ u-is ∙ ap (λ (n : ℕ). pick (eqb n 0) (applied_to t e) t) code) f.2

-- a sit counts the sittings besides
sit_or : (t : Table) (s a : ℕ) (b : Bool) → with_sitting (with_chairs t (put_at t.chairs s (pick b (seated_of (seat_of t s) (pick b (t.sittings + 1) t.sittings) a) (seat_of t s)))) (pick b (t.sittings + 1) t.sittings)
    ≡ pick b (sat_to t s a) t
unfolding sat_to
sit_or t s a true = refl
sit_or t s a false = ap (λ (l : List Chair). with_chairs t l) (put_same t.chairs s)

pub sit_taken : (t : Table) (i s a k n : ℕ) (c x d : Chair) (u v : Table) (r : Taken) → i + 1 ≡ s → c ≡ seat_of t s → k ≡ sit_code t s a
    → n ≡ pick (eqb k 0) (t.sittings + 1) t.sittings → x ≡ seated_of c n a → d ≡ pick (eqb k 0) x c → u ≡ with_chairs t (set t.chairs i d) → v ≡ with_sitting u n
    → (r.code ≡ k) × (r.table ≡ v) × (r.payout ≡ no_payout) → r ≡ kind_taken t (Sit s a)
sit_taken t i s a k n c x d u v r place same code count new by put sat f =
    let b = eqb k 0 in
    let d-is = by ∙ ap (λ (y : Chair). pick b y c) new ∙ ap (λ (y : Chair). pick b (seated_of y n a) y) same in
    let u-is = put ∙ ap (λ (l : List Chair). with_chairs t l) (set_place t.chairs i s d place ∙ ap (λ (y : Chair). put_at t.chairs s y) d-is) in
    let v-is =
    sat ∙ ap (λ (w : Table). with_sitting w n) u-is
    ∙ ap (λ (m : ℕ). with_sitting (with_chairs t (put_at t.chairs s (pick b (seated_of (seat_of t s) m a) (seat_of t s)))) m) count ∙ sit_or t s a b in
    plain_taken t (Sit s a) r refl (f.0 ∙ code) (f.1 ∙ v-is ∙ ap (λ (m : ℕ). pick (eqb m 0) (sat_to t s a) t) code) f.2
