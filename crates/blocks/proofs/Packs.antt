-- Bytes packed into numbers: letters, or as many bytes, that pack to the same number are the same, so comparing numbers finds a key and the place in the
-- table of kinds. Assumes nothing.
use mathlib.Core.Path.{◌≡◌, refl, sym, ap, ◌∙◌}
use mathlib.Core.List.{List, [], ◌∷◌, ◌++◌}
use mathlib.Core.Bool.{Bool, true, false}
use mathlib.Core.Logic.{⊎_elim}
use Prim.Native.Nat.{ℕ, zero, suc, ◌+◌, ◌-◌, ◌*◌, ◌≤◌, ◌<◌, ◌^◌}
use native.Mathlib.Nat.{pow-le-pow_right}
use native.Mathlib.Omega.{arith}
use lib.ListN.{length, get_or, take, drop, take-append-drop}
use lib.Seq.{drop-cons, length-take-le}
use lib.Bits.{bit_xor}
use lib.Dec.{eqb, ltb, lit<}
use borrow.Author.Tests.{eq-eqb, eqb-true, le-leb, le-ltb}
use Rattle.laws.specs.Tests.{both, pick}
use Rattle.laws.proofs.Tests.{both_true, test}
use Rattle.laws.proofs.Places.{last_turn}
use Rattle.laws.proofs.Rules.{all_below, below_all}
use Rattle.paper.specs.SheetAndEntries.{between}
use Rattle.paper.proofs.Codes.{between_in}
use Rattle.text.specs.Bytes.{all_within, pack_of}
use Rattle.laws.specs.Listing.{same_list}
use Rattle.blocks.specs.Block.{kind_names, all_letters, place_in}
use Rattle.laws.proofs.Members.{same_list_law}

-- k bytes make a number below 256 ^ k; at most eight of them one that fits 64 bits
pub pack_step : (v d k : ℕ) → v < 256 ^ k → d ≤ 255 → v * 256 + d < 256 ^ suc k
pack_step v d k h q = omega arith

pub pack_room : (v d k : ℕ) → v < 256 ^ k → d ≤ 255 → k < 8 → v * 256 + d < 256 ^ 8
pack_room v d k h p q = omega (arith, pack_step v d k h p, pow-le-pow_right {n = 256} (lit< tt) q)

letter : (b : ℕ) (bs : List ℕ) → all_letters (b ∷ bs) ≡ true → (97 ≤ b) × (b ≤ 122) × (all_letters bs ≡ true)
letter b bs e =
    let p = both_true (between 97 122 b) (all_letters bs) e in
    let q = between_in 97 122 b p.0 in
    (q.0, q.1, p.1)

-- letters are what they pack to
pub pack_same : (x y : List ℕ) → all_letters x ≡ true → all_letters y ≡ true → pack_of x ≡ pack_of y → x ≡ y
pack_same [] [] p q e = refl
pack_same [] (b ∷ y) p q e = let h = letter b y q in absurd (omega arith)
pack_same (a ∷ x) [] p q e = let h = letter a x p in absurd (omega arith)
pack_same (a ∷ x) (b ∷ y) p q e =
    let g = letter a x p in
    let h = letter b y q in
    let s : a ≡ b = omega arith in
    let t : x ≡ y = pack_same x y g.2 h.2 (omega arith) in
    cc

-- so are as many bytes
pub bytes_same : (x y : List ℕ) → length x ≡ length y → all_within 0 255 x ≡ true → all_within 0 255 y ≡ true → pack_of x ≡ pack_of y → x ≡ y
bytes_same [] [] n p q e = refl
bytes_same [] (b ∷ y) n p q e = absurd (omega arith)
bytes_same (a ∷ x) [] n p q e = absurd (omega arith)
bytes_same (a ∷ x) (b ∷ y) n p q e =
    let g = both_true (between 0 255 a) (all_within 0 255 x) p in
    let h = both_true (between 0 255 b) (all_within 0 255 y) q in
    let i = between_in 0 255 a g.0 in
    let j = between_in 0 255 b h.0 in
    let s : a ≡ b = omega arith in
    let t : x ≡ y = bytes_same x y (omega arith) g.1 h.1 (omega arith) in
    cc

same_self : (x : List ℕ) → same_list x x ≡ true
same_self [] = refl
same_self (a ∷ x) = rw (eq-eqb a a refl) (same_self x)

-- the code's table of packed words
abbrev pub packs : List ℕ
packs = 7629171 ∷ 435777791340 ∷ 1684955496 ∷ 1701605224 ∷ 1684828006 ∷ 461229090915 ∷ 1819042147 ∷ 491327545719 ∷ 431415717730 ∷ 1684104548 ∷ 111516484658547 ∷ 1684631414 ∷ []

abbrev right : ℕ → Bool
right k = both (eqb (get_or packs k 0) (pack_of (get_or kind_names k []))) (all_letters (get_or kind_names k []))

all_right : all_below 12 right ≡ true
all_right = refl

row : (k : ℕ) → k < 12 → (get_or packs k 0 ≡ pack_of (get_or kind_names k [])) × (all_letters (get_or kind_names k []) ≡ true)
row k h =
    let p = both_true _ _ (below_all 12 right all_right k h) in
    (eqb-true _ _ p.0, p.1)

module _ (w : List ℕ) (k : ℕ) (h : k < 12) where
  -- equal numbers, equal words
  pub word_here : all_letters w ≡ true → get_or packs k 0 ≡ pack_of w → same_list w (get_or kind_names k []) ≡ true
  word_here l e =
      let r = row k h in
      let s : w ≡ get_or kind_names k [] = pack_same w (get_or kind_names k []) l r.1 (sym e ∙ r.0) in
      ap (λ (x : List ℕ). same_list w x) (sym s) ∙ same_self w

  -- other numbers, other words
  pub word_other : (get_or packs k 0 ≡ pack_of w → ⊥) → same_list w (get_or kind_names k []) ≡ false
  word_other n =
      ⊎_elim (λ t. absurd (n ((row k h).0 ∙ ap pack_of (sym (same_list_law w (get_or kind_names k []) t))))) (λ t. t) (test (same_list w (get_or kind_names k [])))

-- ---- a word of the table

abbrev listed : ℕ → Bool
listed k =
    both (all_within 0 255 (get_or kind_names k []))
    (both (all_letters (get_or kind_names k [])) (eqb k (place_in kind_names (get_or kind_names k []))))

all_listed : all_below 12 listed ≡ true
all_listed = refl

-- as many bytes that pack to a word's number are that word
pub word_known : (part : List ℕ) (e k : ℕ) {w : ℕ} → e ≤ length part → (w ≡ pack_of (take e part)) × (all_within 0 255 (take e part) ≡ true)
    → (k < 12 → (w ≡ pack_of (get_or kind_names k [])) × (length (get_or kind_names k []) ≡ e)) → k < 12 → take e part ≡ get_or kind_names k []
word_known part e k h p f q =
    let x = get_or kind_names k [] in
    let n = both_true (all_within 0 255 x) (both (all_letters x) (eqb k (place_in kind_names x))) (below_all 12 listed all_listed k q) in
    bytes_same (take e part) x (length-take-le e part h ∙ sym (f q).1) p.1 n.0 (sym p.0 ∙ (f q).0)

-- it is of letters, and its place is its own
pub word_place : (w : List ℕ) (k : ℕ) → k < 12 → w ≡ get_or kind_names k [] → (all_letters w ≡ true) × (k ≡ place_in kind_names w)
word_place w k q e =
    let x = get_or kind_names k [] in
    let n = both_true (all_within 0 255 x) (both (all_letters x) (eqb k (place_in kind_names x))) (below_all 12 listed all_listed k q) in
    let m = both_true (all_letters x) (eqb k (place_in kind_names x)) n.1 in
    (ap (λ (y : List ℕ). all_letters y) e ∙ m.0, eqb-true _ _ m.1 ∙ sym (ap (λ (y : List ℕ). place_in kind_names y) e))

-- ---- the first bytes of a part

pub bytes_within : (k : ℕ) (l : List ℕ) → ((i : ℕ) → get_or l i 0 ≤ 255) → all_within 0 255 (take k l) ≡ true
bytes_within zero l h = refl
bytes_within (suc k) [] h = refl
bytes_within (suc k) (b ∷ l) h = rw (le-leb 0 b (omega arith), le-leb b 255 (h 0)) (bytes_within k l (λ i. h (suc i)))

-- k bytes from the i-th on, each by its place
abbrev bytes_at : ℕ → ℕ → List ℕ → List ℕ
bytes_at i zero l = []
bytes_at i (suc k) l = get_or l i 0 ∷ bytes_at (suc i) k l

pub bytes_at_law : (i k : ℕ) (l : List ℕ) → i + k ≤ length l → take k (drop i l) ≡ bytes_at i k l
bytes_at_law i zero l h = refl
bytes_at_law i (suc k) l h = rw (drop-cons l i 0 (omega arith)) (ap (λ (r : List ℕ). get_or l i 0 ∷ r) (bytes_at_law (suc i) k l (omega arith)))

module _ (l : List ℕ) {w : ℕ} (p : w ≡ pack_of (take 4 l)) where
  pub pack_five : 5 ≤ length l → get_or l 4 0 * 4294967296 + w ≡ pack_of (take 5 l)
  pack_five h = omega (arith, ap pack_of (bytes_at_law 0 4 l (omega arith)), ap pack_of (bytes_at_law 0 5 l h))

  pub pack_six : 6 ≤ length l → (get_or l 5 0 * 256 + get_or l 4 0) * 4294967296 + w ≡ pack_of (take 6 l)
  pack_six h = omega (arith, ap pack_of (bytes_at_law 0 4 l (omega arith)), ap pack_of (bytes_at_law 0 6 l h))

-- bytes that are the first of a list, with what follows them
pub first_split : (first l : List ℕ) {w : ℕ} → length first ≤ length l → all_within 0 255 first ≡ true
    → (w ≡ pack_of (take (length first) l)) × (all_within 0 255 (take (length first) l) ≡ true) → w ≡ pack_of first → l ≡ first ++ drop (length first) l
first_split first l h b p e =
    let same : take (length first) l ≡ first = bytes_same (take (length first) l) first (length-take-le (length first) l h) p.1 b (sym p.0 ∙ e) in
    sym (take-append-drop (length first) l) ∙ ap (λ (r : List ℕ). r ++ drop (length first) l) same

-- `sit` and its LF
pub sit_line : (l : List ℕ) {w : ℕ} → 4 ≤ length l → (w ≡ pack_of (take 4 l)) × (all_within 0 255 (take 4 l) ≡ true) → w ≡ 175401331
    → (take 3 l ≡ 115 ∷ 105 ∷ 116 ∷ []) × (get_or l 3 0 ≡ 10)
sit_line l h p e =
    let s = first_split (115 ∷ 105 ∷ 116 ∷ 10 ∷ []) l h refl p e in
    (ap (take 3) s, ap (λ (x : List ℕ). get_or x 3 0) s)

-- a word whose last letter is compared by itself
pub last_known : (k letter most : ℕ) {last w r : ℕ} → (r < 12 → (last ≡ letter) × (r ≡ k))
    → (last ≡ letter → (w ≡ pack_of (get_or kind_names k [])) × (length (get_or kind_names k []) ≡ most)) → r < 12
    → (w ≡ pack_of (get_or kind_names r [])) × (length (get_or kind_names r []) ≡ most)
last_known k letter most f g h = let p = f h in rw p.1 (g p.0)

-- ---- a digit by one test

abbrev told_digit : ℕ → Bool
told_digit b = pick (ltb 9 (bit_xor b 48)) true (both (between 48 57 b) (eqb (bit_xor b 48) (b - 48)))

all_told : all_below 256 told_digit ≡ true
all_told = refl

pub digit_told : (b : ℕ) {r : ℕ} → b < 256 → r ≡ bit_xor b 48 → r ≤ 9 → (48 ≤ b) × (b ≤ 57) × (r ≡ b - 48)
digit_told b h e q =
    let t = ap (λ (x : Bool). pick x true (both (between 48 57 b) (eqb (bit_xor b 48) (b - 48)))) (le-ltb 9 (bit_xor b 48) (omega arith)) in
    let p = both_true (between 48 57 b) (eqb (bit_xor b 48) (b - 48)) (sym t ∙ below_all 256 told_digit all_told b h) in
    let d = between_in 48 57 b p.0 in
    (d.0, d.1, e ∙ eqb-true _ _ p.1)

-- ---- packing from the last byte to the first

pub pack_turn : (w : List ℕ) (v d i : ℕ) → 0 < i → i ≤ length w → d ≡ get_or w (i - 1) 0 → v ≡ pack_of (drop i w) → v * 256 + d ≡ pack_of (drop (i - 1) w)
pack_turn w v d i p l e h = rw (h, e) (sym (last_turn pack_of w i p l))

pub pack_more : (n v d i : ℕ) → 0 < i → i ≤ n → d ≤ 255 → v < 256 ^ (n - i) → v * 256 + d < 256 ^ (n - (i - 1))
pack_more n v d i p l q h =
    let e : n - (i - 1) ≡ suc (n - i) = omega arith in
    rw e (pack_step v d (n - i) h q)
