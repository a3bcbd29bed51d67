-- The code's table of keys is the definitions': at each row, by a test that antt computes. Assumes nothing.
use mathlib.Core.Path.{◌≡◌, refl, ap, ◌∙◌}
use mathlib.Core.List.{List, [], ◌∷◌}
use mathlib.Core.Bool.{Bool, true}
use Prim.Native.Nat.{ℕ, ◌-◌, ◌≤◌, ◌<◌}
use native.Mathlib.Omega.{arith}
use lib.ListN.{length, get_or, take}
use lib.Dec.{leb, eqb}
use borrow.Author.Tests.{leb-true, eqb-true}
use Rattle.std.specs.Prelude.{Option}
use Rattle.laws.specs.Tests.{both}
use Rattle.laws.proofs.Tests.{both_true}
use Rattle.laws.proofs.Rules.{all_below, below_all}
use Rattle.laws.specs.Listing.{same_list}
use Rattle.text.specs.Line.{value_of}
use Rattle.laws.proofs.Members.{same_list_law}
use Rattle.figures.specs.Words.{bytes, refusals}
use Rattle.picture.specs.Lines.{keys, line_kinds, mosts, number_as, line_with, line_at, Answering, no_line}
use Rattle.picture.specs.declared.Line.{Line}
use Rattle.picture.specs.declared.reading.Key.{Key}

abbrev key : List ℕ → ℕ → ℕ → Key
key letters count most = record { letters = letters; count = count; most = most }

abbrev key_table : List Key
key_table =
    key (bytes "n        ") 1 999999999
    ∷ key (bytes "code     ") 4 17
    ∷ key (bytes "turn     ") 4 10
    ∷ key (bytes "mark     ") 4 999999999
    ∷ key (bytes "pot      ") 3 999999999
    ∷ key (bytes "back     ") 4 999999999
    ∷ key (bytes "fee      ") 3 999999999
    ∷ key (bytes "sitting  ") 7 999999999
    ∷ key (bytes "paid     ") 4 999999999
    ∷ key (bytes "unclaimed") 9 999999999
    ∷ key (bytes "jackpot  ") 7 999999999
    ∷ []

abbrev pub key_at : ℕ → Key
key_at k = get_or key_table k (key [] 0 0)

abbrev key_right : ℕ → Bool
key_right k =
    both (leb (key_at k).count (length (key_at k).letters))
    (both (same_list (take ((key_at k).count - 0) (key_at k).letters) (get_or keys k []))
    (both (eqb (key_at k).most (get_or mosts k 0)) (leb (get_or mosts k 0) 999_999_999)))

keys_right : all_below line_kinds key_right ≡ true
keys_right = refl

pub key_row : (k : ℕ) → k < line_kinds → ((key_at k).count ≤ length (key_at k).letters) × (take ((key_at k).count - 0) (key_at k).letters ≡ get_or keys k [])
    × ((key_at k).most ≡ get_or mosts k 0) × (get_or mosts k 0 ≤ 999_999_999)
key_row k h =
    let p = both_true _ _ (below_all line_kinds key_right keys_right k h) in
    let q = both_true _ _ p.1 in
    let r = both_true _ _ q.1 in
    (leb-true _ _ p.0, same_list_law _ _ q.0, eqb-true _ _ r.0, leb-true _ _ r.1)

-- what the reading of a line by its key answered
pub line_said : (k : ℕ) (bs : List ℕ) {x : Option ℕ} {r : Line} → k < line_kinds → x ≡ number_as k (value_of (take ((key_at k).count - 0) (key_at k).letters) bs)
    → r ≡ line_with k (key_at k).most x → r ≡ line_at k bs
unfolding line_at
line_said k bs h f g =
    let p = key_row k h in
    g ∙ rw (f, p.1, p.2)

pub answering_none : Answering no_line
answering_none = record { kind = omega arith; value = omega arith; code = λ e. absurd (omega arith); turn = λ e. absurd (omega arith) }

pub answering : (k v most : ℕ) → k < line_kinds → most ≡ get_or mosts k 0 → v ≤ most → Answering (record { kind = k; value = v })
answering k v most h e w =
    let p = key_row k h in
    record {
      kind = omega arith;
      value = omega (arith, p.3);
      code = λ q. let z : get_or mosts k 0 ≡ refusals - 1 = ap (λ (j : ℕ). get_or mosts j 0) q in omega arith;
      turn = λ q. let z : get_or mosts k 0 ≡ 10 = ap (λ (j : ℕ). get_or mosts j 0) q in omega arith;
    }
