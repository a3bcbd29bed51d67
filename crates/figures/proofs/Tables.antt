-- How long each label and each refusal in words is, by a test that antt computes. Assumes nothing.
use mathlib.Core.Path.{◌≡◌, refl}
use mathlib.Core.List.{[]}
use mathlib.Core.Bool.{Bool, true}
use Prim.Native.Nat.{ℕ, ◌<◌}
use lib.ListN.{length, get_or}
use lib.Dec.{eqb}
use borrow.Author.Tests.{eqb-true}
use Rattle.laws.proofs.Rules.{all_below, below_all}
use Rattle.figures.specs.Words.{labels, words, refusals}

-- ---- labels

label_right : ℕ → Bool
label_right k = eqb (length (get_or labels k [])) 12

labels_right : all_below (length labels) label_right ≡ true
unfolding label_right
labels_right = refl

pub label_length : (k : ℕ) → k < length labels → length (get_or labels k []) ≡ 12
unfolding label_right
label_length k h = eqb-true _ _ (below_all (length labels) label_right labels_right k h)

-- ---- refusals in words

words_right : ℕ → Bool
words_right k = eqb (length (get_or words k [])) 40

all_words_right : all_below refusals words_right ≡ true
unfolding words_right
all_words_right = refl

pub words_length : (k : ℕ) → k < refusals → length (get_or words k []) ≡ 40
unfolding words_right
words_length k h = eqb-true _ _ (below_all refusals words_right all_words_right k h)
