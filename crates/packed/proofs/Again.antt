-- THE ROUND TRIP: what was packed reads back: a chair (chair_back), any number of them one behind the other (chairs_back), the clerk (clerk_back); and `pack`
-- leaves bytes that do. Each is what a machine's numbers and arrays are by their types (Fits). Assumes nothing.
use mathlib.Core.Path.{◌≡◌, refl, sym, ap, ◌∙◌}
use mathlib.Core.Bool.{Bool, true, false}
use mathlib.Core.List.{List, [], ◌∷◌, ◌++◌, map, append_assoc}
use Prim.Native.Nat.{ℕ, ◌+◌, ◌-◌, ◌*◌, ◌/◌, ◌%◌, ◌<◌, ◌^◌}
use native.Mathlib.Omega.{arith}
use lib.ListN.{length, get_or, drop, length-append}
use borrow.Rule.Slice.PartMut.{mid_of, put_mid}
use Rattle.laws.specs.Tests.{one}
use Rattle.laws.specs.Lists.{All}
use Rattle.writing.specs.AnswerSheet.{Wrote}
use Rattle.chairs.specs.declared.Chair.{Chair}
use Rattle.stream.specs.declared.Clerk.{Clerk}
use Rattle.packed.specs.Layout.{is_set, cards_four, cards_five, chair_words, chair_bytes, chairs_bytes, chair_in, chairs_in, head_words, head_bytes, fields_size, clerk_bytes, clerk_from}
use Rattle.packed.specs.Fits.{IsWord, ChairFits, HeadFits}
use Rattle.packed.proofs.Rows.{each_length, two_wrote}

-- a word's four bytes, read together
abbrev sealed : ℕ → ℕ
sealed w = w % 256 + 256 * (w / 256 % 256 + 256 * (w / 256 / 256 % 256 + 256 * (w / 256 / 256 / 256 % 256)))

word_back : (w : ℕ) → w < 2 ^ 32 → sealed w ≡ w
word_back w h = omega (arith, h)

-- all words of a list at once
words_back : (ws : List ℕ) → All IsWord ws → map sealed ws ≡ ws
words_back [] h = refl
words_back (w ∷ ws) h = ap (λ (x : ℕ). x ∷ map sealed ws) (word_back w h.0.below) ∙ ap (λ (l : List ℕ). w ∷ l) (words_back ws h.1)

flag_back : (b : Bool) → is_set (one b) ≡ b
flag_back true = refl
flag_back false = refl

-- a chair by its words, its bools and its cards
abbrev chair_of : List ℕ → Bool → Bool → Bool → ℕ → List ℕ → Chair
chair_of ws live acted spent count cards = record {
  sitting = get_or ws 0 0;
  stack = get_or ws 1 0;
  dealt = record { sitting = get_or ws 2 0; total = get_or ws 3 0; start = get_or ws 4 0; live = live; acted = acted; spent = spent };
  hole = record { count = count; cards = cards };
}

-- up to four bools at once
flags_back : {A : Type 0} (f : Bool → Bool → Bool → Bool → A) (a b c d : Bool) → f (is_set (one a)) (is_set (one b)) (is_set (one c)) (is_set (one d)) ≡ f a b c d
flags_back f a b c d =
    ap (λ (x : Bool). f x (is_set (one b)) (is_set (one c)) (is_set (one d))) (flag_back a)
    ∙ ap (λ (x : Bool). f a x (is_set (one c)) (is_set (one d))) (flag_back b)
    ∙ ap (λ (x : Bool). f a b x (is_set (one d))) (flag_back c)
    ∙ ap (λ (x : Bool). f a b c x) (flag_back d)

pub chair_back : (c : Chair) (rest : List ℕ) → ChairFits c → chair_in (chair_bytes c ++ rest) ≡ c
chair_back c rest h =
    let ws : List ℕ = chair_words c in
    let k : ℕ = c.hole.count in
    let four : List ℕ = cards_four c.hole.cards in
    ap (λ (l : List ℕ). chair_of l (is_set (one c.dealt.live)) (is_set (one c.dealt.acted)) (is_set (one c.dealt.spent)) k four) (words_back ws h.words)
    ∙ flags_back (λ a b d e. chair_of ws a b d k four) c.dealt.live c.dealt.acted c.dealt.spent true
    ∙ ap (λ (l : List ℕ). chair_of ws c.dealt.live c.dealt.acted c.dealt.spent k l) (sym h.cards)

pub chairs_back : (cs : List Chair) (rest : List ℕ) → All ChairFits cs → chairs_in (length cs) (chairs_bytes cs ++ rest) ≡ cs
unfolding chairs_in
chairs_back [] rest h = refl
chairs_back (c ∷ cs) rest h =
    ap (λ (l : List ℕ). chair_in l ∷ chairs_in (length cs) (drop 28 l)) (append_assoc (chair_bytes c) (chairs_bytes cs) rest)
    ∙ ap (λ (d : Chair). d ∷ chairs_in (length cs) (chairs_bytes cs ++ rest)) (chair_back c (chairs_bytes cs ++ rest) h.0)
    ∙ ap (λ (ds : List Chair). c ∷ ds) (chairs_back cs rest h.1)

-- ---- the clerk

-- by its words, its bools, the cards on the board and the chairs
abbrev clerk_of : List ℕ → Bool → Bool → Bool → Bool → ℕ → List ℕ → List Chair → Clerk
clerk_of ws opened shut open-hand bad count cards chairs = record {
  opened = opened;
  shut = shut;
  table = record {
    sheet = record {
      seats = get_or ws 0 0;
      small = get_or ws 1 0;
      big = get_or ws 2 0;
      rate = get_or ws 3 0;
      cap = get_or ws 4 0;
      step = get_or ws 5 0;
      game = get_or ws 6 0;
      deck = get_or ws 7 0;
      drop = get_or ws 8 0;
    };
    taken = get_or ws 9 0;
    sittings = get_or ws 10 0;
    play = record { opened = open-hand; puck = get_or ws 11 0; mark = get_or ws 12 0; lift = get_or ws 13 0; turn = get_or ws 14 0 };
    board = record { count = count; cards = cards };
    chairs = chairs;
  };
  fill = record { count = get_or ws 15 0; lines = get_or ws 16 0; width = get_or ws 17 0; bad = bad };
}

pub clerk_back : (c : Clerk) (rest : List ℕ) → HeadFits c → All ChairFits c.table.chairs → length c.table.chairs ≡ 10 → clerk_from (clerk_bytes c ++ rest) ≡ c
unfolding clerk_from clerk_bytes
clerk_back c rest h hs n =
    let ws : List ℕ = head_words c.table c.fill in
    let cs : List Chair = chairs_in 10 (chairs_bytes c.table.chairs ++ rest) in
    let k : ℕ = c.table.board.count in
    let five : List ℕ = cards_five c.table.board.cards in
    let same : cs ≡ c.table.chairs = ap (λ (m : ℕ). chairs_in m (chairs_bytes c.table.chairs ++ rest)) (sym n) ∙ chairs_back c.table.chairs rest hs in
    ap (λ (l : List ℕ). clerk_of l (is_set (one c.opened)) (is_set (one c.shut)) (is_set (one c.table.play.opened)) (is_set (one c.fill.bad)) k five cs) (words_back ws h.words)
    ∙ flags_back (λ a b d e. clerk_of ws a b d e k five cs) c.opened c.shut c.table.play.opened c.fill.bad
    ∙ ap (λ (l : List ℕ). clerk_of ws c.opened c.shut c.table.play.opened c.fill.bad k l cs) (sym h.cards)
    ∙ ap (λ (l : List Chair). clerk_of ws c.opened c.shut c.table.play.opened c.fill.bad k c.table.board.cards l) same

pub bytes_length : (c : Clerk) → length c.table.chairs ≡ 10 → length (clerk_bytes c) ≡ fields_size
unfolding clerk_bytes
bytes_length c n =
    length-append (head_bytes c) (chairs_bytes c.table.chairs)
    ∙ ap (λ (k : ℕ). 82 + k) (each_length chair_bytes 28 (λ (x : Chair). refl) c.table.chairs ∙ ap (λ (k : ℕ). 28 * k) n)

-- what `pack` leaves
pub packed_is : (c : Clerk) {old s t new : List ℕ} {a b : ℕ} → Wrote (head_bytes c) old s a → Wrote (chairs_bytes c.table.chairs) (mid_of a (length s - a) s) t b
    → new ≡ put_mid a (length s - a) s t → HeadFits c → All ChairFits c.table.chairs × (length c.table.chairs ≡ 10)
    → (new ≡ clerk_bytes c ++ drop fields_size old) × (clerk_from new ≡ c)
unfolding clerk_bytes
packed_is c {old} {s} {t} {new} {a} {b} p q n h hs =
    let w : Wrote (head_bytes c ++ chairs_bytes c.table.chairs) old new (a + b) = two_wrote p refl q refl n in
    let e : length (head_bytes c ++ chairs_bytes c.table.chairs) ≡ fields_size = bytes_length c hs.1 in (
      w.sheet ∙ ap (λ (k : ℕ). head_bytes c ++ chairs_bytes c.table.chairs ++ drop k old) e,
      ap clerk_from w.sheet ∙ clerk_back c (drop (length (head_bytes c ++ chairs_bytes c.table.chairs)) old) h hs.0 hs.1,
    )
