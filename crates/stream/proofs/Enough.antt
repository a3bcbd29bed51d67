-- With room for the longest answer every answer fits: more room changes nothing, and no code is 12. A table stays sound over any bytes. For any state and any
-- bytes. Assumes nothing.
use Rattle.std.specs.Prelude.{Result, Ok, Err}
use Rattle.paper.specs.declared.Sheet.{Sheet}
use Rattle.paper.specs.declared.refusal.Refusal.TheVariants.{BadSheet}
use Rattle.paper.specs.declared.refusal.Refusal.{Refusal}
use Rattle.desk.specs.Log.{opened_of, eleven, table_in}
use Rattle.desk.proofs.Opened.{opened_is}
use Prim.Native.Nat.{ℕ, ◌≤◌}
use mathlib.Core.Bool.{Bool, true, false, true≢false}
use mathlib.Core.Path.{◌≡◌, refl, sym, ap, ◌∙◌}
use mathlib.Core.List.{List, [], ◌∷◌, ◌++◌}
use mathlib.Core.Logic.{⊎_elim}
use native.Mathlib.Omega.{arith}
use lib.ListN.{length}
use lib.Dec.{eqb, leb}
use borrow.Author.Tests.{eqb-true, le-leb, ne_eqb}
use Rattle.laws.specs.Tests.{pick}
use Rattle.laws.proofs.Tests.{test}
use Rattle.paper.specs.declared.Entry.{Entry}
use Rattle.blocks.specs.Block.{block_of}
use Rattle.blocks.specs.Entry.{parsed_of}
use Rattle.blocks.specs.declared.Block.{Block}
use Rattle.blocks.specs.declared.Block.TheVariants.{Raw, Malformed, Nothing}
use Rattle.lines.specs.Kept.{Kept, keep_of}
use Rattle.table.specs.declared.table.Table.{Table}
use Rattle.table.specs.Take.{Sound, code_of, next_of}
use Rattle.table.proofs.Standing.{sound_taken, sound_fresh}
use Rattle.desk.specs.Desk.{judge_parsed, judge_block, judged_of, block_bytes}
use Rattle.desk.proofs.Laws.{judged_most}
use Rattle.stream.specs.declared.Clerk.{Clerk}
use Rattle.stream.specs.Onward.{State, Unread, Open, Shut, Given, still, and_then, answer_of, open_of, lines_done, wanted, is_shut, byte_of, onward, closing, any_short}
use Rattle.stream.specs.Feeding.{longest_answer, state_at, state_of, Held}
use Rattle.stream.proofs.InPlace.{answer_fits}
use Rattle.stream.proofs.Longest.{longest}

-- ---- the table stays sound

abbrev pub sound_in : State → Type 0
sound_in Unread = Unit {0}
sound_in (Open t) = Sound t
sound_in Shut = Unit {0}

pub next_sound : (t : Table) (n : ℕ) (e : Entry) → Sound t → Sound (next_of t n e)
unfolding next_of
next_sound t n e h = ⊎_elim
    (λ q. rw q (sound_taken t n e h (eqb-true (code_of t n e) 0 q)))
    (λ q. rw q h)
    (test (eqb (code_of t n e) 0))

pub judged_sound : (t : Table) (log : List ℕ) → Sound t → Sound (judged_of t log).table
unfolding judged_of
judged_sound t log h = of-block (block_of log)
  where
    of-parsed : (n : ℕ) (p : Result Entry Refusal) → Sound (judge_parsed t n p).table
    of-parsed n (Err why) = h
    of-parsed n (Ok e) = next_sound t n e h

    of-block : (b : Block) → Sound (judge_block t b).table
    of-block (Raw n k s a b) = of-parsed n (parsed_of k s a b)
    of-block Malformed = h
    of-block Nothing = h

in_sound : (room : ℕ) (t : Table) (log : List ℕ) → Sound t → Sound (table_in t log room)
in_sound room t log h = go (leb (length (block_bytes t log)) room)
  where
    go : (b : Bool) → Sound (pick b (judged_of t log).table t)
    go true = judged_sound t log h
    go false = h

pub done_sound : (room : ℕ) (s : State) (lines : List ℕ) → sound_in s → sound_in (lines_done room s lines).state
done_sound room (Open t) lines h = in_sound room t lines h
done_sound room Shut lines h = h
done_sound room Unread lines h = go (opened_of lines) refl
  where
    go : (o : Result Sheet Refusal) → opened_of lines ≡ o → sound_in (open_of room o).state
    go (Ok s) e = sound_fresh s (opened_is lines s e)
    go (Err why) e = tt

pub byte_sound : (room : ℕ) (s : State) (k : Kept) (b : ℕ) → sound_in s → sound_in (byte_of room s k b).state
unfolding byte_of
byte_sound room s k b h = go (is_shut s) (leb (wanted s) (keep_of k b).lines)
  where
    go : (x y : Bool) → sound_in (pick x (still s k) (pick y (lines_done room s (keep_of k b).bytes) (still s (keep_of k b)))).state
    go true y = h
    go false true = done_sound room s (keep_of k b).bytes h
    go false false = h

pub held_sound : (c : Clerk) → Held c → sound_in (state_of c)
unfolding state_of
held_sound c h = go c.shut c.opened
  where
    go : (s o : Bool) → sound_in (pick s Shut (state_at o c.table))
    go true o = tt
    go false true = h.sound
    go false false = tt

-- ---- room for the longest answer is room enough

module _ (room : ℕ) (enough : longest_answer ≤ room) where
  answer_enough : (t : Table) (block : List ℕ) → Sound t → answer_of room t block ≡ answer_of longest_answer t block
  answer_enough t block h =
      answer_fits room t block (omega (arith, longest t block h)) ∙ sym (answer_fits longest_answer t block (longest t block h))

  open_enough : (o : Result Sheet Refusal) → open_of room o ≡ open_of longest_answer o
  open_enough (Ok s) = refl
  open_enough (Err why) = ap (λ (b : Bool). record { state = Shut; kept = record { bytes = []; lines = 0; width = 0; bad = false }; codes = 11 ∷ []; bytes = pick b eleven [] }) (le-leb 8 room (omega arith))

  done_enough : (s : State) (lines : List ℕ) → sound_in s → lines_done room s lines ≡ lines_done longest_answer s lines
  done_enough Unread lines h = open_enough (opened_of lines)
  done_enough (Open t) lines h = answer_enough t lines h
  done_enough Shut lines h = refl

  byte_enough : (s : State) (k : Kept) (b : ℕ) → sound_in s → byte_of room s k b ≡ byte_of longest_answer s k b
  unfolding byte_of
  byte_enough s k b h =
      ap (λ (x : Given). pick (is_shut s) (still s k) (pick (leb (wanted s) (keep_of k b).lines) x (still s (keep_of k b)))) (done_enough s (keep_of k b).bytes h)

  pub onward_enough : (s : State) (k : Kept) (bs : List ℕ) → sound_in s → onward room s k bs ≡ onward longest_answer s k bs
  onward_enough s k [] h = refl
  onward_enough s k (b ∷ bs) h =
      let y : Given = byte_of longest_answer s k b in
      ap (λ (x : Given). and_then x (onward room x.state x.kept bs)) (byte_enough s k b h)
      ∙ ap (and_then y) (onward_enough y.state y.kept bs (byte_sound longest_answer s k b h))

  pub closing_enough : (s : State) (k : Kept) → sound_in s → closing room s k ≡ closing longest_answer s k
  closing_enough Unread k h = open_enough (Err BadSheet)
  closing_enough (Open t) k h = ap (pick (eqb (length k.bytes) 0) (still (Open t) (record { bytes = []; lines = 0; width = 0; bad = false }))) (answer_enough t k.bytes h)
  closing_enough Shut k h = refl

-- ---- and no code is 12

pub any_append : (xs ys : List ℕ) → any_short xs ≡ false → any_short (xs ++ ys) ≡ any_short ys
any_append [] ys h = refl
any_append (x ∷ xs) ys h = go (eqb x 12) h (λ i. any_append xs ys i)
  where
    go : (b : Bool) → pick b true (any_short xs) ≡ false → (any_short xs ≡ false → any_short (xs ++ ys) ≡ any_short ys) → pick b true (any_short (xs ++ ys)) ≡ any_short ys
    go true e rec = absurd (true≢false e)
    go false e rec = rec e

done_told : (s : State) (lines : List ℕ) → sound_in s → any_short (lines_done longest_answer s lines).codes ≡ false
done_told Shut lines h = refl
done_told (Open t) lines h =
    ap (λ (x : Given). any_short x.codes) (answer_fits longest_answer t lines (longest t lines h))
    ∙ ap (λ (b : Bool). pick b true false) (ne_eqb (judged_of t lines).code 12 (λ q. omega (arith, judged_most t lines)))
done_told Unread lines h = go (opened_of lines)
  where
    go : (o : Result Sheet Refusal) → any_short (open_of longest_answer o).codes ≡ false
    go (Ok s) = refl
    go (Err why) = refl

byte_told : (s : State) (k : Kept) (b : ℕ) → sound_in s → any_short (byte_of longest_answer s k b).codes ≡ false
unfolding byte_of
byte_told s k b h = go (is_shut s) (leb (wanted s) (keep_of k b).lines)
  where
    go : (x y : Bool) → any_short (pick x (still s k) (pick y (lines_done longest_answer s (keep_of k b).bytes) (still s (keep_of k b)))).codes ≡ false
    go true y = refl
    go false true = done_told s (keep_of k b).bytes h
    go false false = refl

pub never_short : (s : State) (k : Kept) (bs : List ℕ) → sound_in s → any_short (onward longest_answer s k bs).codes ≡ false
never_short s k [] h = refl
never_short s k (b ∷ bs) h =
    let x : Given = byte_of longest_answer s k b in
    any_append x.codes (onward longest_answer x.state x.kept bs).codes (byte_told s k b h)
    ∙ never_short x.state x.kept bs (byte_sound longest_answer s k b h)
