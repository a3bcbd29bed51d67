-- What is written is read back: the record of an entry's numbers, wherever it stands in a log (record_back). Assumes nothing.
use mathlib.Core.Path.{◌≡◌, refl, sym, ◌∙◌, ap}
use Prim.Native.Nat.{ℕ, ◌+◌, ◌-◌, ◌*◌, ◌/◌, ◌%◌, ◌<◌, ◌≤◌, ◌^◌}
use Rattle.std.specs.Prelude.{Option, Some, unwrap_or}
use mathlib.Core.List.{List, ◌++◌}
use lib.ListN.{length, get_or, length-append}
use lib.Seq.{get_or-append-add}
use native.Mathlib.Omega.{arith}
use Rattle.paper.specs.declared.Numbers.{Numbers}
use Rattle.paper.specs.declared.Entry.{Entry}
use Rattle.paper.specs.declared.Entry.TheVariants.{Sit, Leave, Hand, Hole, Fold, Check, Call, Wager, Board, Dead, Settle, Void}
use Rattle.paper.specs.SheetAndEntries.{numbers_of}
use Rattle.blocks.specs.Entry.{entry_at}
use Rattle.records.specs.Bytes.{word_at}
use Rattle.records.specs.Stored.{no_record, record_at, behind, record_bytes, entry_by}
use Rattle.records.specs.declared.Record.{Record}
use Rattle.records.proofs.Found.{present, next_is}

-- numbers that a record holds
pub record Fits (x : Numbers) : Type 0 where
  pub kind : x.kind < 256
  pub seat : x.seat < 256
  pub b : x.b < 256
  pub a : x.a < 2 ^ 32

whole : (w : ℕ) → w < 2 ^ 32 → w % 256 + 256 * (w / 256 % 256 + 256 * (w / 256 / 256 % 256 + 256 * (w / 256 / 256 / 256 % 256))) ≡ w
whole w fits = omega (arith, fits)

low : (w : ℕ) → w < 256 → w % 256 ≡ w
low w fits = omega (arith, fits)

module _ (front rest : List ℕ) (x : Numbers) where
  abbrev bytes : List ℕ
  bytes = record_bytes x ++ rest

  abbrev log : List ℕ
  log = front ++ bytes

  byte : (j k : ℕ) → k ≡ length front + j → get_or log k 0 ≡ get_or bytes j 0
  byte j k e = ap (λ (i : ℕ). get_or log i 0) e ∙ get_or-append-add front bytes j 0

  word : word_at log (length front + 4) ≡ word_at bytes 4
  word =
      ap (λ (n : ℕ). n + 256 * (at 1 + 256 * (at 2 + 256 * at 3))) (byte 4 (length front + 4) refl)
      ∙ ap (λ (n : ℕ). get_or bytes 4 0 + 256 * (n + 256 * (at 2 + 256 * at 3))) (byte 5 (length front + 4 + 1) (omega arith))
      ∙ ap (λ (n : ℕ). get_or bytes 4 0 + 256 * (get_or bytes 5 0 + 256 * (n + 256 * at 3))) (byte 6 (length front + 4 + 2) (omega arith))
      ∙ ap (λ (n : ℕ). get_or bytes 4 0 + 256 * (get_or bytes 5 0 + 256 * (get_or bytes 6 0 + 256 * n))) (byte 7 (length front + 4 + 3) (omega arith))
    where
      at : ℕ → ℕ
      at j = get_or log (length front + 4 + j) 0

  -- eight bytes are there
  long : 8 ≤ length log - length front
  long = omega (arith, length-append front bytes, length-append (record_bytes x) rest)

  same : Fits x → record_at log (length front) ≡ Some (record { kind = x.kind; seat = x.seat; b = x.b; a = x.a })
  same f =
      sym (present log (length front) refl long (sym word))
      ∙ ap (λ (k : ℕ). Some (record { kind = k; seat = get_or log (length front + 1) 0; b = get_or log (length front + 2) 0; a = word_at bytes 4 }))
      (byte 0 (length front) (omega arith) ∙ low x.kind f.kind)
      ∙ ap (λ (k : ℕ). Some (record { kind = x.kind; seat = k; b = get_or log (length front + 2) 0; a = word_at bytes 4 }))
      (byte 1 (length front + 1) refl ∙ low x.seat f.seat)
      ∙ ap (λ (k : ℕ). Some (record { kind = x.kind; seat = x.seat; b = k; a = word_at bytes 4 }))
      (byte 2 (length front + 2) refl ∙ low x.b f.b)
      ∙ ap (λ (k : ℕ). Some (record { kind = x.kind; seat = x.seat; b = x.b; a = k })) (whole x.a f.a)

  -- the record with the numbers, and the next one begins right behind it
  pub record_back : Fits x
      → (record_at log (length front) ≡ Some (record { kind = x.kind; seat = x.seat; b = x.b; a = x.a })) × (behind log (length front) ≡ length front + 8)
  record_back f = (same f, next_is log (length front) long)

-- the entry of a record of its numbers is the entry
pub entry_of_numbers : (e : Entry) → entry_at (numbers_of e).kind (numbers_of e).seat (numbers_of e).a (numbers_of e).b ≡ e
entry_of_numbers (Sit s a) = refl
entry_of_numbers (Leave s) = refl
entry_of_numbers (Hand s) = refl
entry_of_numbers (Hole s a b) = refl
entry_of_numbers (Fold s) = refl
entry_of_numbers (Check s) = refl
entry_of_numbers (Call s) = refl
entry_of_numbers (Wager s a) = refl
entry_of_numbers (Board k) = refl
entry_of_numbers (Dead s) = refl
entry_of_numbers Settle = refl
entry_of_numbers Void = refl

pub entry_back : (front rest : List ℕ) (e : Entry) → Fits (numbers_of e) → entry_by (unwrap_or (record_at (front ++ (record_bytes (numbers_of e) ++ rest)) (length front)) no_record) ≡ e
entry_back front rest e f = ap (λ (r : Option Record). entry_by (unwrap_or r no_record)) (record_back front rest (numbers_of e) f).0 ∙ entry_of_numbers e
