-- The pots of the table go with it from block to block, and each block is taken by its plan: the loop of `in_place`. For any part and any room. Assumes nothing.
use mathlib.Core.Path.{◌≡◌, refl, sym, ap, subst, ◌∙◌}
use mathlib.Core.List.{List, []}
use mathlib.Core.Bool.{Bool, true, false}
use mathlib.Core.Logic.{◌⊎◌, ⊎_elim}
use Prim.Native.Nat.{ℕ, ◌+◌, ◌-◌, ◌≤◌, ◌<◌, ◌^◌}
use native.Mathlib.Omega.{arith}
use lib.ListN.{length, length-drop}
use lib.Dec.{leb}
use borrow.Author.Tests.{leb-true, leb-false}
use borrow.Rule.Slice.PartMut.{mid_of, put_mid}
use Rattle.text.proofs.Parts.{part_is}
use Rattle.paper.specs.Paper.{or_else}
use Rattle.blocks.specs.Block.{block_of, rest_of}
use Rattle.blocks.specs.Front.{front_of}
use Rattle.blocks.specs.declared.Block.{Block}
use Rattle.blocks.specs.declared.front.Front.{Front}
use Rattle.pots.specs.declared.Stands.{Stands}
use Rattle.writing.specs.AnswerSheet.{over, Wrote}
use Rattle.answers.specs.declared.Shown.{Shown}
use Rattle.answers.specs.Answer.{answer_bytes, longest_shared}
use Rattle.table.specs.declared.table.Table.{Table}
use Rattle.table.specs.declared.table.Taken.{Taken}
use Rattle.table.specs.Take.{Sound, taken_of}
use Rattle.desk.specs.declared.Judged.{Judged}
use Rattle.desk.specs.declared.Planned.{Planned}
use Rattle.desk.specs.Desk.{shown_of, judge_block, judged_of, judged_bytes, block_bytes, number_of_block, SmallPaid, Closed}
use Rattle.desk.specs.Plans.{plan_of}
use Rattle.desk.specs.Quiet.{ShowsPots, keeps_pots}
use Rattle.desk.proofs.Laws.{block_small, some_block, read_answered}
use Rattle.desk.proofs.Plans.{plan_judged, plan_number, plan_paid}
use Rattle.desk.proofs.SamePots.{kept_shows}
use Rattle.desk.proofs.Room.{judged_closed}
use Rattle.stream.specs.declared.place.RanInPlace.{RanInPlace}
use Rattle.stream.specs.InPlace.{in_place_of, ran_of}
use Rattle.stream.proofs.Longest.{longest}
use Rattle.stream.proofs.Runs.{Running, Ends, run_start, run_out, run-open, run_full, run-turn}

-- what was written and what is left, and the pots of the table
pub record Going (t : Table) (part out : List ℕ) (table : Table) (stands : Stands) (left now : List ℕ) (at : ℕ) : Type 0 where
  pub run : Running t part out table left now at
  pub shows : ShowsPots table stands

pub go_start : (t : Table) (part out : List ℕ) {stands : Stands} → Sound t → ShowsPots t stands → Going t part out t stands part out 0
go_start t part out h k = record { run = run_start t part out h; shows = k }

-- the contract, by what is returned
abbrev Ran : Table → List ℕ → List ℕ → RanInPlace → List ℕ → Type 0
Ran t part out r now =
    (r ≡ ran_of (in_place_of t part (length out)) part)
    × ((now ≡ over (in_place_of t part (length out)).bytes out) × (Sound r.table × (r.used ≤ length part) × (r.written ≤ length out)))

ran_as : (t : Table) (part out : List ℕ) (table : Table) (used : ℕ) (now : List ℕ) (at : ℕ) {r : RanInPlace} → r ≡ record { table = table; used = used; written = at }
    → Ends t part out table used now at → Ran t part out r now
ran_as t part out table used now at e w = subst (λ (x : RanInPlace). Ran t part out x now) (sym e) w

judged_front : (table : Table) (left : List ℕ) {b : Block} → b ≡ block_of left → judge_block table b ≡ judged_of table left
unfolding judged_of
judged_front table left e = ap (judge_block table) e

module _ {t : Table} {part out : List ℕ} {table : Table} {stands : Stands} {left now : List ℕ} {at : ℕ}
    (g : Going t part out table stands left now at) where
  -- the part is used up
  pub go_out : {r : RanInPlace} → length left ≤ 0 → r ≡ record { table = table; used = length part - length left; written = at } → Ran t part out r now
  go_out h e = ran_as t part out table (length part - length left) now at e (run_out g.run h refl)

  module _ {f : Front} (e : f ≡ front_of left) where
    -- the next block is not whole
    pub go-open : {r : RanInPlace} → f.whole ≡ false → r ≡ record { table = table; used = length part - length left; written = at } → Ran t part out r now
    go-open h m = ran_as t part out table (length part - length left) now at m (run-open g.run e h refl)

    -- the table's word on the plan of the block is what the desk judges
    module _ {p : Planned} {k : Taken} {code : ℕ} (o : 0 < length left) (a : p ≡ plan_of f.block) (b : k ≡ taken_of table p.n p.entry)
        (c : code ≡ or_else p.code k.code) where
      abbrev said : Judged
      said = record { block = true; n = p.n; code = code; table = k.table; payout = k.payout }

      front : judge_block table f.block ≡ judged_of table left
      front = judged_front table left (ap (λ (x : Front). x.block) e)

      planned : ◌≡◌ {A = Judged} (record { block = p.block; n = p.n; code = code; table = k.table; payout = k.payout }) (judge_block table f.block)
      planned = plan_judged table f.block a b c

      -- there are bytes, so there is a block
      judged : said ≡ judge_block table f.block
      judged =
          let there : p.block ≡ true = ap (λ (x : Judged). x.block) (planned ∙ front) ∙ some_block table left o in
          ap (λ (x : Bool). record { block = x; n = p.n; code = code; table = k.table; payout = k.payout }) (sym there) ∙ planned

      -- the pots that are kept are those of the table after a block that leaves them
      pub go-shows : {keeps : Bool} → keeps ≡ keeps_pots f.block code → keeps ≡ true → ShowsPots k.table stands
      go-shows q h = kept_shows table f.block {j = said} judged (sym q ∙ h) g.shows

      -- what showing it asks for
      pub go_asked : {next : Stands} → Sound k.table → ShowsPots k.table next
          → Sound k.table × (p.n < 10 ^ 9) × SmallPaid k.payout × Closed k.table k.payout × ShowsPots k.table next
      go_asked i y = (
        i,
        plan_number f.block a (subst (λ (x : Front). number_of_block x.block < 10 ^ 9) (sym e) (block_small left)),
        plan_paid table p.n p.entry g.run.sound b,
        judged_closed table f.block {j = said} judged,
        y,
      )

      -- and what is shown is its answer
      module _ {s : Shown} (v : s ≡ shown_of p.n code k.table k.payout) where
        shown : answer_bytes s ≡ block_bytes table left
        shown = ap answer_bytes v ∙ ap judged_bytes judged ∙ (read_answered table left [] (ap (λ (x : Front). x.block) e)).1

        -- it has no room: then so little room was left that the table before was kept
        pub go-full : {old : Table} {fit : Bool} {r : RanInPlace} → fit ≡ leb (length (answer_bytes s)) (length now - at) → fit ≡ false
            → (old ≡ table) ⊎ (longest_shared ≤ length now - at) → r ≡ record { table = old; used = length part - length left; written = at } → Ran t part out r now
        go-full {old} q h w m =
            let less : length now - at < length (answer_bytes s) = leb-false (length (answer_bytes s)) (length now - at) (sym q ∙ h) in
            let none : length out - at < length (block_bytes table left) = omega (arith, less, ap length shown, g.run.same) in
            let kept : old ≡ table = ⊎_elim (λ x. x) (λ x. absurd (omega (arith, x, none, longest table left g.run.sound, g.run.same))) w in
            ran_as t part out table (length part - length left) now at
            (m ∙ ap (λ (x : Table). record { table = x; used = length part - length left; written = at }) kept)
            (run_full g.run none refl)

        module _ {fit : Bool} (q : fit ≡ leb (length (answer_bytes s)) (length now - at)) (h : fit ≡ true) where
          fits : length (answer_bytes s) ≤ length now - at
          fits = leb-true (length (answer_bytes s)) (length now - at) (sym q ∙ h)

          pub go-fits : length (answer_bytes s) ≤ length (mid_of at (length now - at) now)
          go-fits = omega (arith, fits, ap length (part_is at now), length-drop at now)

          module _ {mid : List ℕ} {n : ℕ} (w : Wrote (answer_bytes s) (mid_of at (length now - at) now) mid n) where
            pub go-room : at + n ≤ length out
            go-room = omega (arith, w.count, fits, g.run.within, g.run.same)

            -- it was answered
            pub go-turn : {after : List ℕ} {next : Stands} {rest : List ℕ} → after ≡ put_mid at (length now - at) now mid → f.whole ≡ true → Sound k.table → ShowsPots k.table next
                → rest ≡ rest_of left → Going t part out k.table next rest after (at + n)
            go-turn r z i y d = record {
              run =
                  run-turn g.run e z (omega (arith, fits, ap length shown, g.run.same))
                  (subst (λ (x : List ℕ). Wrote x (mid_of at (length now - at) now) mid n) shown w) r
                  (ap (λ (x : Judged). x.table) (judged ∙ front)) i d;
              shows = y;
            }
