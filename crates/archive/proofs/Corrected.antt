-- Request No. 12: "Demand 3 then reads the corrected log." After a taken correction the table is that of the corrected list of entries, its pots are those that the
-- clerk finds afresh from what each sitting put in and who is live by that list (corrected_pots), and at each of its settles payments, commission, drop and
-- unclaimed chips make up all that was put in (corrected_whole). Assumes nothing beside `Stored`, where it is named.
use mathlib.Core.Path.{◌≡◌, subst}
use mathlib.Core.Bool.{Bool}
use mathlib.Core.List.{List, [], ◌∷◌, ◌++◌}
use Prim.Native.Nat.{ℕ, ◌+◌}
use Rattle.laws.specs.Lists.{sum_of}
use Rattle.paper.specs.declared.Sheet.{Sheet}
use Rattle.paper.specs.declared.Entry.{Entry}
use Rattle.paper.specs.declared.Entry.TheVariants.{Settle}
use Rattle.amends.specs.Righting.{right_of, number_of}
use Rattle.ledger.specs.Righting.{righted_of, log_righted, index_righted}
use Rattle.ledger.specs.declared.Book.{Book}
use Rattle.history.specs.History.{run, AllTaken, puts, ClerksPots}
use Rattle.history.proofs.BySitting.{clerks_pots_law}
use Rattle.mission.specs.Settled.{settles}
use Rattle.mission.proofs.Settled.{settle_whole}
use Rattle.archive.specs.Archive.{Stored, replaced}
use Rattle.archive.proofs.Righted.{right_fresh}

-- what was taken before some entries was taken
behind_taken : (sheet : Sheet) (later es : List Entry) → AllTaken sheet (later ++ es) → AllTaken sheet es
behind_taken sheet [] es a = a
behind_taken sheet (x ∷ later) es a = behind_taken sheet later es a.1

module _ (sheet : Sheet) (es : List Entry) (b : Book) (log index : List ℕ) (s : Stored sheet es b log index) (shared : Bool) (lines out : List ℕ)
    (h : (righted_of b shared (right_of lines) log out).code ≡ 0) where
  -- the entry that the five lines are, and the corrected list
  abbrev entry : Entry
  entry = (right_fresh sheet es b log index s shared lines out h).0

  abbrev corrected : List Entry
  corrected = replaced (number_of (right_of lines)) entry es

  fresh : Stored sheet corrected (righted_of b shared (right_of lines) log out).book (log_righted b shared (right_of lines) log out) (index_righted b shared (right_of lines) log index out)
  fresh = (right_fresh sheet es b log index s shared lines out h).1.fresh

  pub corrected_table : (righted_of b shared (right_of lines) log out).book.table ≡ run sheet corrected
  corrected_table = fresh.table

  pub corrected_pots : ClerksPots sheet corrected
  corrected_pots = clerks_pots_law sheet s.good corrected fresh.all

  pub corrected_whole : (later paid : List Entry) → corrected ≡ later ++ (Settle ∷ paid)
      → sum_of (settles sheet paid).paid + (settles sheet paid).fee + (settles sheet paid).drop + (settles sheet paid).unclaimed ≡ sum_of (puts sheet paid)
  corrected_whole later paid e = settle_whole sheet s.good paid (behind_taken sheet later (Settle ∷ paid) (subst (AllTaken sheet) e fresh.all))
