-- Lines that come byte by byte: what is kept of an unfinished block, each line cut after 33 bytes. Document 01: a line is "at most 32 bytes", so one of 33 is too
-- long already. Assumes nothing.
use Rattle.std.specs.Prelude.{List, [], ◌∷◌, ◌++◌, ℕ, ◌+◌, eqb, ltb}
use Rattle.laws.specs.Tests.{pick}

-- bytes, how many LFs are among them, and how many bytes stand behind the last LF
pub record Kept : Type 0 where
  pub bytes : List ℕ
  pub lines : ℕ
  pub width : ℕ

abbrev pub nothing : Kept
nothing = record { bytes = []; lines = 0; width = 0 }

-- one byte more: a line that has 33 bytes grows no further
unfoldable pub keep_of : Kept → ℕ → Kept
keep_of k b =
    pick (eqb b 10) (record { bytes = k.bytes ++ (b ∷ []); lines = k.lines + 1; width = 0 })
    (pick (ltb k.width 33) (record { bytes = k.bytes ++ (b ∷ []); lines = k.lines; width = k.width + 1 }) k)
