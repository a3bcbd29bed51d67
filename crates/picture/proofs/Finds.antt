-- Laws of the search for a line's kind: the first that it is. Assumes nothing.
use mathlib.Core.Path.{◌≡◌}
use mathlib.Core.List.{List}
use Prim.Native.Nat.{ℕ, suc, ◌+◌, ◌-◌, ◌≤◌, ◌<◌}
use native.Mathlib.Omega.{arith}
use borrow.Author.Tests.{lt-ltb, le-ltb}
use Rattle.picture.specs.Lines.{line_kinds, line_at, line_from, no_line}

module _ (k : ℕ) (bs : List ℕ) where
  pub found_here : k < line_kinds → (line_at k bs).kind < line_kinds → line_from (line_kinds - k) k bs ≡ line_at k bs
  found_here h p =
      let e : line_kinds - k ≡ suc (line_kinds - (k + 1)) = omega arith in
      rw (e, lt-ltb _ _ p)

  pub found_on : k < line_kinds → line_kinds ≤ (line_at k bs).kind → line_from (line_kinds - k) k bs ≡ line_from (line_kinds - (k + 1)) (k + 1) bs
  found_on h p =
      let e : line_kinds - k ≡ suc (line_kinds - (k + 1)) = omega arith in
      rw (e, le-ltb _ _ p)

  pub found_none : line_kinds ≤ k → line_from (line_kinds - k) k bs ≡ no_line
  found_none h =
      let e : line_kinds - k ≡ 0 = omega arith in
      rw e
