-- Request No. 7: "always nine digits, zeros in front". Assumes nothing.
use Rattle.std.specs.Prelude.{ℕ, ◌-◌, List, [], ◌∷◌, ◌++◌, length, replicate}
use Rattle.text.specs.Number.{digits}

-- the decimal digits of a number below 10 ^ 9, with so many zeros in front that they are nine
unfoldable pub nine_digits : ℕ → List ℕ
nine_digits n = replicate (9 - length (digits n)) 48 ++ digits n

-- the line that gives a key the number n in nine digits: the key, `=`, the digits, LF
unfoldable pub nine_line : List ℕ → ℕ → List ℕ
nine_line key n = key ++ (61 ∷ []) ++ nine_digits n ++ (10 ∷ [])
