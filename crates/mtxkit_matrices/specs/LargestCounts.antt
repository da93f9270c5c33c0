-- The largest of several numbers.
use Rattle.std.specs.Prelude.{ℕ, List, [], ◌∷◌, max}

-- the largest number, or 0 if there is none
abbrev pub largest : List ℕ → ℕ
largest [] = 0
largest (n ∷ ns) = max n (largest ns)
