-- The moduli for which the program solves systems.
use Rattle.std.specs.Prelude.{◌≢◌, ℕ, List, [], ◌∷◌, Option, Some, None}

abbrev pub moduli : List ℕ
moduli = 2 ∷ 3 ∷ 5 ∷ 7 ∷ 11 ∷ 13 ∷ 101 ∷ 65537 ∷ 998244353 ∷ 1000000007 ∷ 2305843009213693951 ∷ []

-- no number of the list is n
abbrev pub IsNoneOf : List ℕ → ℕ → Type 0
IsNoneOf [] n = Unit
IsNoneOf (k ∷ ks) n = (n ≢ k) × IsNoneOf ks n

-- a modulus is given, and it is none of these
abbrev pub IsUnlisted : Option ℕ → Type 0
IsUnlisted None = ⊥
IsUnlisted (Some m) = IsNoneOf moduli m
