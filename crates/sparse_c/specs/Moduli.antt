-- The moduli of calls, and the error of any other modulus.
use Rattle.std.specs.Prelude.{◌≡◌, ◌≢◌, ◌⊎◌, ℕ, List, [], ◌∷◌}
use Rattle.c_arrays.specs.declared.refusal.Refusal.{Refusal}
use Rattle.c_arrays.specs.declared.refusal.Refusal.TheVariants.{UnknownChoice}

abbrev pub moduli : List ℕ
moduli = 2 ∷ 3 ∷ 5 ∷ 7 ∷ 11 ∷ 13 ∷ 101 ∷ 65537 ∷ 998244353 ∷ 1000000007 ∷ 2305843009213693951 ∷ []

-- n is not in the list
abbrev pub IsNoneOf : List ℕ → ℕ → Type 0
IsNoneOf [] n = Unit
IsNoneOf (k ∷ ks) n = (n ≢ k) × IsNoneOf ks n

-- the error of a modulus that is not listed
abbrev pub IsUnlisted : ℕ → Refusal → Type 0
IsUnlisted m refusal = (refusal ≡ UnknownChoice) × IsNoneOf moduli m

-- the error of a call with a modulus: the modulus is not listed, or the operands have an error
abbrev pub IsFaultModulo : ℕ → (Refusal → Type 0) → Refusal → Type 0
IsFaultModulo m Fault refusal = IsUnlisted m refusal ⊎ Fault refusal
