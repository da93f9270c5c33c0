-- Scalar types: the numbers that they accept, and the texts of their values.
use Rattle.std.specs.Prelude.{◌≡◌, ℕ, ℤ, pos, negsuc, ◌^◌, ◌⊎◌, Bool, true, nat_lt, List, [], Ok}
use Rattle.std.specs.Prelude.{codes}
use Rattle.std.specs.Str.Parse.{signed_digits_value}
use Rattle.sparse_parser.specs.Grammar.{is_integer}
use Rattle.sparse_parser.specs.Reads.{Read, OnlyMismatch}

-- z is at least -2 ^ k and below 2 ^ k
abbrev pub fits : ℕ → ℤ → Bool
fits k (pos n) = nat_lt n (2 ^ k)
fits k (negsuc n) = nat_lt n (2 ^ k)

-- the text is an integer within i128, and is read as x
pub record IsNumberText {V : Type 0} (from : ℤ → Read V) (text : List ℕ) (x : V) : Type 0 where
  pub spelled : is_integer text ≡ true
  pub wide : fits 127 (signed_digits_value 10 text) ≡ true
  pub back : from (signed_digits_value 10 text) ≡ Ok x

-- each value is read back from its text: all texts are integers, or all are empty
abbrev pub ReadBack : {V : Type 0} → (ℤ → Read V) → Read V → List ℕ → (V → List ℕ)
    → (V → Type 0) → Type 0
ReadBack {V} from nothing name text IsValue =
    ((name ≡ codes "integer") × ((x : V) → IsValue x → IsNumberText from (text x) x))
    ⊎ ((name ≡ codes "pattern") × ((x : V) → IsValue x → (text x ≡ []) × (nothing ≡ Ok x)))

-- a scalar type: the numbers that it accepts, and the texts of its values
pub record Scalar : Type 1 where
  pub Value : Type 0
  pub from_number : ℤ → Read Value
  pub from_pattern : Read Value
  pub negated : Value → Read Value
  pub conjugated : Value → Read Value
  pub name : List ℕ
  pub text : Value → List ℕ
  pub IsValue : Value → Type 0
  pub number_refused : (z : ℤ) → OnlyMismatch (from_number z)
  pub pattern_refused : OnlyMismatch from_pattern
  pub negative_refused : (x : Value) → OnlyMismatch (negated x)
  pub read_back : ReadBack from_number from_pattern name text IsValue
