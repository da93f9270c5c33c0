-- The value of a compressed matrix, as contracts see it. The lanes are the rows of a CSR matrix or
-- the columns of a CSC matrix.
use Rattle.std.specs.Prelude.{◌≡◌, ℕ, Bool, List, [], ◌∷◌, length, slice_index, refl}
use Rattle.std.specs.Cmp.Lexicographic.{pointwise}
use Rattle.std.specs.Ordering.{on, eq_of_both}
use Rattle.std.specs.Coded.{Coded, code_by, coded×, coded_ℕ, coded_list}
use Rattle.sparse_pattern.specs.Raw.{Raw, raw_of, IsInLane, IsValid, entries_of, raw_eq}

-- shape, offsets, indices and values; nothing is required of them
pub record Compressed (T : Type 0) : Type 0 where
  pub pattern : Raw
  pub values : List T

abbrev pub raw_code : Coded Raw
raw_code = code_by (ℕ × (ℕ × (List ℕ × List ℕ)))
    (coded× coded_ℕ (coded× coded_ℕ (coded× (coded_list coded_ℕ) (coded_list coded_ℕ))))
    (λ d. (d.major_dim, (d.minor_dim, (d.offsets, d.indices))))
    (λ p. raw_of p.0 p.1.0 p.1.1.0 p.1.1.1)
    (λ _. refl)

abbrev pub compressed_code : {T : Type 0} → Coded T → Coded (Compressed T)
compressed_code {T} code = code_by (Raw × List T) (coded× raw_code (coded_list code))
    (λ m. (m.pattern, m.values)) (λ p. record { pattern = p.0; values = p.1 }) (λ _. refl)

module _ {T : Type 0} where
  abbrev pub compressed_of : Raw → List T → Compressed T
  compressed_of pattern values = record { pattern = pattern; values = values }

  -- shape, offsets, indices and values, unchecked
  abbrev pub arrays_of : ℕ → ℕ → List ℕ → List ℕ → List T → Compressed T
  arrays_of major_dim minor_dim offsets indices values =
      compressed_of (raw_of major_dim minor_dim offsets indices) values

  -- a valid pattern, and one value for each of its entries
  pub record IsSound (m : Compressed T) : Type 0 where
    pub valid : IsValid m.pattern
    pub count : length m.values ≡ length m.pattern.indices

  -- pairs and values as triplets, up to the end of the shorter list
  abbrev pub zip_values : List (ℕ × ℕ) → List T → List (ℕ × ℕ × T)
  zip_values [] vs = []
  zip_values (p ∷ ps) [] = []
  zip_values (p ∷ ps) (v ∷ vs) = (p.0, p.1, v) ∷ zip_values ps vs

  -- the triplets (lane, index, value), lane by lane
  abbrev pub lane_triplets : Compressed T → List (ℕ × ℕ × T)
  lane_triplets m = zip_values (entries_of m.pattern) m.values

  -- a triplet with its first two components exchanged
  abbrev pub transposed : ℕ × ℕ × T → ℕ × ℕ × T
  transposed t = (t.1, t.0, t.2)

  -- the result of `==`
  abbrev pub compressed_eq : (T → T → Bool) → Compressed T → Compressed T → Bool
  compressed_eq E = eq_of_both (on (λ m. m.pattern) raw_eq) (on (λ m. m.values) (pointwise E))

-- p is the offset of the entry (i, j)
abbrev pub IsOffset : Raw → ℕ → ℕ → ℕ → Type 0
IsOffset d i j p = IsInLane d i p × (slice_index d.indices p ≡ j)
