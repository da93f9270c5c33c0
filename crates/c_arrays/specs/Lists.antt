-- Coordinate lists and texts as arrays of C.
use Rattle.std.specs.Prelude.{◌≡◌, ◌⊎◌, ℕ, ℤ, ◌<◌, List, length, map, take}
use Rattle.sparse_coo_dense.specs.Coo.{Coo}

-- the arrays that C passes for a coordinate list, and the variable for its number of triplets
pub record ListOutputArrays : Type 0 where
  pub rows : List ℕ
  pub cols : List ℕ
  pub values : List ℤ
  pub count : ℕ

abbrev pub list_output_arrays : List ℕ → List ℕ → List ℤ → ℕ → ListOutputArrays
list_output_arrays rows cols values count =
    record { rows = rows; cols = cols; values = values; count = count }

-- the arrays begin with the triplets of the list
pub record HoldsList (m : Coo ℤ) (r : ListOutputArrays) : Type 0 where
  pub rows : take (length m.triplets) r.rows ≡ map (λ t. t.0) m.triplets
  pub cols : take (length m.triplets) r.cols ≡ map (λ t. t.1) m.triplets
  pub values : take (length m.triplets) r.values ≡ map (λ t. t.2) m.triplets
  pub count : r.count ≡ length m.triplets

-- an array is too small for the triplets of the list
abbrev pub IsListTooSmall : Coo ℤ → ListOutputArrays → Type 0
IsListTooSmall m r = (length r.rows < length m.triplets)
    ⊎ ((length r.cols < length m.triplets) ⊎ (length r.values < length m.triplets))

-- the buffer begins with the text, whose length is size
pub record HoldsText (text buffer : List ℕ) (size : ℕ) : Type 0 where
  pub bytes : take (length text) buffer ≡ text
  pub size_is : size ≡ length text
