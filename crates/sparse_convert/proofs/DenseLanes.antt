-- The lanes of a dense matrix, filtered by a test of their values.
use Rattle.std.proofs.Common.{◌≡◌, ℕ, zero, suc, ◌+◌, ◌*◌, ◌<◌, inl, inr, Bool, true, false, not}
use Rattle.std.proofs.Common.{cond, List, [], ◌∷◌, ◌++◌, length, map, get_or, All, Contains}
use Rattle.std.proofs.Common.{length-append, add-one, refl, ap, sym, subst, ◌∙◌}
use Rattle.std.proofs.Common.{arith}
use Rattle.std.specs.List.{filter, flat_map}
use Rattle.std.specs.List.Sorted.{IsStrictlyIncreasing}
use Rattle.std.proofs.lemmas.List.{append-nil, get_or_append_left, get_or_push, map-append}
use Rattle.std.proofs.lemmas.List.Elements.{filter-append, All-filter}
use Rattle.std.proofs.lemmas.List.Kept.{IsStrictlyIncreasing-filter}
use Rattle.std.proofs.lemmas.Simd.{map-map}
use Rattle.sparse_algebra.proofs.Cases.{lt_suc_cases}
use Rattle.sparse_algebra.specs.Plain.{below}
use Rattle.sparse_coo_dense.specs.Dense.{Dense, value_at}
use Rattle.sparse_coo_dense.proofs.BlockLemmas.{flat_map-next}
use Rattle.sparse_compressed.specs.Compressed.{transposed}
use Rattle.sparse_convert.proofs.Folds.{filter-map}
use Rattle.sparse_convert.specs.FromDense.{full_lanes, row_triplets, column_triplets}
use Rattle.sparse_convert.specs.FromDense.{differs_from}

-- ---- the numbers below n

length_below : (n : ℕ) → length (below n) ≡ n
length_below zero = refl
length_below (suc n) = omega (arith, length-append (below n) (n ∷ []), length_below n)

below_at : (n k d : ℕ) → k < n → get_or (below n) k d ≡ k
below_at zero k d lt = absurd (omega arith)
below_at (suc n) k d lt = elim (lt_suc_cases k n lt) [
  | inl before ↦ get_or_append_left (below n) (n ∷ []) d k (omega (arith, length_below n))
      ∙ below_at n k d before
  | inr here ↦ get_or_push (below n) n d k (length_below n ∙ sym here) ∙ sym here
]

rising_below : (n : ℕ) → IsStrictlyIncreasing (below n)
rising_below n = λ k lt. omega (
  arith,
  below_at n k 0 (omega (arith, length_below n)),
  below_at n (k + 1) 0 (omega (arith, length_below n)),
)

pub all_below : (n : ℕ) → All (λ k. k < n) (below n)
all_below n = λ k d lt. let within : k < n = omega (arith, length_below n) in subst (λ x. x < n)
    (sym (below_at n k d within)) within

-- the numbers that a test keeps are strictly increasing, and less than n
pub rising_kept : (test : ℕ → Bool) (n : ℕ) → IsStrictlyIncreasing (filter test (below n))
rising_kept test n = IsStrictlyIncreasing-filter test (below n) (rising_below n)

pub bounded_kept : (test : ℕ → Bool) (n : ℕ) → (j : ℕ) → Contains (filter test (below n)) j → j < n
bounded_kept test n j h = subst (λ x. x < n) h.2
    (All-filter test (λ k. k < n) (below n) (all_below n) h.0 j h.1)

-- one more number
module _ (test : ℕ → Bool) (n : ℕ) where
  chosen_next : (b : Bool) → test n ≡ b
      → filter test (below (n + 1)) ≡ filter test (below n) ++ cond b (n ∷ []) []
  chosen_next b e = ap (λ k. filter test (below k)) (add-one n)
      ∙ filter-append test (below n) (n ∷ []) ∙ ap
      (λ c. filter test (below n) ++ cond c (n ∷ []) [])
      e

  pub accepted : test n ≡ true → filter test (below (n + 1)) ≡ filter test (below n) ++ n ∷ []
  accepted = chosen_next true

  pub left_out : test n ≡ false → filter test (below (n + 1)) ≡ filter test (below n)
  left_out e = chosen_next false e ∙ append-nil (filter test (below n))

-- ---- lists

pub filter_map_next : {X : Type 0} (test : X → Bool) (f : ℕ → X) (n : ℕ) (b : Bool) → test (f n) ≡ b
    → filter test (map f (below (n + 1))) ≡ filter test (map f (below n)) ++ cond b (f n ∷ []) []
filter_map_next test f n b e =
    ap (λ k. filter test (map f (below k))) (add-one n)
    ∙ ap (filter test) (map-append f (below n) (n ∷ []))
    ∙ filter-append test (map f (below n)) (f n ∷ [])
    ∙ ap (λ c. filter test (map f (below n)) ++ cond c (f n ∷ []) []) e

-- one more lane
module _ {T : Type 0} (E : T → T → Bool) (z : T) (m : ℕ) (value : ℕ → ℕ → T) where
  -- the indices at which lane i is not z
  abbrev pub kept_indices : ℕ → List ℕ
  kept_indices i = filter (λ k. not (E (value i k) z)) (below m)

  pub kept_lane : (n : ℕ)
      → filter (differs_from E z) (full_lanes (n + 1) m value) ≡ filter (differs_from E z)
      (full_lanes n m value) ++ map (λ k. (n, k, value n k)) (kept_indices n)
  kept_lane n =
      let lane : ℕ → List (ℕ × ℕ × T) = λ i. map {B = ℕ × ℕ × T} (λ k. (i, k, value i k))
      (below m) in
      ap (filter (differs_from E z)) (flat_map-next lane n)
      ∙ filter-append (differs_from E z) (full_lanes n m value) (lane n)
      ∙ ap (λ l. filter (differs_from E z) (full_lanes n m value) ++ l)
      (filter-map (differs_from E z) (λ k. (n, k, value n k)) (below m))

map_below-same : {X : Type 0} (n : ℕ) (f g : ℕ → X) → ((k : ℕ) → k < n → f k ≡ g k)
    → map f (below n) ≡ map g (below n)
map_below-same zero f g h = refl
map_below-same (suc n) f g h =
    map-append f (below n) (n ∷ []) ∙ ap (λ l. l ++ f n ∷ [])
    (map_below-same n f g (λ k lt. h k (omega arith)))
    ∙ ap (λ x. map g (below n) ++ x ∷ []) (h n (omega arith))
    ∙ sym (map-append g (below n) (n ∷ []))

-- the triplets of the first n columns of a dense matrix
abbrev pub first_columns : {T : Type 0} → T → Dense T → ℕ → List (ℕ × ℕ × T)
first_columns {T} z d n =
    flat_map (λ j. map {B = ℕ × ℕ × T} (λ i. (i, j, value_at d i j z)) (below d.nrows)) (below n)

-- one more column
pub column_more : {T : Type 0} (E : T → T → Bool) (z : T) (d : Dense T) (j : ℕ) (column : List T)
    → length column ≡ d.nrows
    → ((i : ℕ) (y : T) → i < d.nrows → get_or column i y ≡ value_at d i j y)
    → filter (differs_from E z) (first_columns z d j) ++ filter (differs_from E z)
    (map {B = ℕ × ℕ × T} (λ i. (i, j, get_or column i z)) (below (length column)))
    ≡ filter (differs_from E z) (first_columns z d (j + 1))
column_more {T} E z d j column rows values =
    let columns : ℕ → List (ℕ × ℕ × T) = λ j. map {B = ℕ × ℕ × T} (λ i. (i, j, value_at d i j z))
    (below d.nrows) in
    let line : ℕ → ℕ × ℕ × T = λ i. (i, j, get_or column i z) in
    let here : map line (below (length column)) ≡ columns j = ap (λ n. map line (below n)) rows
    ∙ map_below-same d.nrows line (λ i. (i, j, value_at d i j z))
    (λ i lt. ap {B = ℕ × ℕ × T} (λ v. (i, j, v)) (values i z lt)) in
    ap (λ l. filter (differs_from E z) (first_columns z d j) ++ filter (differs_from E z) l) here
    ∙ sym (filter-append (differs_from E z) (first_columns z d j) (columns j))
    ∙ ap (filter (differs_from E z)) (sym (flat_map-next columns j))

full_lanes_same : {T : Type 0} (n m : ℕ) (v w : ℕ → ℕ → T) → ((i k : ℕ) → v i k ≡ w i k)
    → full_lanes n m v ≡ full_lanes n m w
full_lanes_same n m v w h = λ t. full_lanes n m (λ i k. h i k t)

-- ---- columns and rows

module _ {T : Type 0} where
  transposed_lanes : (value : ℕ → ℕ → T) (is js : List ℕ)
      → flat_map (λ j. map {B = ℕ × ℕ × T} (λ i. (i, j, value j i)) is) js ≡ map transposed
      (flat_map (λ j. map {B = ℕ × ℕ × T} (λ i. (j, i, value j i)) is) js)
  transposed_lanes value is [] = refl
  transposed_lanes value is (j ∷ js) =
      ap (λ l. l ++ flat_map (λ j. map {B = ℕ × ℕ × T} (λ i. (i, j, value j i)) is) js)
      (sym (map-map transposed (λ i. (j, i, value j i)) is))
      ∙ ap (λ l. map transposed (map {B = ℕ × ℕ × T} (λ i. (j, i, value j i)) is) ++ l)
      (transposed_lanes value is js)
      ∙ sym (map-append transposed (map {B = ℕ × ℕ × T} (λ i. (j, i, value j i)) is)
      (flat_map (λ j. map {B = ℕ × ℕ × T} (λ i. (j, i, value j i)) is) js))

  -- the columns of a dense matrix, as lanes
  abbrev pub column_lanes : T → Dense T → List (ℕ × ℕ × T)
  column_lanes z d = full_lanes d.ncols d.nrows (λ j i. value_at d i j z)

  pub kept_columns : (E : T → T → Bool) (z : T) (d : Dense T)
      → filter (differs_from E z) (column_triplets z d) ≡ map transposed
      (filter (differs_from E z) (column_lanes z d))
  kept_columns E z d = ap (filter (differs_from E z))
      (transposed_lanes (λ j i. value_at d i j z) (below d.nrows) (below d.ncols))
      ∙ filter-map (differs_from E z) transposed (column_lanes z d)

  -- column j has value i at the offset j * nrows + i of the values
  pub lanes_by_columns : (z : T) (d : Dense T)
      → full_lanes d.ncols d.nrows (λ j i. get_or d.values (j * d.nrows + i * 1) z) ≡ column_lanes z
      d
  lanes_by_columns z d = full_lanes_same d.ncols d.nrows _ _
      (λ j i. let at : j * d.nrows + i * 1 ≡ j * d.nrows + i =
      omega arith in ap (λ p. get_or d.values p z) at)

  -- row i has value j at the offset i + j * nrows of the values
  pub lanes_by_rows : (z : T) (d : Dense T)
      → full_lanes d.nrows d.ncols (λ i j. get_or d.values (i * 1 + j * d.nrows) z)
      ≡ row_triplets z d
  lanes_by_rows z d = full_lanes_same d.nrows d.ncols _ _
      (λ i j. let at : i * 1 + j * d.nrows ≡ j * d.nrows + i =
      omega arith in ap (λ p. get_or d.values p z) at)

-- ---- no values

columns_of_nothing : {T : Type 0} (value : ℕ → ℕ → T) (columns : List ℕ)
    → flat_map (λ j. map {B = ℕ × ℕ × T} (λ i. (i, j, value i j)) (below 0)) columns ≡ []
columns_of_nothing value [] = refl
columns_of_nothing value (j ∷ js) = columns_of_nothing value js

-- columns without rows have no triplets
pub no_values : {T : Type 0} (z : T) (d : Dense T) → d.nrows ≡ 0 → column_triplets z d ≡ []
no_values {T} z d e =
    subst (λ n. flat_map (λ j. map {B = ℕ × ℕ × T} (λ i. (i, j, value_at d i j z)) (below n))
    (below d.ncols) ≡ []) (sym e) (columns_of_nothing (λ i j. value_at d i j z) (below d.ncols))
