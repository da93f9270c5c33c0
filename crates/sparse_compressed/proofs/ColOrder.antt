-- The triplets of a matrix by columns are the places of its plain matrix, column by column.
use Rattle.std.proofs.Common.{◌≡◌, ℕ, Bool, true, false, List, [], ◌∷◌, ◌++◌, map, ap, sym, ◌∙◌}
use Rattle.std.proofs.Common.{refl}
use Rattle.std.specs.Prelude.{if◌then◌else◌}
use Rattle.std.specs.List.{flat_map}
use Rattle.std.proofs.lemmas.List.{map-append}
use Rattle.sparse_algebra.specs.Algebra.{CommRing}
use Rattle.sparse_algebra.specs.Plain.{Plain, below, row_order, plain_transpose}
use Rattle.sparse_compressed.specs.ColumnOrder.{col_order}
use Rattle.sparse_compressed.specs.Compressed.{Compressed, IsSound, lane_triplets, transposed}
use Rattle.sparse_compressed.specs.PlainOfLanes.{meant, plain_of_rows, plain_of_cols}
use Rattle.sparse_compressed.proofs.RowOrder.{row_order-rows}

-- `map` over `flat_map`
map-flat_map : {X A B : Type 0} (h : A → B) (f : X → List A) (g : X → List B)
    → ((x : X) → map h (f x) ≡ g x) → (xs : List X) → map h (flat_map f xs) ≡ flat_map g xs
map-flat_map h f g same [] = refl
map-flat_map h f g same (x ∷ xs) =
    map-append h (f x) (flat_map f xs) ∙ ap (λ l. l ++ map h (flat_map f xs)) (same x)
    ∙ ap (λ l. g x ++ l) (map-flat_map h f g same xs)

module _ (R : CommRing) (a : Plain R) where
  abbrev Triplet : Type 0
  Triplet = ℕ × ℕ × R.Carrier

  transposed-one : (i j : ℕ) (b : Bool)
      → map {B = Triplet} transposed (if b then (i, j, a.value i j) ∷ [] else [])
      ≡ (if b then (j, i, a.value i j) ∷ [] else [])
  transposed-one i j true = refl
  transposed-one i j false = refl

  -- the places of a transpose, column by column, are the transposed places of the matrix, row by
  -- row
  col_order-transpose : col_order R (plain_transpose R a)
      ≡ map {B = Triplet} transposed (row_order R a)
  col_order-transpose = sym (map-flat_map transposed _ _
      (λ i. map-flat_map transposed _ _ (λ j. transposed-one i j (a.has i j)) (below a.cols))
      (below a.rows))

module _ (R : CommRing) {T : Type 0} (f : T → R.Carrier) where
  meant-transposed : (ts : List (ℕ × ℕ × T))
      → meant R f (map transposed ts) ≡ map {B = ℕ × ℕ × R.Carrier} transposed (meant R f ts)
  meant-transposed [] = refl
  meant-transposed (t ∷ ts) = ap (λ l. (t.1, t.0, f t.2) ∷ l) (meant-transposed ts)

  pub col_order-cols : (m : Compressed T) → IsSound m
      → col_order R (plain_of_cols R f m) ≡ meant R f (map transposed (lane_triplets m))
  col_order-cols m sound =
      col_order-transpose R (plain_of_rows R f m) ∙ ap (map transposed) (row_order-rows R f m sound)
      ∙ sym (meant-transposed (lane_triplets m))
