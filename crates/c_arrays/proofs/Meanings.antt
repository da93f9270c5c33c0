-- Compressed matrices of scalars and of the integers that represent them have the same plain matrix.
use Rattle.std.proofs.Common.{◌≡◌, ℕ, List, [], ◌∷◌, length, map, ap, sym}
use Rattle.std.proofs.Common.{◌∙◌, refl, arith}
use Rattle.std.specs.Prelude.{◌||◌}
use Rattle.std.specs.List.{list_any}
use Rattle.std.proofs.lemmas.List.{length-map}
use Rattle.sparse_algebra.specs.Algebra.{CommRing}
use Rattle.sparse_algebra.specs.Sums.{sum_by, where_true}
use Rattle.sparse_algebra.specs.Plain.{is_at, plain_of_triplets}
use Rattle.sparse_compressed.specs.Compressed.{Compressed, compressed_of, IsSound, zip_values}
use Rattle.sparse_compressed.specs.Compressed.{lane_triplets}
use Rattle.sparse_compressed.specs.PlainOfLanes.{plain_of_rows}
use Rattle.sparse_pattern.specs.Raw.{Raw, entries_of}
use Rattle.sparse_algebra.proofs.PlainLemmas.{same_plain}
use Rattle.sparse_pattern.proofs.LaneOrder.{length-entries}
use Rattle.sparse_compressed.proofs.RowOrder.{row_order-rows}
use Rattle.c_arrays.specs.Arrays.{place_count}

module _ {X Y : Type 0} (h : X → Y) where
  list_any-meant : (i j : ℕ) (ps : List (ℕ × ℕ)) (vs : List X)
      → list_any (is_at i j) (zip_values ps vs) ≡ list_any (is_at i j) (zip_values ps (map h vs))
  list_any-meant i j [] vs = refl
  list_any-meant i j (p ∷ ps) [] = refl
  list_any-meant i j (p ∷ ps) (v ∷ vs) =
      ap (λ b. is_at i j (p.0, p.1, v) || b) (list_any-meant i j ps vs)

-- ---- a matrix of scalars has the plain matrix of the elements that they represent

module _ (R : CommRing) {X : Type 0} (f : X → R.Carrier) where
  sum_by-meant : (i j : ℕ) (ps : List (ℕ × ℕ)) (vs : List X)
      → sum_by R (λ t. where_true R (is_at i j t) (f t.2)) (zip_values ps vs)
      ≡ sum_by R (λ t. where_true R (is_at i j t) t.2) (zip_values ps (map f vs))
  sum_by-meant i j [] vs = refl
  sum_by-meant i j (p ∷ ps) [] = refl
  sum_by-meant i j (p ∷ ps) (v ∷ vs) =
      ap (R.add (where_true R (is_at i j (p.0, p.1, v)) (f v))) (sum_by-meant i j ps vs)

  triplets-meant : (rows cols : ℕ) (ps : List (ℕ × ℕ)) (vs : List X)
      → plain_of_triplets R f rows cols (zip_values ps vs)
      ≡ plain_of_triplets R (λ x. x) rows cols (zip_values ps (map f vs))
  triplets-meant rows cols ps vs = same_plain
      (plain_of_triplets R f rows cols (zip_values ps vs))
      (plain_of_triplets R (λ x. x) rows cols (zip_values ps (map f vs))) refl refl
      (λ i j. list_any-meant f i j ps vs) (λ i j. sum_by-meant i j ps vs)

-- ---- two lists of values that represent the same elements

module _ (R : CommRing) {X Y : Type 0} (f : X → R.Carrier) (g : Y → R.Carrier) where
  pub rows-meant : (p : Raw) (xs : List X) (ys : List Y) → map f xs ≡ map g ys
      → plain_of_rows R f (compressed_of p xs) ≡ plain_of_rows R g (compressed_of p ys)
  rows-meant p xs ys e =
      triplets-meant R f p.major_dim p.minor_dim (entries_of p) xs
      ∙ ap (λ vs. plain_of_triplets R (λ x. x) p.major_dim p.minor_dim
      (zip_values (entries_of p) vs)) e
      ∙ sym (triplets-meant R g p.major_dim p.minor_dim (entries_of p) ys)

-- ---- the number of places

length-zip_values : {X : Type 0} (ps : List (ℕ × ℕ)) (vs : List X)
    → length vs ≡ length ps → length (zip_values ps vs) ≡ length vs
length-zip_values [] [] e = refl
length-zip_values (p ∷ ps) (v ∷ vs) e = grind (arith, length-zip_values ps vs)
length-zip_values [] (v ∷ vs) e = sym e
length-zip_values (p ∷ ps) [] e = refl

pub place_count-rows : (R : CommRing) {X : Type 0} (f : X → R.Carrier) (m : Compressed X)
    → IsSound m → place_count (plain_of_rows R f m) ≡ length m.values
place_count-rows R f m sound = ap length (row_order-rows R f m sound)
    ∙ length-map (lane_triplets m) _ ∙ length-zip_values (entries_of m.pattern) m.values
    (sound.count ∙ sym (length-entries m.pattern sound.valid))
