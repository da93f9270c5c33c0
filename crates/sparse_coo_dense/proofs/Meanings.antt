-- Two lists of triplets have the same plain matrix if their values represent the same ring elements,
-- and so have two dense matrices.
use Rattle.std.proofs.Common.{◌≡◌, ℕ, ◌+◌, ◌*◌, List, [], ◌∷◌, length, map, ap, sym}
use Rattle.std.proofs.Common.{◌∙◌, refl}
use Rattle.std.specs.Prelude.{◌||◌, ◌&&◌, nat_lt, slice_index_or}
use Rattle.std.specs.List.{list_any}
use Rattle.std.proofs.lemmas.List.{length-map}
use Rattle.sparse_algebra.specs.Algebra.{CommRing}
use Rattle.sparse_algebra.specs.Sums.{sum_by, where_true}
use Rattle.sparse_algebra.specs.Plain.{Plain, is_at, plain_of_triplets}
use Rattle.sparse_algebra.proofs.PlainLemmas.{same_plain}
use Rattle.sparse_coo_dense.specs.Coo.{zip_triplets}
use Rattle.sparse_coo_dense.specs.Dense.{dense_of}
use Rattle.sparse_coo_dense.specs.DensePlain.{plain_of_dense}

module _ {X Y : Type 0} (h : X → Y) where
  any_triplet-meant : (is js : List ℕ) (vs : List X) (i j : ℕ)
      → list_any (is_at i j) (zip_triplets is js vs)
      ≡ list_any (is_at i j) (zip_triplets is js (map h vs))
  any_triplet-meant [] js vs i j = refl
  any_triplet-meant (x ∷ is) [] vs i j = refl
  any_triplet-meant (x ∷ is) (y ∷ js) [] i j = refl
  any_triplet-meant (x ∷ is) (y ∷ js) (v ∷ vs) i j =
      ap (λ b. is_at i j (x, y, v) || b) (any_triplet-meant is js vs i j)

-- ---- the plain matrix depends on the ring elements of the values alone

module _ (R : CommRing) {X : Type 0} (f : X → R.Carrier) where
  sum_of_triplets-meant : (is js : List ℕ) (vs : List X) (i j : ℕ)
      → sum_by R (λ t. where_true R (is_at i j t) (f t.2)) (zip_triplets is js vs)
      ≡ sum_by R (λ t. where_true R (is_at i j t) t.2) (zip_triplets is js (map f vs))
  sum_of_triplets-meant [] js vs i j = refl
  sum_of_triplets-meant (x ∷ is) [] vs i j = refl
  sum_of_triplets-meant (x ∷ is) (y ∷ js) [] i j = refl
  sum_of_triplets-meant (x ∷ is) (y ∷ js) (v ∷ vs) i j =
      ap (R.add (where_true R (is_at i j (x, y, v)) (f v))) (sum_of_triplets-meant is js vs i j)

  lists-meant : (rows cols : ℕ) (is js : List ℕ) (vs : List X)
      → plain_of_triplets R f rows cols (zip_triplets is js vs)
      ≡ plain_of_triplets R (λ x. x) rows cols (zip_triplets is js (map f vs))
  lists-meant rows cols is js vs = same_plain
      (plain_of_triplets R f rows cols (zip_triplets is js vs))
      (plain_of_triplets R (λ x. x) rows cols (zip_triplets is js (map f vs))) refl refl
      (any_triplet-meant f is js vs) (sum_of_triplets-meant is js vs)

-- the plain matrix of ring elements given column by column
abbrev plain_of_values : (R : CommRing) → ℕ → ℕ → List R.Carrier → Plain R
plain_of_values R rows cols vs = record {
  rows = rows;
  cols = cols;
  has = λ i j. nat_lt i rows && nat_lt j cols;
  value = λ i j. where_true R (nat_lt i rows && nat_lt j cols)
      (slice_index_or vs (j * rows + i) R.zero);
}

-- ---- two lists with the same ring elements

module _ (R : CommRing) {X Y : Type 0} (f : X → R.Carrier) (g : Y → R.Carrier) where
  pub list-meant : (rows cols : ℕ) (is js : List ℕ) (xs : List X) (ys : List Y)
      → map f xs ≡ map g ys
      → plain_of_triplets R f rows cols (zip_triplets is js xs)
      ≡ plain_of_triplets R g rows cols (zip_triplets is js ys)
  list-meant rows cols is js xs ys e =
      lists-meant R f rows cols is js xs
      ∙ ap (λ vs. plain_of_triplets R (λ x. x) rows cols (zip_triplets is js vs)) e
      ∙ sym (lists-meant R g rows cols is js ys)

  pub dense-meant : (rows cols : ℕ) (xs : List X) (ys : List Y) → map f xs ≡ map g ys
      → plain_of_dense R f (dense_of rows cols xs) ≡ plain_of_dense R g (dense_of rows cols ys)
  dense-meant rows cols xs ys e = ap (plain_of_values R rows cols) e

  pub same_length : (xs : List X) (ys : List Y) → map f xs ≡ map g ys → length xs ≡ length ys
  same_length xs ys e = sym (length-map xs f) ∙ ap length e ∙ length-map ys g
