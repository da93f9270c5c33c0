-- The triplets of an element, and the matrix that they mean.
use Rattle.std.proofs.Common.{◌≡◌, ℕ, zero, suc, ◌+◌, ◌*◌, ◌<◌, Bool, true, List, []}
use Rattle.std.proofs.Common.{◌∷◌, ◌++◌, length, get_or, map, append_assoc}
use Rattle.std.proofs.Common.{add-one, ap, sym, ◌∙◌, refl, arith}
use Rattle.std.specs.Prelude.{◌||◌, slice_index}
use Rattle.std.specs.List.{list_any, flat_map}
use Rattle.std.proofs.Math.Bool.{or-false}
use Rattle.std.proofs.lemmas.Bool.Decides.{nat_tests}
use Rattle.std.proofs.lemmas.Grind.{flat_map-append}
use Rattle.std.proofs.lemmas.List.{append-nil, get_or_default}
use Rattle.std.proofs.lemmas.List.Folds.{list_any-append}
use Rattle.std.proofs.lemmas.Nat.{mul-add-lt}
use Rattle.std.proofs.Math.ListN.{get_or-map}
use Rattle.nalgebra_sparse.specs.Algebra.{CommRing}
use Rattle.nalgebra_sparse.specs.Coo.{Coo, appended, coo_of}
use Rattle.nalgebra_sparse.specs.Dense.{Dense, value_at}
use Rattle.nalgebra_sparse.specs.DensePlain.{is_inside, plain_of_dense}
use Rattle.nalgebra_sparse.specs.Plain.{any_below, below, is_at, plain_of_triplets}
use Rattle.nalgebra_sparse.specs.SumLemmas.{sum_by-append}
use Rattle.nalgebra_sparse.specs.Sums.{sum_below, sum_by, where_true}
use Rattle.examples_theorems.specs.declared.parts.Element.{Element}
use Rattle.examples_theorems.specs.Elements.{IsNumbered, is_numbered_at, numbered_element}
use Rattle.examples_theorems.specs.InnerElements.{element_triplet, row_triplets, element_triplets}

-- the lists of the numbers below n + 1 are those of the numbers below n and that of n
flat_map-next : {X : Type 0} (h : ℕ → List X) (n : ℕ)
    → flat_map h (below (n + 1)) ≡ flat_map h (below n) ++ h n
flat_map-next h n = ap (λ k. flat_map h (below k)) (add-one n)
    ∙ flat_map-append h (below n) (n ∷ []) ∙ ap (λ l. flat_map h (below n) ++ l) (append-nil (h n))

flat_map-suc : {X : Type 0} (h : ℕ → List X) (n : ℕ)
    → flat_map h (below (suc n)) ≡ flat_map h (below n) ++ h n
flat_map-suc h n = flat_map-append h (below n) (n ∷ [])
    ∙ ap (λ l. flat_map h (below n) ++ l) (append-nil (h n))

-- a list to which the triplets of the next number are appended
pub appended_more : {T : Type 0} (first list next : Coo T) (h : ℕ → List (ℕ × ℕ × T)) (n : ℕ)
    (ts : List (ℕ × ℕ × T)) → list ≡ appended first (flat_map h (below n))
    → next ≡ appended list ts → ts ≡ h n → next ≡ appended first (flat_map h (below (n + 1)))
appended_more first list next h n ts so_far added is = added
    ∙ ap (λ m. appended m ts) so_far
    ∙ ap (coo_of first.nrows first.ncols) (append_assoc first.triplets (flat_map h (below n)) ts
    ∙ ap (λ l. first.triplets ++ (flat_map h (below n) ++ l)) is
    ∙ ap (λ l. first.triplets ++ l) (sym (flat_map-next h n)))

-- the triplet of the value that is read at row k and column l
pub triplet_is : {T : Type 0} (z : T) (e : Element T) (nrows ncols k l r c : ℕ) (v : T)
    → IsNumbered nrows ncols e → length e.matrix.values ≡ e.matrix.nrows * e.matrix.ncols
    → k < e.matrix.nrows → l < e.matrix.ncols
    → r ≡ get_or e.rows.items k r → c ≡ get_or e.cols.items l c → v ≡ value_at e.matrix k l v
    → (r, c, v) ∷ [] ≡ element_triplet z e k l ∷ []
triplet_is z e nrows ncols k l r c v numbered full row col at_row at_col value =
    let within : l * e.matrix.nrows + k < length e.matrix.values =
    rw full (mul-add-lt l e.matrix.nrows k e.matrix.ncols col row) in
    let first : r ≡ slice_index e.rows.items k =
    at_row ∙ get_or_default e.rows.items k r 0 (omega (arith, numbered.row_count)) in
    let second : c ≡ slice_index e.cols.items l =
    at_col ∙ get_or_default e.cols.items l c 0 (omega (arith, numbered.col_count)) in
    let third : v ≡ value_at e.matrix k l z =
    value ∙ get_or_default e.matrix.values (l * e.matrix.nrows + k) v z within in
    λ k. (first k, second k, third k) ∷ []

-- whether a test holds of some triplet of a number below n
any-flat : {X : Type 0} (t : X → Bool) (h : ℕ → List X) (u : ℕ → Bool)
    → ((k : ℕ) → list_any t (h k) ≡ u k) → (n : ℕ)
    → list_any t (flat_map h (below n)) ≡ any_below n u
any-flat t h u same zero = refl
any-flat t h u same (suc n) = ap (list_any t) (flat_map-suc h n)
    ∙ list_any-append t (flat_map h (below n)) (h n)
    ∙ ap (λ b. b || list_any t (h n)) (any-flat t h u same n) ∙ ap (λ b. any_below n u || b) (same n)

-- a sum over the triplets of the numbers below n
sum-flat : (R : CommRing) {X : Type 0} (g : X → R.Carrier) (h : ℕ → List X) (s : ℕ → R.Carrier)
    → (n : ℕ) → ((k : ℕ) → k < n → sum_by R g (h k) ≡ s k)
    → sum_by R g (flat_map h (below n)) ≡ sum_below R n s
sum-flat R g h s zero same = refl
sum-flat R g h s (suc n) same = ap (sum_by R g) (flat_map-suc h n)
    ∙ sum_by-append R g (flat_map h (below n)) (h n)
    ∙ ap (λ c. R.add c (sum_by R g (h n))) (sum-flat R g h s n (λ k lt. same k (omega arith)))
    ∙ ap (R.add (sum_below R n s)) (same n (omega arith))

module _ (R : CommRing) {T : Type 0} (f : T → R.Carrier) (z : T) (zero_law : f z ≡ R.zero) where
  -- the ring element of a value of a dense matrix
  value-meant : (d : Dense T) (k l : ℕ) → k < d.nrows → l < d.ncols
      → f (value_at d k l z) ≡ (plain_of_dense R f d).value k l
  value-meant d k l row col =
      let inside : is_inside d k l ≡ true = grind (arith, nat_tests) in
      let p = l * d.nrows + k in
      sym (get_or-map f d.values p z) ∙ ap (get_or (map f d.values) p) zero_law
      ∙ sym (ap (λ b. where_true R b (get_or (map f d.values) p R.zero)) inside)

  module _ (nrows ncols : ℕ) (e : Element T) where
    element-has : (i j : ℕ) → list_any (is_at i j) (element_triplets z e e.matrix.nrows)
        ≡ (numbered_element R f nrows ncols e).has i j
    element-has i j = any-flat (is_at i j) (λ k. row_triplets z e k e.matrix.ncols) _
        (λ k. any-flat (is_at i j) (λ l. element_triplet z e k l ∷ []) _
        (λ l. or-false (is_numbered_at e k l i j)) e.matrix.ncols) e.matrix.nrows

    element-value : (i j : ℕ)
        → sum_by R (λ t. where_true R (is_at i j t) (f t.2)) (element_triplets z e e.matrix.nrows)
        ≡ (numbered_element R f nrows ncols e).value i j
    element-value i j =
        let u : ℕ × ℕ × T → R.Carrier = λ t. where_true R (is_at i j t) (f t.2) in
        sum-flat R u (λ k. row_triplets z e k e.matrix.ncols) _ e.matrix.nrows
        (λ k row. sum-flat R u (λ l. element_triplet z e k l ∷ []) _ e.matrix.ncols
        (λ l col. R.laws.add_zero (u (element_triplet z e k l))
        ∙ ap (where_true R (is_numbered_at e k l i j)) (value-meant e.matrix k l row col)))

    -- the plain matrix of an element's triplets
    pub element-numbered : plain_of_triplets R f nrows ncols (element_triplets z e e.matrix.nrows)
        ≡ numbered_element R f nrows ncols e
    element-numbered = λ k. record {
      rows = nrows;
      cols = ncols;
      has = λ i j. element-has i j k;
      value = λ i j. element-value i j k;
    }
