-- The steps of the product of a matrix with itself.
use Rattle.std.proofs.Common.{◌≡◌, ℕ, zero, suc, ◌+◌, ◌-◌, ◌<◌, ◌≤◌, true, List, [], ◌∷◌, length}
use Rattle.std.proofs.Common.{ap, sym, subst, ◌∙◌, refl, arith}
use Rattle.std.specs.Prelude.{slice_index, nat_eq, nat_lt, ◌&&◌}
use Rattle.std.specs.List.{sum_by}
use Rattle.std.proofs.lemmas.List.Sums.{sum_by-cons}
use Rattle.std.proofs.lemmas.Bool.Decides.{nat_tests}
use Rattle.std.proofs.Math.ListN.{length-take, length-drop}
use Rattle.nalgebra_sparse.specs.Algebra.{CommRing}
use Rattle.nalgebra_sparse.specs.Plain.{Plain, plain_product, plain_identity}
use Rattle.nalgebra_sparse.specs.Raw.{Raw, IsValid, IsEntry, start_of, end_of, lane_of}
use Rattle.nalgebra_sparse.specs.Raw.{nnz_of}
use Rattle.nalgebra_sparse.specs.Prealloc.{IsCovered}
use Rattle.nalgebra_sparse.specs.Compressed.{Compressed, IsSound}
use Rattle.nalgebra_sparse.specs.PlainOfLanes.{plain_of_rows}
use Rattle.nalgebra_sparse.specs.ArraysDeterminePlain.{HasLanesAsRows}
use Rattle.nalgebra_sparse.specs.ScalarProducts.{triples_of}
use Rattle.tests_acceptance.specs.Small.{small_of}

on_diagonal : (i j n : ℕ) → (nat_eq i j && nat_lt i n) ≡ true → i ≡ j
on_diagonal i j n h = grind (arith, nat_tests)

diagonal_has : (i n : ℕ) → i < n → (nat_eq i i && nat_lt i n) ≡ true
diagonal_has i n lt = grind (arith, nat_tests)

before : (s : ℕ) → suc s - 1 ≡ s
before s = omega arith

sum_ones : (g : ℕ → ℕ) (xs : List ℕ) → ((p : ℕ) → p < length xs → g (slice_index xs p) ≡ 1)
    → sum_by g xs ≡ length xs
sum_ones g [] one = refl
sum_ones g (x ∷ xs) one =
    let here : g x ≡ 1 = one 0 (omega arith) in
    let later : sum_by g xs ≡ length xs = sum_ones g xs (λ p lt. one (suc p) (omega arith)) in
    let whole : sum_by g (x ∷ xs) ≡ g x + sum_by g xs = sum_by-cons g x xs in
    omega arith

-- a pattern whose entries are the diagonal has one entry in each lane
module _ (d : Raw) (valid : IsValid d) (n : ℕ) (dim : d.major_dim ≡ n)
    (only : (i j : ℕ) → IsEntry d i j → i ≡ j) (own : (i : ℕ) → i < n → IsEntry d i i) where
  place_at : (i p : ℕ) → i < n → start_of d i ≤ p → p < end_of d i
      → i ≡ slice_index d.indices p
  place_at i p lt from to = only i (slice_index d.indices p) (record {
    at = p;
    in_lane = record { lane = omega arith; from = from; to = to };
    index = refl;
  })

  lane_has_one : (i : ℕ) → i < n → end_of d i ≡ suc (start_of d i)
  lane_has_one i lt =
      let s = start_of d i in
      let at = (own i lt).at in
      let from : s ≤ at = (own i lt).in_lane.from in
      let to : at < end_of d i = (own i lt).in_lane.to in
      let few : suc s < end_of d i → ⊥ = λ more.
      let first : i ≡ slice_index d.indices s = place_at i s lt (omega arith) (omega arith) in
      let second : i ≡ slice_index d.indices (suc s) =
      place_at i (suc s) lt (omega arith) more in
      let rise : slice_index d.indices s < slice_index d.indices (suc s) =
      subst (λ p. slice_index d.indices p < slice_index d.indices (suc s)) (before s)
      ((valid.lanes i (omega arith)).rising (suc s) (omega arith) more) in
      omega arith in
      omega arith

  starts : (i : ℕ) → i ≤ n → start_of d i ≡ i
  starts zero le = valid.first
  starts (suc i) le =
      let next : i + 1 ≡ suc i = omega arith in
      sym (ap (slice_index d.offsets) next) ∙ lane_has_one i (omega arith)
      ∙ ap suc (starts i (omega arith))

  pub diagonal_count : nnz_of d ≡ n
  diagonal_count = sym valid.last ∙ ap (slice_index d.offsets) dim ∙ starts n (omega arith)

  own_index : (p : ℕ) → p < length d.indices → slice_index d.indices p < n
  own_index p lt =
      let count : length d.indices ≡ n = diagonal_count in
      let s : start_of d p ≡ p = starts p (omega arith) in
      let e : end_of d p ≡ suc (start_of d p) = lane_has_one p (omega arith) in
      let here : p ≡ slice_index d.indices p =
      place_at p p (omega arith) (omega arith) (omega arith) in
      omega arith

  lane_length : (k : ℕ) → k < n → length (lane_of d k) ≡ 1
  lane_length k lt =
      let e : end_of d k ≡ suc (start_of d k) = lane_has_one k lt in
      let inside : end_of d k ≤ length d.indices = (valid.lanes k (omega arith)).inside in
      simp (length-take, length-drop) (omega arith)

  pub diagonal_triples : triples_of d d ≡ n
  diagonal_triples = sum_ones (λ k. length (lane_of d k)) d.indices
      (λ p lt. lane_length (slice_index d.indices p) (own_index p lt)) ∙ diagonal_count

module _ (R : CommRing) {T : Type 0} (f : T → R.Carrier) where
  -- the number of entries of an identity, and of triples (i, k, j) of its product with itself
  pub identity_steps : (m : Compressed T) (n : ℕ) → IsSound m
      → HasLanesAsRows R f m (plain_of_rows R f m) → plain_of_rows R f m ≡ plain_identity R n
      → (nnz_of m.pattern ≡ n) × (triples_of m.pattern m.pattern ≡ n)
  identity_steps m n sound stands is =
      let dim : m.pattern.major_dim ≡ n = ap (λ (p : Plain R). p.rows) is in
      let has : (i j : ℕ) → (plain_of_rows R f m).has i j ≡ (nat_eq i j && nat_lt i n) =
      λ i j. ap (λ (p : Plain R). p.has i j) is in
      let only : (i j : ℕ) → IsEntry m.pattern i j → i ≡ j =
      λ i j place. on_diagonal i j n (sym (has i j) ∙ (stands.places i j).0 place) in
      let own : (i : ℕ) → i < n → IsEntry m.pattern i i =
      λ i lt. (stands.places i i).1 (has i i ∙ diagonal_has i n lt) in (
        diagonal_count m.pattern sound.valid n dim only own,
        diagonal_triples m.pattern sound.valid n dim only own,
      )

  pub small_covered : (a b c x y z : T)
      → IsCovered (plain_product R (plain_of_rows R f (small_of a b c))
      (plain_of_rows R f (small_of a b c))) (plain_of_rows R f (small_of x y z))
  small_covered a b c x y z i j h = grind (arith, nat_tests)
