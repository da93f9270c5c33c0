-- Adding multiples of four lists of values in the same rows, entry by entry.
use Rattle.std.proofs.Common.{◌≡◌, ℕ, ◌+◌, ◌<◌, ◌≤◌, inl, inr, List, length}
use Rattle.std.proofs.Common.{get_or, set, take, ap, sym, ◌∙◌, arith}
use Rattle.std.specs.Prelude.{nat_eq}
use Rattle.std.proofs.lemmas.Bool.{cases_eq}
use Rattle.std.proofs.lemmas.List.{get_or-set_same, get_or-set_other, get_or_default, take_all}
use Rattle.sparse_algebra.proofs.Cases.{nat_eq_no}
use Rattle.sparse_algebra.specs.Algebra.{CommRing}
use Rattle.sparse_algebra.specs.Sums.{where_true}
use Rattle.sparse_algebra.proofs.RingLemmas.{mul_zero, add_cross}
use Rattle.sparse_algebra.proofs.SumLemmas.{where_yes, where_no}
use Rattle.sparse_compressed.proofs.AddedLanes.{eq_refl, sum_zip_more}
use Rattle.sparse_dense_ops.specs.SparseVectors.{sparse_elements}
use Rattle.sparse_factor.specs.InnerNested.{AddsFour}

module _ (R : CommRing) where
  -- a * x + b * y + (c * z + d * w)
  abbrev pub products : R.Carrier → R.Carrier → R.Carrier → R.Carrier → R.Carrier → R.Carrier
      → R.Carrier → R.Carrier → R.Carrier
  products a b c d x y z w = R.add (R.add (R.mul a x) (R.mul b y)) (R.add (R.mul c z) (R.mul d w))

  products-same : (a b c d : R.Carrier) {x y z w x' y' z' w' : R.Carrier} → x ≡ x' → y ≡ y'
      → z ≡ z' → w ≡ w' → products a b c d x y z w ≡ products a b c d x' y' z' w'
  products-same a b c d {x} {y} {z} {w} {x'} {y'} {z'} {w'} ex ey ez ew =
      ap (λ t. products a b c d t y z w) ex ∙ ap (λ t. products a b c d x' t z w) ey
      ∙ ap (λ t. products a b c d x' y' t w) ez ∙ ap (products a b c d x' y' z') ew

  products-add : (a b c d x y z w p q r s : R.Carrier)
      → products a b c d (R.add x p) (R.add y q) (R.add z r) (R.add w s)
      ≡ R.add (products a b c d x y z w) (products a b c d p q r s)
  products-add a b c d x y z w p q r s =
      let pair : (a b x y p q : R.Carrier) → R.add (R.mul a (R.add x p)) (R.mul b (R.add y q))
      ≡ R.add (R.add (R.mul a x) (R.mul b y)) (R.add (R.mul a p) (R.mul b q)) =
      λ a b x y p q. ap (λ t. R.add t (R.mul b (R.add y q))) (R.laws.distrib a x p)
      ∙ ap (R.add (R.add (R.mul a x) (R.mul a p))) (R.laws.distrib b y q)
      ∙ add_cross R (R.mul a x) (R.mul a p) (R.mul b y) (R.mul b q) in
      ap (λ t. R.add t (R.add (R.mul c (R.add z r)) (R.mul d (R.add w s)))) (pair a b x y p q)
      ∙ ap (R.add (R.add (R.add (R.mul a x) (R.mul b y)) (R.add (R.mul a p) (R.mul b q))))
      (pair c d z w r s)
      ∙ add_cross R (R.add (R.mul a x) (R.mul b y)) (R.add (R.mul a p) (R.mul b q))
      (R.add (R.mul c z) (R.mul d w)) (R.add (R.mul c r) (R.mul d s))

  products-zero : (a b c d : R.Carrier) → products a b c d R.zero R.zero R.zero R.zero ≡ R.zero
  products-zero a b c d =
      let pair : (a b : R.Carrier) → R.add (R.mul a R.zero) (R.mul b R.zero) ≡ R.zero =
      λ a b. ap (λ t. R.add t (R.mul b R.zero)) (mul_zero R a)
      ∙ ap (R.add R.zero) (mul_zero R b) ∙ R.laws.add_zero R.zero in
      ap (λ t. R.add t (R.add (R.mul c R.zero) (R.mul d R.zero))) (pair a b)
      ∙ ap (R.add R.zero) (pair c d) ∙ R.laws.add_zero R.zero

-- the multiples of the first n values of four lists are added to `start`
pub record HasAddedFour (R : CommRing) {T : Type 0} (f : T → R.Carrier) (z : T)
    (a b c d : R.Carrier) (ks : List ℕ) (first second third fourth : List T) (n : ℕ)
    (start row : List T) : Type 0 where
  pub is : AddsFour R f z a b c d (sparse_elements R f (take n ks) (take n first))
      (sparse_elements R f (take n ks) (take n second))
      (sparse_elements R f (take n ks) (take n third))
      (sparse_elements R f (take n ks) (take n fourth)) start row

module _ {R : CommRing} {T : Type 0} {f : T → R.Carrier} {z : T} {a b c d : R.Carrier}
    {ks : List ℕ} {first second third fourth : List T} where
  pub four_none : {row : List T}
      → HasAddedFour R f z a b c d ks first second third fourth 0 row row
  four_none {row} = record {
    is = λ i lt. sym (ap (R.add (f (get_or row i z))) (products-zero R a b c d)
        ∙ R.laws.add_zero (f (get_or row i z)));
  }

  module _ (fits_1 : length first ≡ length ks) (fits_2 : length second ≡ length ks)
      (fits_3 : length third ≡ length ks) (fits_4 : length fourth ≡ length ks) {n : ℕ}
      {start row : List T}
      (so_far : HasAddedFour R f z a b c d ks first second third fourth n start row) where
    -- after the last entry the multiples of the whole lists are added
    pub four_all : length ks ≤ n → AddsFour R f z a b c d (sparse_elements R f ks first)
        (sparse_elements R f ks second) (sparse_elements R f ks third)
        (sparse_elements R f ks fourth) start row
    four_all end = rw (
      take_all n ks end,
      take_all n first (omega (arith, end, fits_1)),
      take_all n second (omega (arith, end, fits_2)),
      take_all n third (omega (arith, end, fits_3)),
      take_all n fourth (omega (arith, end, fits_4)),
    ) at so_far.is

    module _ (lt : n < length ks) {k : ℕ} {p q r s : T} (is : k ≡ get_or ks n k)
        (is_1 : p ≡ get_or first n p) (is_2 : q ≡ get_or second n q) (is_3 : r ≡ get_or third n r)
        (is_4 : s ≡ get_or fourth n s) where
      -- the value of entry n in row i
      here : ℕ → T → R.Carrier
      here i v = where_true R (nat_eq k i) (f v)

      more : (vs : List T) (v : T) → length vs ≡ length ks → v ≡ get_or vs n v → (i : ℕ)
          → sparse_elements R f (take (n + 1) ks) (take (n + 1) vs) i
          ≡ R.add (sparse_elements R f (take n ks) (take n vs) i) (where_true R (nat_eq k i) (f v))
      more vs v fits at i = sum_zip_more R (λ t. where_true R (nat_eq t.0 i) (f t.1)) ks vs n k v lt
          (omega (arith, lt, fits)) is at

      sums : (i : ℕ) → products R a b c d
          (sparse_elements R f (take (n + 1) ks) (take (n + 1) first) i)
          (sparse_elements R f (take (n + 1) ks) (take (n + 1) second) i)
          (sparse_elements R f (take (n + 1) ks) (take (n + 1) third) i)
          (sparse_elements R f (take (n + 1) ks) (take (n + 1) fourth) i)
          ≡ R.add (products R a b c d (sparse_elements R f (take n ks) (take n first) i)
          (sparse_elements R f (take n ks) (take n second) i)
          (sparse_elements R f (take n ks) (take n third) i)
          (sparse_elements R f (take n ks) (take n fourth) i))
          (products R a b c d (where_true R (nat_eq k i) (f p)) (where_true R (nat_eq k i) (f q))
          (where_true R (nat_eq k i) (f r)) (where_true R (nat_eq k i) (f s)))
      sums i = products-same R a b c d (more first p fits_1 is_1 i) (more second q fits_2 is_2 i)
          (more third r fits_3 is_3 i) (more fourth s fits_4 is_4 i) ∙ products-add R a b c d _ _ _ _ _ _ _ _

      -- the entry of row k after the products are added to it
      pub four_more : (old : T) {new : T} → k < length row → length row ≡ length start
          → f new ≡ R.add (f (get_or row k old)) (products R a b c d (f p) (f q) (f r) (f s))
          → HasAddedFour R f z a b c d ks first second third fourth (n + 1) start (set row k new)
      four_more old {new} within same added = record {
        is = λ i i_lt.
            let base = f (get_or start i z) in
            let sum = products R a b c d (sparse_elements R f (take n ks) (take n first) i)
            (sparse_elements R f (take n ks) (take n second) i)
            (sparse_elements R f (take n ks) (take n third) i)
            (sparse_elements R f (take n ks) (take n fourth) i) in
            elim (cases_eq i k) [
              | inl at ↦
                  let hit : (v : T) → where_true R (nat_eq k i) (f v) ≡ f v =
                  λ v. where_yes R (nat_eq k i) (f v) (rw at (eq_refl k)) in
                  ap (λ m. f (get_or (set row k new) m z)) at
                  ∙ ap f (get_or-set_same row k new z within) ∙ added
                  ∙ ap (λ x. R.add (f x) (products R a b c d (f p) (f q) (f r) (f s)))
                  (get_or_default row k old z within ∙ ap (λ m. get_or row m z) (sym at))
                  ∙ ap (λ x. R.add x (products R a b c d (f p) (f q) (f r) (f s)))
                  (so_far.is i i_lt) ∙ R.laws.add_assoc base sum _
                  ∙ ap (R.add base) (ap (R.add sum)
                  (sym (products-same R a b c d (hit p) (hit q) (hit r) (hit s))) ∙ sym (sums i))
              | inr differs ↦
                  let miss : (v : T) → where_true R (nat_eq k i) (f v) ≡ R.zero =
                  λ v. where_no R (nat_eq k i) (f v) (nat_eq_no k i (λ e. differs (sym e))) in
                  ap f (get_or-set_other row k i new z differs) ∙ so_far.is i i_lt
                  ∙ ap (R.add base) (sym (sums i
                  ∙ ap (R.add sum) (products-same R a b c d (miss p) (miss q) (miss r) (miss s)
                  ∙ products-zero R a b c d) ∙ R.laws.add_zero sum))
            ];
      }
