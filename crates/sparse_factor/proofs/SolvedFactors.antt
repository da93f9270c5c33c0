-- Solving with L, multiplying by the inverses of D, and solving with Lᵀ solves the system of L D
-- Lᵀ.
use Rattle.std.proofs.Common.{◌≡◌, ℕ, ◌<◌, inl, inr, true, ◌&&◌, ap, sym, ◌∙◌}
use Rattle.std.proofs.Common.{List, arith, get_or}
use Rattle.std.specs.Prelude.{nat_le, nat_lt, Result, OnOk, IsErr}
use Rattle.std.proofs.lemmas.Bool.Decides.{nat_tests}
use Rattle.sparse_algebra.proofs.Cases.{lt_or_ge, true_or_false, and_both}
use Rattle.sparse_algebra.specs.Algebra.{CommRing}
use Rattle.sparse_algebra.specs.Sums.{sum_below}
use Rattle.sparse_algebra.specs.Plain.{Plain, plain_product, plain_transpose}
use Rattle.sparse_algebra.proofs.SumLemmas.{sum_below-same, product_assoc}
use Rattle.sparse_algebra.proofs.PlainLemmas.{same_plain}
use Rattle.sparse_coo_dense.specs.Dense.{Dense}
use Rattle.sparse_coo_dense.specs.DensePlain.{plain_of_dense}
use Rattle.sparse_compressed.specs.Compressed.{Compressed, IsSound}
use Rattle.sparse_compressed.specs.PlainOfLanes.{plain_of_cols}
use Rattle.sparse_compressed.proofs.Arrays.{proper_rows}
use Rattle.sparse_dense_ops.specs.Solutions.{IsSolution, IsSingular, plain_lower}
use Rattle.sparse_dense_ops.proofs.ColumnSteps.{lower_is, lower_zero}
use Rattle.sparse_dense_ops.specs.SparseVectors.{elements}
use Rattle.sparse_factor.specs.Factorisations.{plain_ldl}
use Rattle.sparse_factor.specs.Factors.{AreFactors, Factors, plain_of_factors}
use Rattle.sparse_factor.specs.InnerFactors.{AreInverses, AreScaledBelow}
use Rattle.sparse_factor.proofs.FilledSets.{has_entry}
use Rattle.sparse_factor.proofs.PlainProducts.{ldl-value}
use Rattle.sparse_factor.proofs.EntryValues.{value_at_entry}
use Rattle.sparse_factor.proofs.Results.{ok_or}
use Rattle.sparse_factor.proofs.RingFacts.{trivial}
use Rattle.sparse_factor.proofs.ScaledRows.{plain_divided}

module _ {R : CommRing} {T : Type 0} {f : T → R.Carrier} {z : T} {s : Factors T}
    (factors : AreFactors R f z s) (sound : IsSound s.l) where
  abbrev m : Compressed T
  m = s.l

  abbrev l : Plain R
  l = plain_of_cols R f m

  abbrev d : ℕ → R.Carrier
  d = elements R f z s.d

  abbrev t : Plain R
  t = plain_lower R l

  -- the lower triangle t, which the solves read, has all values of L
  lower_same : (i c : ℕ) → c < l.cols → t.value i c ≡ l.value i c
  lower_same i c lt = elim (lt_or_ge i c) [
    | inl less ↦ lower_zero R l i c less
        ∙ sym (factors.lower.upper i c less (omega (arith, lt, factors.lower.square)))
    | inr le ↦ lower_is R l (λ i j. proper_rows R f m j i) i c le
  ]

  -- if the lower triangle is singular, a diagonal entry is not stored, so one is zero
  singular_trivial : IsSingular R f t → R.one ≡ R.zero
  singular_trivial h =
      let k = h.0 in
      let one : l.value k k ≡ R.one = factors.lower.unit k h.1 in
      let same : t.value k k ≡ l.value k k =
      lower_is R l (λ i j. proper_rows R f m j i) k k (omega arith) in
      elim (true_or_false (l.has k k)) [
        | inl hit ↦
            let place = has_entry R f m sound k k hit in
            let v = get_or m.values place.at z in
            let value = value_at_entry R f sound z place in
            let test : nat_le k k ≡ true = grind (arith, nat_tests) in
            let inverts : R.mul (t.value k k) (f v) ≡ R.one =
            ap (λ c. R.mul c (f v)) (same ∙ one) ∙ ap (R.mul R.one) (sym value ∙ one)
            ∙ R.laws.mul_one R.one in
            absurd (h.2 (and_both (l.has k k) (nat_le k k) hit test, (v, inverts)))
        | inr miss ↦ sym one ∙ proper_rows R f m k k miss
      ]

  module _ (x b y w : Plain R)
      (divided : (c j : ℕ) → c < l.cols → R.mul (d c) (w.value c j) ≡ y.value c j)
      (first : IsSolution R t y b) (second : IsSolution R (plain_transpose R t) x w) where
    inner : (c j : ℕ) → c < l.cols
        → sum_below R l.rows (λ k. R.mul (l.value k c) (x.value k j)) ≡ w.value c j
    inner c j lt = sum_below-same R l.rows _ (λ k. R.mul (t.value k c) (x.value k j))
        (λ k _. ap (λ a. R.mul a (x.value k j)) (sym (lower_same k c lt)))
        ∙ ap (λ (a : Plain R). a.value c j) second

    solved_value : (i j : ℕ)
        → (plain_product R (plain_ldl R l d) x).value i j ≡ b.value i j
    solved_value i j =
        sum_below-same R l.rows _
        (λ k. R.mul (sum_below R l.cols (λ c. R.mul (R.mul (l.value i c) (d c)) (l.value k c)))
        (x.value k j)) (λ k _. ap (λ a. R.mul a (x.value k j)) (ldl-value R l d i k))
        ∙ product_assoc R l.cols l.rows (λ c. R.mul (l.value i c) (d c)) (λ c k. l.value k c)
        (λ k. x.value k j)
        ∙ sum_below-same R l.cols _ (λ c. R.mul (t.value i c) (y.value c j))
        (λ c lt. ap (R.mul (R.mul (l.value i c) (d c))) (inner c j lt)
        ∙ R.laws.mul_assoc (l.value i c) (d c) (w.value c j)
        ∙ ap (R.mul (l.value i c)) (divided c j lt)
        ∙ ap (λ a. R.mul a (y.value c j)) (sym (lower_same i c lt)))
        ∙ ap (λ (a : Plain R). a.value i j) first

  -- solving with L, multiplying by the inverses, and solving with Lᵀ; if a solve returns an error,
  -- all elements are equal
  pub solved : {E : Type 0} (r u : Result (Unit {0}) E) {es : List T} (x b : Dense T)
      {y w : Dense T} → f z ≡ R.zero → AreInverses R f z s.d es → b.nrows ≡ m.pattern.minor_dim
      → y.nrows ≡ b.nrows → x.ncols ≡ b.ncols → AreScaledBelow R f z y.ncols es y w
      → OnOk r (IsSolution R t (plain_of_dense R f y) (plain_of_dense R f b))
      → OnOk u (IsSolution R (plain_transpose R t) (plain_of_dense R f x) (plain_of_dense R f w))
      → (IsErr r → IsSingular R f t) → (IsErr u → IsSingular R f t)
      → IsSolution R (plain_of_factors R f z s) (plain_of_dense R f x) (plain_of_dense R f b)
  solved r u x b {y} {w} zero inverses rows kept cols scaled first second e1 e2 =
      let divided = λ (c j : ℕ) (lt : c < l.cols). plain_divided zero inverses scaled c j
      (omega (arith, lt, kept, rows, factors.lower.square))
      (omega (arith, lt, factors.lower.square, factors.count)) in
      same_plain _ (plain_of_dense R f b) (sym rows) cols
      (λ i j. ap (λ n. nat_lt i n && nat_lt j x.ncols) (sym rows)
      ∙ ap (λ n. nat_lt i b.nrows && nat_lt j n) cols)
      (λ i j. elim (ok_or r first e1) [
        | inl forward ↦ elim (ok_or u second e2) [
          | inl backward ↦ solved_value (plain_of_dense R f x) (plain_of_dense R f b)
              (plain_of_dense R f y) (plain_of_dense R f w) divided forward backward i j
          | inr none ↦ trivial R (singular_trivial none) _ _
        ]
        | inr none ↦ trivial R (singular_trivial none) _ _
      ])
