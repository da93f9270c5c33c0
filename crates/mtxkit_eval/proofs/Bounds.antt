-- The values of an expression are within its extent.
use Rattle.std.proofs.Common.{◌≡◌, ℕ, zero, suc, ◌+◌, ◌*◌, ◌≤◌, ℤ, Bool, true, false}
use Rattle.std.proofs.Common.{List, [], ◌∷◌, All, map, Result, Ok, Err, subst, arith}
use Rattle.std.specs.Prelude.{◌+ℤ◌, ◌*ℤ◌, neg_ℤ, unsigned_abs, slice_get, nat_eq, if◌then◌else◌}
use Rattle.std.proofs.Math.Nat.{mul-le-mul_left}
use Rattle.std.proofs.lemmas.Int.{ints, unsigned_abs-mul}
use Rattle.std.proofs.lemmas.List.Elements.{All-head, All-tail}
use Rattle.sparse_algebra.specs.Plain.{Plain, plain_sum, plain_product, plain_transpose, plain_negation}
use Rattle.sparse_algebra.specs.Sums.{sum_below}
use Rattle.sparse_algebra.specs.Whole.{whole_ring}
use Rattle.mtxkit_eval.specs.Extents.{IsWithin, extent_of, extent_at, found_extent, sum_extent}
use Rattle.mtxkit_eval.specs.Extents.{product_extent, transposed_extent}
use Rattle.sparse_expr.specs.Value.{both, one, found, input_at, sum_of, difference_of, product_of, value_of, same_sizes}
use Rattle.sparse_expr.specs.declared.expr.Expr.{Expr}
use Rattle.sparse_expr.specs.declared.expr.Expr.TheVariants as tree
use Rattle.sparse_expr.specs.declared.error.ExprError.{ExprError}
use Rattle.sparse_expr.specs.declared.error.ExprError.TheVariants.{Shape}
use Rattle.mtxkit_eval.specs.declared.extents.Extent.{Extent}

abs-add : (a b : ℤ) → unsigned_abs (a +ℤ b) ≤ unsigned_abs a + unsigned_abs b
abs-add a b = omega (arith, ints)

abs-neg : (a : ℤ) → unsigned_abs (neg_ℤ a) ≡ unsigned_abs a
abs-neg a = omega (arith, ints)

abs-mul : (a b : ℤ) (m n : ℕ) → unsigned_abs a ≤ m → unsigned_abs b ≤ n
    → unsigned_abs (a *ℤ b) ≤ m * n
abs-mul a b m n p q =
    let left = mul-le-mul_left (unsigned_abs a) q in
    let right = mul-le-mul_left n p in
    omega (arith, unsigned_abs-mul a b, left, right)

abs-sum : (n bound : ℕ) (f : ℕ → ℤ) → ((k : ℕ) → unsigned_abs (f k) ≤ bound)
    → unsigned_abs (sum_below whole_ring n f) ≤ bound * n
abs-sum zero bound f small = omega arith
abs-sum (suc n) bound f small =
    let rest = abs-sum n bound f small in
    let more = abs-add (sum_below whole_ring n f) (f n) in
    let here = small n in
    omega (arith, more, rest, here)

-- ---- operations

within-sum : (a b : Extent) (x y : Plain whole_ring) → IsWithin a x → IsWithin b y
    → IsWithin (sum_extent a b) (plain_sum whole_ring x y)
within-sum a b x y p q = record {
  rows = p.rows;
  cols = p.cols;
  values = λ i j.
      let h = p.values i j in
      let k = q.values i j in
      omega (arith, abs-add (x.value i j) (y.value i j), h, k);
}

within-negation : (a : Extent) (x : Plain whole_ring) → IsWithin a x
    → IsWithin a (plain_negation whole_ring x)
within-negation a x p = record {
  rows = p.rows;
  cols = p.cols;
  values = λ i j. let h = p.values i j in omega (arith, abs-neg (x.value i j), h);
}

within-product : (a b : Extent) (x y : Plain whole_ring) → IsWithin a x → IsWithin b y
    → IsWithin (product_extent a b) (plain_product whole_ring x y)
within-product a b x y p q = record {
  rows = p.rows;
  cols = q.cols;
  values = λ i j. subst (λ n. unsigned_abs (sum_below whole_ring x.cols
      (λ k. x.value i k *ℤ y.value k j)) ≤ (a.largest * b.largest) * n) p.cols
      (abs-sum x.cols (a.largest * b.largest) (λ k. x.value i k *ℤ y.value k j)
      (λ k. abs-mul (x.value i k) (y.value k j) a.largest b.largest (p.values i k) (q.values k j)));
}

within-transpose : (a : Extent) (x : Plain whole_ring) → IsWithin a x
    → IsWithin (transposed_extent a) (plain_transpose whole_ring x)
within-transpose a x p = record { rows = p.cols; cols = p.rows; values = λ i j. p.values j i }

-- ---- results

-- the value, if there is one, is within the extent
abbrev Holds : Extent → Result (Plain whole_ring) ExprError → Type 0
Holds a (Ok z) = IsWithin a z
Holds a (Err e) = Unit {0}

holds-tested : (b : Bool) (a : Extent) (z : Plain whole_ring) → IsWithin a z
    → Holds a (if b then Ok z else Err Shape)
holds-tested true a z p = p
holds-tested false a z p = tt

holds-both : (make : Plain whole_ring → Plain whole_ring → Result (Plain whole_ring) ExprError)
    (a b c : Extent)
    → ((x y : Plain whole_ring) → IsWithin a x → IsWithin b y → Holds c (make x y))
    → (r s : Result (Plain whole_ring) ExprError) → Holds a r → Holds b s
    → Holds c (both whole_ring make r s)
holds-both make a b c step (Err e) s p q = tt
holds-both make a b c step (Ok x) (Err e) p q = tt
holds-both make a b c step (Ok x) (Ok y) p q = step x y p q

holds-one : (make : Plain whole_ring → Plain whole_ring) (a c : Extent)
    → ((x : Plain whole_ring) → IsWithin a x → IsWithin c (make x))
    → (r : Result (Plain whole_ring) ExprError) → Holds a r → Holds c (one whole_ring make r)
holds-one make a c step (Err e) p = tt
holds-one make a c step (Ok x) p = step x p

-- inputs, each within its extent
module _ {M : Type 0} (plain : M → Plain whole_ring) (size : M → Extent) where
  holds-found : (ms : List M) (n : ℕ) → All (λ m. IsWithin (size m) (plain m)) ms
      → Holds (found_extent (slice_get (map size ms) n)) (found whole_ring (slice_get (map plain ms) n))
  holds-found [] n all = tt
  holds-found (m ∷ ms) zero all = All-head (λ m. IsWithin (size m) (plain m)) m ms all
  holds-found (m ∷ ms) (suc n) all =
      holds-found ms n (All-tail (λ m. IsWithin (size m) (plain m)) m ms all)

  holds-input : (ms : List M) (n : ℕ) → All (λ m. IsWithin (size m) (plain m)) ms
      → Holds (extent_at (map size ms) n) (input_at whole_ring (map plain ms) n)
  holds-input ms zero all = tt
  holds-input ms (suc n) all = holds-found ms n all

  pub holds : (ms : List M) (expr : Expr) → All (λ m. IsWithin (size m) (plain m)) ms
      → Holds (extent_of (map size ms) expr) (value_of whole_ring (map plain ms) expr)
  holds ms (tree.Input n) all = holds-input ms n all
  holds ms (tree.Add' p a q b) all =
      holds-both (sum_of whole_ring) _ _ _
      (λ x y h k. holds-tested (same_sizes whole_ring x y) _ _ (within-sum _ _ x y h k))
      (value_of whole_ring (map plain ms) a) (value_of whole_ring (map plain ms) b)
      (holds ms a all) (holds ms b all)
  holds ms (tree.Sub' p a q b) all =
      holds-both (difference_of whole_ring) _ _ _
      (λ x y h k. holds-tested (same_sizes whole_ring x y) _ _
      (within-sum _ _ x (plain_negation whole_ring y) h (within-negation _ y k)))
      (value_of whole_ring (map plain ms) a) (value_of whole_ring (map plain ms) b)
      (holds ms a all) (holds ms b all)
  holds ms (tree.Mul' p a q b) all =
      holds-both (product_of whole_ring) _ _ _
      (λ x y h k. holds-tested (nat_eq x.cols y.rows) _ _ (within-product _ _ x y h k))
      (value_of whole_ring (map plain ms) a) (value_of whole_ring (map plain ms) b)
      (holds ms a all) (holds ms b all)
  holds ms (tree.Transpose' p a) all =
      holds-one (plain_transpose whole_ring) _ _ (within-transpose _)
      (value_of whole_ring (map plain ms) a) (holds ms a all)
  holds ms (tree.Neg' p a) all =
      holds-one (plain_negation whole_ring) _ _ (within-negation _)
      (value_of whole_ring (map plain ms) a) (holds ms a all)

  pub value-within : (ms : List M) (expr : Expr) (z : Plain whole_ring)
      → All (λ m. IsWithin (size m) (plain m)) ms
      → value_of whole_ring (map plain ms) expr ≡ Ok z
      → IsWithin (extent_of (map size ms) expr) z
  value-within ms expr z all is = subst (Holds (extent_of (map size ms) expr)) is (holds ms expr all)
