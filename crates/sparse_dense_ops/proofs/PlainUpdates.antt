-- An updated dense matrix, as a plain matrix.
use denote.Ref.{Bor}
use Rattle.std.proofs.Common.{◌≡◌, ℕ, ◌+◌, ◌*◌, inl, inr, Bool, true, false, ◌&&◌, List}
use Rattle.std.proofs.Common.{length, get_or, ap, sym, ◌∙◌, refl}
use Rattle.std.proofs.Common.{arith}
use Rattle.std.specs.Prelude.{nat_lt}
use Rattle.sparse_algebra.proofs.Cases.{true_or_false}
use Rattle.sparse_algebra.specs.Algebra.{CommRing}
use Rattle.sparse_algebra.specs.Plain.{Plain, IsProper, IsWithin, plain_product}
use Rattle.sparse_algebra.proofs.RingLemmas.{mul_zero, zero_add}
use Rattle.sparse_algebra.proofs.PlainLemmas.{proper_product, same_plain}
use Rattle.sparse_algebra.proofs.PlainLaws.{proper_transpose, within_product, within_transpose}
use Rattle.sparse_algebra.specs.declared.operand.Op.{Op}
use Rattle.sparse_algebra.specs.declared.operand.Op.TheVariants.{NoOp, Transpose}
use Rattle.sparse_algebra.specs.Prealloc.{plain_update}
use Rattle.sparse_coo_dense.specs.Dense.{Dense, with_values}
use Rattle.sparse_coo_dense.specs.DensePlain.{is_inside, plain_full, plain_of_dense}
use Rattle.sparse_compressed.specs.Compressed.{Compressed, IsSound}
use Rattle.sparse_compressed.specs.PlainOfLanes.{plain_of_rows}
use Rattle.sparse_compressed.proofs.Arrays.{proper_rows}
use Rattle.sparse_dense_ops.specs.DenseOperands.{op_dense}
use Rattle.sparse_dense_ops.proofs.DenseValues.{dense_inside, dense_proper, dense_within}
use Rattle.sparse_dense_ops.proofs.DenseValues.{inside_both, inside_parts, miss, rows_within}
use Rattle.sparse_dense_ops.proofs.Refills.{refill_whole}
use Rattle.sparse_dense_ops.specs.InnerUpdates.{AreUpdated, updated}
use Rattle.sparse_dense_ops.proofs.ColumnBlocks.{column_at-entry, length-column_at}
use Rattle.sparse_algebra.specs.Prealloc.{plain_transpose_if}

module _ (R : CommRing) {T : Type 0} (f : T → R.Carrier) where
  op_proper : (b : Op (Bor (Dense T))) → IsProper (op_dense R f b)
  op_proper (NoOp d) = dense_proper R f d.now
  op_proper (Transpose d) = proper_transpose R (plain_of_dense R f d.now) (dense_proper R f d.now)

  op_within : (b : Op (Bor (Dense T))) → IsWithin (op_dense R f b)
  op_within (NoOp d) = dense_within R f d.now
  op_within (Transpose d) = within_transpose R (plain_of_dense R f d.now) (dense_within R f d.now)

  transposed_proper : (transposed : Bool) (m : Compressed T)
      → IsProper (plain_transpose_if R transposed (plain_of_rows R f m))
  transposed_proper true m = proper_transpose R (plain_of_rows R f m) (proper_rows R f m)
  transposed_proper false m = proper_rows R f m

  transposed_within : (transposed : Bool) (m : Compressed T) → IsSound m
      → IsWithin (plain_transpose_if R transposed (plain_of_rows R f m))
  transposed_within true m sound =
      within_transpose R (plain_of_rows R f m) (rows_within R f m sound)
  transposed_within false m sound = rows_within R f m sound

  -- the product of an operand that may be transposed and op(B)
  module _ (transposed : Bool) (m : Compressed T) (b : Op (Bor (Dense T))) where
    pub operands_proper : IsProper (plain_product R (plain_transpose_if R transposed
        (plain_of_rows R f m)) (op_dense R f b))
    operands_proper =
        proper_product R (plain_transpose_if R transposed (plain_of_rows R f m)) (op_dense R f b)
        (transposed_proper transposed m) (op_proper b)

    pub operands_within : IsSound m → IsWithin (plain_product R (plain_transpose_if R transposed
        (plain_of_rows R f m)) (op_dense R f b))
    operands_within sound =
        within_product R (plain_transpose_if R transposed (plain_of_rows R f m)) (op_dense R f b)
        (transposed_within transposed m sound) (op_within b)

module _ (R : CommRing) {T : Type 0} (f : T → R.Carrier) (z : T) (zero_law : f z ≡ R.zero) where
  module _ (beta alpha : R.Carrier) (d : Dense T) (x : Plain R) (rows : x.rows ≡ d.nrows)
      (cols : x.cols ≡ d.ncols) (proper : IsProper x) (within : IsWithin x) where
    -- nothing is added outside the shape
    off : (i j : ℕ) → is_inside d i j ≡ false → x.value i j ≡ R.zero
    off i j out = proper i j (miss (x.has i j) (λ hit.
        let at = within i j hit in
        let yes = inside_both d i j (omega (arith, at.0, rows)) (omega (arith, at.1, cols)) in
        cc))

    outside : (i j : ℕ) → is_inside d i j ≡ false
        → R.zero ≡ R.add (R.mul beta ((plain_of_dense R f d).value i j)) (R.mul alpha (x.value i j))
    outside i j miss =
        sym (ap (λ c. R.add (R.mul beta c) (R.mul alpha (x.value i j)))
        (dense_proper R f d i j miss)
        ∙ ap (λ c. R.add c (R.mul alpha (x.value i j))) (mul_zero R beta) ∙ zero_add R _
        ∙ ap (R.mul alpha) (off i j miss) ∙ mul_zero R alpha)

    pub updated_plain : (ws : List T) → length d.values ≡ d.ncols * d.nrows
        → AreUpdated R f z beta alpha d.nrows d.ncols x.value d.values ws
        → plain_of_dense R f (with_values d ws) ≡ plain_update R beta (plain_of_dense R f d) alpha x
    updated_plain ws full h = same_plain _ _ refl refl (λ i j. refl) value_same
      where
        e : Dense T
        e = with_values d ws

        value_same : (i j : ℕ) → (plain_of_dense R f e).value i j
            ≡ R.add (R.mul beta ((plain_of_dense R f d).value i j)) (R.mul alpha (x.value i j))
        value_same i j = elim (true_or_false (is_inside d i j)) [
          | inl hit ↦
              let at = inside_parts d i j hit in
              dense_inside R f z zero_law e i j at.0 at.1
              ∙ ap (λ vs. f (get_or vs (j * d.nrows + i) z)) (refill_whole d.values ws h.count)
              ∙ ap f (sym (column_at-entry d.nrows ws i j z at.0))
              ∙ (h.each j at.1).each i
              (omega (arith, at.0, length-column_at d.nrows d.values d.ncols j full at.1))
              ∙ ap (λ v. updated R f beta alpha v (x.value i j))
              (column_at-entry d.nrows d.values i j z at.0)
              ∙ ap (λ c. R.add (R.mul beta c) (R.mul alpha (x.value i j)))
              (sym (dense_inside R f z zero_law d i j at.0 at.1))
          | inr miss ↦ dense_proper R f e i j miss ∙ outside i j miss
        ]

    -- an update of a matrix without rows changes nothing
    pub no_rows : d.nrows ≡ 0 → plain_of_dense R f d ≡ plain_update R beta (plain_of_dense R f d)
        alpha x
    no_rows none = same_plain _ _ refl refl (λ i j. refl)
        (λ i j. elim (true_or_false (is_inside d i j)) [
          | inl hit ↦ absurd (omega (arith, none, (inside_parts d i j hit).0))
          | inr miss ↦ dense_proper R f d i j miss ∙ outside i j miss
        ])

-- an update with beta = 0 and alpha = 1 gives the product
pub update_with_zero_beta : (R : CommRing) {T : Type 0} (f : T → R.Carrier) {beta alpha : R.Carrier}
    (d : Dense T) (x : Plain R) → beta ≡ R.zero → alpha ≡ R.one → d.nrows ≡ x.rows
    → d.ncols ≡ x.cols → plain_update R beta (plain_of_dense R f d) alpha x ≡ plain_full R x
update_with_zero_beta R f {beta} {alpha} d x none unit rows cols =
    same_plain _ _ rows cols has_same value_same
  where
    has_same : (i j : ℕ) → is_inside d i j ≡ (nat_lt i x.rows && nat_lt j x.cols)
    has_same i j = ap (λ n. nat_lt i n && nat_lt j d.ncols) rows
        ∙ ap (λ n. nat_lt i x.rows && nat_lt j n) cols

    value_same : (i j : ℕ)
        → R.add (R.mul beta ((plain_of_dense R f d).value i j)) (R.mul alpha (x.value i j))
        ≡ x.value i j
    value_same i j =
        let c = (plain_of_dense R f d).value i j in
        ap (λ b. R.add (R.mul b c) (R.mul alpha (x.value i j))) none
        ∙ ap (λ v. R.add v (R.mul alpha (x.value i j))) (R.laws.mul_comm R.zero c ∙ mul_zero R c)
        ∙ zero_add R _ ∙ ap (λ a. R.mul a (x.value i j)) unit
        ∙ R.laws.mul_comm R.one (x.value i j) ∙ R.laws.mul_one (x.value i j)
