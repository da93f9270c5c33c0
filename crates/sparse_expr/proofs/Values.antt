-- The value of an expression from its operands' values.
use Rattle.std.proofs.Common.{◌≡◌, ◌<◌, ◌≤◌, ◌-◌, ◌≢◌, ℕ, zero, suc, Bool, true, false, List, []}
use Rattle.std.proofs.Common.{◌∷◌, length, map, get_or, Result, Ok, Err, inl, inr, Some, ap, sym}
use Rattle.std.proofs.Common.{◌∙◌, refl, arith}
use Rattle.std.specs.Prelude.{nat_eq, slice_get}
use Rattle.std.proofs.lemmas.Bool.{cond-true, cond-false, true≢false}
use Rattle.std.proofs.lemmas.Bool.Decides.{Decides-eqb}
use Rattle.sparse_algebra.specs.Algebra.{CommRing}
use Rattle.sparse_algebra.specs.Plain.{Plain, plain_sum, plain_difference, plain_negation}
use Rattle.sparse_algebra.specs.Plain.{plain_product, plain_transpose}
use Rattle.sparse_algebra.proofs.PlainLemmas.{transpose_product}
use Rattle.sparse_compressed.specs.Compressed.{Compressed}
use Rattle.sparse_compressed.specs.PlainOfLanes.{plain_of_rows}
use Rattle.sparse_expr.specs.InnerTransposed.{rows_or_transposed}
use Rattle.sparse_expr.specs.Value.{both, one, Meets, same_sizes, sum_of, difference_of, product_of}
use Rattle.sparse_expr.specs.Value.{input_at, found}
use Rattle.sparse_expr.specs.declared.error.ExprError.{ExprError}
use Rattle.sparse_expr.specs.declared.error.ExprError.TheVariants.{Shape}
use Rattle.sparse_algebra.proofs.Cases.{nat_eq_no, and_both}

module _ (R : CommRing) where
  pub product_met : (x y z : Plain R) → x.cols ≡ y.rows → z ≡ plain_product R x y
      → product_of R x y ≡ Ok z
  product_met x y z fits is =
      cond-true (nat_eq x.cols y.rows) (Ok (plain_product R x y)) _
      ((Decides-eqb x.cols y.rows).1 fits)
      ∙ ap Ok (sym is)

  -- an operation on two operands that have values
  pub both_ok : (make : Plain R → Plain R → Result (Plain R) ExprError)
      → (r s : Result (Plain R) ExprError) (x y : Plain R) → r ≡ Ok x → s ≡ Ok y
      → both R make r s ≡ make x y
  both_ok make r s x y hr hs = ap (λ r. both R make r s) hr ∙ ap (both R make (Ok x)) hs

  sizes_met : (x y : Plain R) → x.rows ≡ y.rows → x.cols ≡ y.cols → same_sizes R x y ≡ true
  sizes_met x y er ec =
      and_both (nat_eq x.rows y.rows) (nat_eq x.cols y.cols) ((Decides-eqb x.rows y.rows).1 er)
      ((Decides-eqb x.cols y.cols).1 ec)

  transposed_product : (a b : Plain R)
      → product_of R (plain_transpose R b) (plain_transpose R a) ≡ one R (plain_transpose R)
      (product_of R a b)
  transposed_product a b = by_test (nat_eq a.cols b.rows) refl
    where
      by_test : (fits : Bool) → nat_eq a.cols b.rows ≡ fits
          → product_of R (plain_transpose R b) (plain_transpose R a) ≡ one R (plain_transpose R)
          (product_of R a b)
      by_test true h =
          let e = (Decides-eqb a.cols b.rows).0 h in
          cond-true (nat_eq b.rows a.cols)
          (Ok (plain_product R (plain_transpose R b) (plain_transpose R a))) _
          ((Decides-eqb b.rows a.cols).1 (sym e))
          ∙ ap Ok (sym (transpose_product R a b e))
          ∙ sym (ap (one R (plain_transpose R)) (cond-true (nat_eq a.cols b.rows)
          (Ok (plain_product R a b)) _ h))
      by_test false h =
          cond-false (nat_eq b.rows a.cols) _ (Err Shape)
          (nat_eq_no b.rows a.cols
          (λ e. true≢false (sym ((Decides-eqb a.cols b.rows).1 (sym e)) ∙ h)))
          ∙ sym (ap (one R (plain_transpose R)) (cond-false (nat_eq a.cols b.rows) _ (Err Shape) h))

  module _ {T : Type 0} (f : T → R.Carrier) where
    pub sum_met : (transposed : Bool) (x y z : Compressed T)
        → x.pattern.major_dim ≡ y.pattern.major_dim → x.pattern.minor_dim ≡ y.pattern.minor_dim
        → plain_of_rows R f z ≡ plain_sum R (plain_of_rows R f x) (plain_of_rows R f y)
        → sum_of R (rows_or_transposed R f transposed x) (rows_or_transposed R f transposed y)
        ≡ Ok (rows_or_transposed R f transposed z)
    sum_met true x y z er ec is =
        cond-true _ (Ok (plain_sum R (plain_transpose R (plain_of_rows R f x))
        (plain_transpose R (plain_of_rows R f y)))) _
        (sizes_met (plain_transpose R (plain_of_rows R f x))
        (plain_transpose R (plain_of_rows R f y)) ec er)
        ∙ ap (λ a. Ok (plain_transpose R a)) (sym is)
    sum_met false x y z er ec is =
        cond-true _ (Ok (plain_sum R (plain_of_rows R f x) (plain_of_rows R f y))) _
        (sizes_met (plain_of_rows R f x) (plain_of_rows R f y) er ec) ∙ ap Ok (sym is)

    pub difference_met : (transposed : Bool) (x y z : Compressed T)
        → x.pattern.major_dim ≡ y.pattern.major_dim → x.pattern.minor_dim ≡ y.pattern.minor_dim
        → plain_of_rows R f z ≡ plain_difference R (plain_of_rows R f x) (plain_of_rows R f y)
        → difference_of R (rows_or_transposed R f transposed x) (rows_or_transposed R f transposed y)
        ≡ Ok (rows_or_transposed R f transposed z)
    difference_met true x y z er ec is =
        cond-true _ (Ok (plain_difference R (plain_transpose R (plain_of_rows R f x))
        (plain_transpose R (plain_of_rows R f y)))) _
        (sizes_met (plain_transpose R (plain_of_rows R f x))
        (plain_transpose R (plain_of_rows R f y)) ec er)
        ∙ ap (λ a. Ok (plain_transpose R a)) (sym is)
    difference_met false x y z er ec is =
        cond-true _ (Ok (plain_difference R (plain_of_rows R f x) (plain_of_rows R f y))) _
        (sizes_met (plain_of_rows R f x) (plain_of_rows R f y) er ec) ∙ ap Ok (sym is)

    pub negation_met : (transposed : Bool) (x z : Compressed T)
        → plain_of_rows R f z ≡ plain_negation R (plain_of_rows R f x)
        → plain_negation R (rows_or_transposed R f transposed x) ≡ rows_or_transposed R f transposed z
    negation_met true x z is = ap (plain_transpose R) (sym is)
    negation_met false x z is = sym is

    -- a product of transposes is the transpose of the product in reverse order
    pub product_transposed : {M : Type 0} (g : M → Compressed T) (x y : Compressed T)
        (r : Result M ExprError)
        → Meets R (λ m. plain_of_rows R f (g m))
        (product_of R (plain_of_rows R f y) (plain_of_rows R f x)) r
        → Meets R (λ m. rows_or_transposed R f true (g m))
        (product_of R (rows_or_transposed R f true x) (rows_or_transposed R f true y)) r
    product_transposed g x y (Ok z) met =
        transposed_product (plain_of_rows R f y) (plain_of_rows R f x)
        ∙ ap (one R (plain_transpose R)) met
    product_transposed g x y (Err e) met = elim met [
      | inl memory ↦ inl memory
      | inr refused ↦ inr (transposed_product (plain_of_rows R f y) (plain_of_rows R f x)
          ∙ ap (one R (plain_transpose R)) refused)
    ]

  pub input_met : {X : Type 0} (plain : X → Plain R) (inputs : List X) (n : ℕ) (x : X) (z : Plain R)
      → n ≢ 0 → n ≤ length inputs → x ≡ get_or inputs (n - 1) x → z ≡ plain x
      → input_at R (map plain inputs) n ≡ Ok z
  input_met plain inputs zero x z some le at is = absurd (some refl)
  input_met {X} plain inputs (suc n) x z some le at is =
      ap (found R) (here inputs n x (omega arith) (at ∙ ap (λ k. get_or inputs k x) less))
      ∙ ap Ok (sym is)
    where
      less : suc n - 1 ≡ n
      less = omega arith

      here : (xs : List X) (k : ℕ) (x : X) → k < length xs → x ≡ get_or xs k x
          → slice_get (map plain xs) k ≡ Some (plain x)
      here [] k x lt at = absurd (omega arith)
      here (y ∷ ys) zero x lt at = ap (λ w. Some (plain w)) (sym at)
      here (y ∷ ys) (suc k) x lt at = here ys k x (omega arith) at
