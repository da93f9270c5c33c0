-- A system over ring elements is solved or tested exactly if that over their integers is.
use Rattle.std.proofs.Common.{◌≡◌, ◌⊎◌, ◌↔◌, ℕ, ℤ, Bool, true, List, [], ◌∷◌, Option, Some, None}
use Rattle.std.proofs.Common.{inl, inr, Ok, Err, Result, subst, refl, sym, ap, ◌∙◌}
use Rattle.std.specs.Prelude.{◌==◌}
use Rattle.std.specs.List.{list_any}
use Rattle.std.proofs.lemmas.Bool.{cases_eq, eqb-true, or_cases}
use Rattle.sparse_algebra.specs.Algebra.{CommRing}
use Rattle.sparse_algebra.specs.Plain.{Plain, plain_product}
use Rattle.sparse_coo_dense.specs.Coo.{Coo}
use Rattle.sparse_coo_dense.specs.CooPlain.{plain_of_coo}
use Rattle.sparse_dense_ops.specs.Solutions.{HasSameValues}
use Rattle.mtxkit_matrices.specs.Coordinates.{dimensions_of}
use Rattle.mtxkit_matrices.specs.Differences.{IsFirstDifference, IsFirstAsymmetry}
use Rattle.mtxkit_matrices.specs.Pivots.{IsSingularPivot}
use Rattle.mtxkit_matrices.specs.Systems.{IsEquation, IsNoSolution, IsSystem, IsUnsolvable}
use Rattle.mtxkit_matrices.specs.Values.{IsSymmetricMatrix}
use Rattle.mtxkit_matrices.specs.declared.orders.EliminationOrder.{EliminationOrder}
use Rattle.mtxkit_matrices.specs.declared.solutions.CheckError.{CheckError}
use Rattle.mtxkit_matrices.specs.declared.solutions.CheckError.TheVariants as check
use Rattle.mtxkit_matrices.specs.declared.systems.SystemError.{SystemError}
use Rattle.mtxkit_matrices.specs.declared.systems.SystemError.TheVariants as system
use Rattle.mtxkit_texts.specs.declared.failure.Failure.{Failure}
use Rattle.mtxkit_texts.specs.declared.failure.Failure.TheVariants.{Modulus}
use Rattle.mtxkit_eval.specs.Moduli.{IsNoneOf, moduli}
use Rattle.mtxkit_eval.specs.Rings.{ring_of, reduced_by, ring_value}
use Rattle.mtxkit_systems.specs.SystemErrors.{check_fault, system_fault}
use Rattle.mtxkit_systems.specs.Systems.{plain_of_integers, IsSolved, IsTested}
use Rattle.mtxkit_systems.specs.Systems.{IsListed, IsSolvedBy, IsTestedBy}

-- ---- shapes fit or do not fit

either_system : {S T : Type 0} (a : Coo S) (b : Coo T) → IsSystem a b ⊎ (IsSystem a b → ⊥)
either_system a b = elim (cases_eq a.ncols a.nrows) [
  | inl square ↦ elim (cases_eq b.nrows a.nrows) [
    | inl rows ↦ inl (record { square = square; rows = rows })
    | inr apart ↦ inr (λ s. apart s.rows)
  ]
  | inr apart ↦ inr (λ s. apart s.square)
]

either_equation : {S T U : Type 0} (a : Coo S) (x : Coo T) (b : Coo U)
    → IsEquation a x b ⊎ (IsEquation a x b → ⊥)
either_equation a x b = elim (cases_eq a.ncols x.nrows) [
  | inl inner ↦ elim (cases_eq a.nrows b.nrows) [
    | inl rows ↦ elim (cases_eq x.ncols b.ncols) [
      | inl cols ↦ inl (record { inner = inner; rows = rows; cols = cols })
      | inr apart ↦ inr (λ s. apart s.cols)
    ]
    | inr apart ↦ inr (λ s. apart s.rows)
  ]
  | inr apart ↦ inr (λ s. apart s.inner)
]

module _ {X E : Type 0} (shapes : E) where
  -- the result is this error exactly if the shapes do not fit
  abbrev pub SaysShapes : Result X E → Type 0 → Type 0
  SaysShapes result Fits = (result ≡ Err shapes) ↔ (Fits → ⊥)

  fits_at : (result : Result X E) (Fits : Type 0) → Fits ⊎ (Fits → ⊥) → SaysShapes result Fits
      → (result ≡ Err shapes → ⊥) → Fits
  fits_at result Fits (inl fits) says apart = fits
  fits_at result Fits (inr not) says apart = absurd (apart (says.1 not))

  module _ {S T : Type 0} (a : Coo S) (b : Coo T) where
    pub system_at_ok : (x : X) → SaysShapes (Ok x) (IsSystem a b) → IsSystem a b
    system_at_ok x says = fits_at (Ok x) (IsSystem a b) (either_system a b) says (λ e. cc)

    pub system_at_err : (error : E) → SaysShapes (Err error) (IsSystem a b)
        → (error ≡ shapes → ⊥) → IsSystem a b
    system_at_err error says apart =
        fits_at (Err error) (IsSystem a b) (either_system a b) says (λ e. apart (cc))

  module _ {S T U : Type 0} (a : Coo S) (x : Coo T) (b : Coo U) where
    pub equation_at_ok : (y : X) → SaysShapes (Ok y) (IsEquation a x b) → IsEquation a x b
    equation_at_ok y says =
        fits_at (Ok y) (IsEquation a x b) (either_equation a x b) says (λ e. cc)

    pub equation_at_err : (error : E) → SaysShapes (Err error) (IsEquation a x b)
        → (error ≡ shapes → ⊥) → IsEquation a x b
    equation_at_err error says apart =
        fits_at (Err error) (IsEquation a x b) (either_equation a x b) says (λ e. apart (cc))

module _ (R : CommRing) where
  -- the values of a product do not change if its operands are replaced by equal ones
  pub product-same : (a a' x x' b b' : Plain R) → a ≡ a' → x ≡ x' → b ≡ b'
      → HasSameValues R b.rows b.cols (plain_product R a x) b
      → HasSameValues R b'.rows b'.cols (plain_product R a' x') b'
  product-same a a' x x' b b' ea ex eb same =
      subst (λ (p : Plain R). HasSameValues R p.rows p.cols (plain_product R a' x') p) eb
      (subst (λ (p : Plain R). HasSameValues R b.rows b.cols (plain_product R a' p) b) ex
      (subst (λ (p : Plain R). HasSameValues R b.rows b.cols (plain_product R p x) b) ea same))

  -- nor does its first difference from a matrix
  difference-same : (a a' x x' b b' : Plain R) → a ≡ a' → x ≡ x' → b ≡ b' → (row col : ℕ)
      → IsFirstDifference R b.rows b.cols (plain_product R a x) b row col
      → IsFirstDifference R b'.rows b'.cols (plain_product R a' x') b' row col
  difference-same a a' x x' b b' ea ex eb row col first =
      subst (λ (p : Plain R). IsFirstDifference R p.rows p.cols (plain_product R a' x') p row col) eb
      (subst (λ (p : Plain R). IsFirstDifference R b.rows b.cols (plain_product R a' p) b row col) ex
      (subst (λ (p : Plain R). IsFirstDifference R b.rows b.cols (plain_product R p x) b row col) ea
      first))

  -- lists of elements and of integers with the same plain matrices have the same shapes
  module _ {T : Type 0} (f : T → R.Carrier) (a b : Coo T) (a' b' : Coo ℤ)
      (same_a : plain_of_coo R f a ≡ plain_of_integers R a')
      (same_b : plain_of_coo R f b ≡ plain_of_integers R b') where
    pub system-same : IsSystem a b → IsSystem a' b'
    system-same s =
        let rows = ap (λ (p : Plain R). p.rows) same_a in
        record {
          square = sym (ap (λ (p : Plain R). p.cols) same_a) ∙ s.square ∙ rows;
          rows = sym (ap (λ (p : Plain R). p.rows) same_b) ∙ s.rows ∙ rows;
        }

    system-back : IsSystem a' b' → IsSystem a b
    system-back s =
        let rows = ap (λ (p : Plain R). p.rows) same_a in
        record {
          square = ap (λ (p : Plain R). p.cols) same_a ∙ s.square ∙ sym rows;
          rows = ap (λ (p : Plain R). p.rows) same_b ∙ s.rows ∙ sym rows;
        }

    pub refused : {X : Type 0} (m : Option ℕ) (order : EliminationOrder) (error : SystemError)
        → SaysShapes {X = X} system.Shapes (Err error) (IsSystem a b)
        → IsUnsolvable R f order (plain_of_coo R f a) error
        → IsSolved R f (λ z. z) m order a' b'
        (Err (system_fault m (dimensions_of a') (dimensions_of b') error))
    refused m order system.Shapes says why = (λ s. says.0 refl (system-back s), refl, refl)
    refused m order (system.NotSymmetric at) says why = (
      system-same (system_at_err system.Shapes a b (system.NotSymmetric at) says (λ e. cc)),
      subst (λ (q : Plain R). IsFirstAsymmetry R q at.row at.col) same_a why,
    )
    refused m order (system.NoFactors pivot) says why = (
      system-same (system_at_err system.Shapes a b (system.NoFactors pivot) says (λ e. cc)),
      refl,
      subst (IsSymmetricMatrix R) same_a why.0,
      subst (λ (q : Plain R). IsSingularPivot R f order q pivot) same_a why.1,
    )
    refused m order system.OutOfMemory says why = tt

    module _ (x : Coo T) (x' : Coo ℤ) (same_x : plain_of_coo R f x ≡ plain_of_integers R x') where
      pub equation-same : IsEquation a x b → IsEquation a' x' b'
      equation-same s = record {
        inner = sym (ap (λ (p : Plain R). p.cols) same_a) ∙ s.inner
            ∙ ap (λ (p : Plain R). p.rows) same_x;
        rows = sym (ap (λ (p : Plain R). p.rows) same_a) ∙ s.rows
            ∙ ap (λ (p : Plain R). p.rows) same_b;
        cols = sym (ap (λ (p : Plain R). p.cols) same_x) ∙ s.cols
            ∙ ap (λ (p : Plain R). p.cols) same_b;
      }

      equation-back : IsEquation a' x' b' → IsEquation a x b
      equation-back s = record {
        inner = ap (λ (p : Plain R). p.cols) same_a ∙ s.inner
            ∙ sym (ap (λ (p : Plain R). p.rows) same_x);
        rows = ap (λ (p : Plain R). p.rows) same_a ∙ s.rows
            ∙ sym (ap (λ (p : Plain R). p.rows) same_b);
        cols = ap (λ (p : Plain R). p.cols) same_x ∙ s.cols
            ∙ sym (ap (λ (p : Plain R). p.cols) same_b);
      }

      pub untested : {X : Type 0} (error : CheckError)
          → SaysShapes {X = X} check.Shapes (Err error) (IsEquation a x b)
          → IsNoSolution R b.nrows b.ncols
          (plain_product R (plain_of_coo R f a) (plain_of_coo R f x)) (plain_of_coo R f b) error
          → IsTested R a' x' b'
          (Err (check_fault (dimensions_of a') (dimensions_of x') (dimensions_of b') error))
      untested check.Shapes says why = (λ s. says.0 refl (equation-back s), refl, refl, refl)
      untested (check.NotSolution at) says why = (
        equation-same (equation_at_err check.Shapes a x b (check.NotSolution at) says (λ e. cc)),
        difference-same (plain_of_coo R f a) (plain_of_integers R a') (plain_of_coo R f x)
            (plain_of_integers R x') (plain_of_coo R f b) (plain_of_integers R b') same_a same_x
            same_b at.row at.col why,
      )
      untested check.OutOfMemory says why = tt

-- ---- from the ring of a modulus to the modulus

-- the number is one of the list
abbrev pub is_among : List ℕ → ℕ → Bool
is_among ks n = list_any (λ k. n == k) ks

among_some : (ks : List ℕ) (n : ℕ) → is_among ks n ≡ true → IsNoneOf ks n → ⊥
among_some [] n e none = cc
among_some (k ∷ ks) n e none = elim (or_cases (n == k) (is_among ks n) e) [
  | inl same ↦ none.0 (eqb-true n k same)
  | inr more ↦ among_some ks n more none.1
]

-- no modulus is given, or one of the list
abbrev pub is_listed : Option ℕ → Bool
is_listed None = true
is_listed (Some m) = is_among moduli m

pub listed : (m : Option ℕ) → is_listed m ≡ true → IsListed m
listed None e unlisted = unlisted
listed (Some m) e unlisted = among_some moduli m e unlisted

pub solved_by : (m : Option ℕ) (order : EliminationOrder) (a b : Coo ℤ)
    (solved : Result (Coo ℤ) Failure) → is_listed m ≡ true
    → IsSolved (ring_of m) (ring_value m) (reduced_by m) m order a b solved
    → IsSolvedBy m order a b solved
solved_by m order a b (Ok x) e is = (listed m e, is)
solved_by m order a b (Err Modulus) e is = absurd is
solved_by m order a b (Err failure) e is = (listed m e, is)

pub tested_by : (m : Option ℕ) (a x b : Coo ℤ) (tested : Result (Unit {0}) Failure)
    → is_listed m ≡ true → IsTested (ring_of m) a x b tested → IsTestedBy m a x b tested
tested_by m a x b (Ok done) e is = (listed m e, is.0, is.1)
tested_by m a x b (Err Modulus) e is = absurd is
tested_by m a x b (Err failure) e is = (listed m e, is)
