-- The pivot at which the factorisation of a permuted symmetric matrix stops.
use Rattle.std.proofs.Common.{zero, suc, ◌∷◌, [], length-append}
use Rattle.std.proofs.Common.{◌≡◌, ℕ, ◌<◌, inl, inr, List, length, get_or, sym, subst, ◌∙◌, refl, arith}
use Rattle.std.proofs.lemmas.Bool.{cases_lt}
use Rattle.sparse_algebra.specs.Algebra.{CommRing}
use Rattle.sparse_algebra.specs.Plain.{Plain, below}
use Rattle.sparse_algebra.proofs.SumLemmas.{where_yes}
use Rattle.sparse_factor.specs.Factorisations.{IsFactorisation, plain_symmetric}
use Rattle.sparse_factor.specs.LeadingBlocks.{leading, HasFactorisation, StopsAt}
use Rattle.sparse_permutation.specs.Permutations.{IsOrder}
use Rattle.sparse_permutation.specs.PermutedPlain.{plain_permuted}
use Rattle.sparse_permutation.proofs.Orders.{order_below}
use Rattle.sparse_permutation.proofs.PermutedPlain.{both_below}
use Rattle.mtxkit_matrices.specs.InnerSystems.{IsUnsolvableIn}
use Rattle.mtxkit_matrices.specs.Pivots.{IsOrderBy}
use Rattle.mtxkit_matrices.specs.Systems.{IsUnsolvable}
use Rattle.mtxkit_matrices.specs.Values.{IsSymmetricMatrix}
use Rattle.mtxkit_matrices.specs.declared.orders.EliminationOrder.{EliminationOrder}
use Rattle.mtxkit_matrices.specs.declared.systems.SystemError.{SystemError}
use Rattle.mtxkit_matrices.specs.declared.systems.SystemError.TheVariants.{Shapes, NotSymmetric}
use Rattle.mtxkit_matrices.specs.declared.systems.SystemError.TheVariants.{NoFactors, OutOfMemory}
use Rattle.mtxkit_matrices.proofs.SymmetricSystems.{IsSymmetricBelow, symmetric_is}

pub length_below : (n : ℕ) → length (below n) ≡ n
length_below zero = refl
length_below (suc n) = omega (arith, length-append (below n) (n ∷ []), length_below n)

module _ (R : CommRing) {T : Type 0} (f : T → R.Carrier) where
  -- a factorisation depends only on the values in its rows and columns
  same_factors : (a b : Plain R) (k : ℕ)
      → ((i j : ℕ) → i < k → j < k → a.value i j ≡ b.value i j)
      → HasFactorisation R f (leading R k a) → HasFactorisation R f (leading R k b)
  same_factors a b k same given = (
    given.0,
    given.1,
    record {
      rows = given.2.rows;
      lower = given.2.lower;
      pivots = given.2.pivots;
      equation = λ i j row col. given.2.equation i j row col ∙ same i j row col;
    },
  )

  stops_same : (a b : Plain R) (n : ℕ) → a.rows ≡ b.rows
      → ((i j : ℕ) → i < a.rows → j < a.rows → a.value i j ≡ b.value i j)
      → StopsAt R f a n → StopsAt R f b n
  stops_same a b n rows same stops = record {
    within = omega (arith, stops.within, rows);
    before = λ k few. same_factors a b k
        (λ i j row col. same i j (omega (arith, row, few, stops.within))
        (omega (arith, col, few, stops.within))) (stops.before k few);
    after = λ k more inside given. stops.after k more (omega (arith, inside, rows))
        (same_factors b a k
        (λ i j row col. sym (same i j (omega (arith, row, inside, rows))
        (omega (arith, col, inside, rows)))) given);
  }

  -- a is symmetric and p is an order of its rows
  module _ (a : Plain R) (p : List ℕ) (symmetric : IsSymmetricMatrix R a) (order : IsOrder p)
      (count : length p ≡ a.rows) where
    permuted_value : (c : Plain R) → c.rows ≡ a.rows → c.cols ≡ a.rows → (i j : ℕ) → i < a.rows
        → j < a.rows → (plain_permuted R p c).value i j ≡ c.value (get_or p i 0) (get_or p j 0)
    permuted_value c rows cols i j row col =
        where_yes R _ (c.value (get_or p i 0) (get_or p j 0))
        (both_below i c.rows j c.cols (omega (arith, row, rows)) (omega (arith, col, cols)))

    moved : (i : ℕ) → i < a.rows → get_or p i 0 < a.rows
    moved i row = omega (arith, count, order_below order i (omega (arith, row, count)))

    permuted_symmetric : IsSymmetricBelow R a.rows (plain_permuted R p a)
    permuted_symmetric i j row col =
        permuted_value a refl symmetric.square i j row col
        ∙ symmetric.values (get_or p i 0) (get_or p j 0) (moved i row) (moved j col)
        ∙ sym (permuted_value a refl symmetric.square j i col row)

    -- of a symmetric matrix the upper triangle determines all values, and so it does after the permutation
    upper_is : (i j : ℕ) → i < a.rows → j < a.rows
        → (plain_symmetric R (plain_permuted R p a)).value i j ≡ (plain_permuted R p a).value i j
    upper_is = symmetric_is R a.rows (plain_permuted R p a) permuted_symmetric

    whole_is : (i j : ℕ) → i < a.rows → j < a.rows
        → (plain_permuted R p a).value i j ≡ (plain_permuted R p (plain_symmetric R a)).value i j
    whole_is i j row col =
        permuted_value a refl symmetric.square i j row col
        ∙ sym (symmetric_is R a.rows a symmetric.values (get_or p i 0) (get_or p j 0) (moved i row)
        (moved j col))
        ∙ sym (permuted_value (plain_symmetric R a) refl symmetric.square i j row col)

    module _ (m : Plain R) (is : m ≡ plain_permuted R p a) (n : ℕ)
        (stops : StopsAt R f (plain_symmetric R m) n) where
      -- the leading rows and columns of P a Pᵀ that have factors
      pub stops_permuted : StopsAt R f (plain_permuted R p a) n
      stops_permuted =
          stops_same (plain_symmetric R (plain_permuted R p a)) (plain_permuted R p a) n refl upper_is
          (subst (λ (v : Plain R). StopsAt R f (plain_symmetric R v) n) is stops)

      -- not all of them have factors
      pub stops_inside : ((l : Plain R) (d : ℕ → R.Carrier)
          → IsFactorisation R f (plain_permuted R p (plain_symmetric R a)) l d → ⊥) → n < a.rows
      stops_inside none = elim (cases_lt n a.rows) [
        | inl lt ↦ lt
        | inr le ↦
            let given = same_factors (plain_permuted R p a) (plain_permuted R p (plain_symmetric R a))
            a.rows whole_is (stops_permuted.before a.rows le) in
            absurd (none given.0 given.1 (record {
              rows = given.2.rows;
              lower = given.2.lower;
              pivots = given.2.pivots;
              equation = given.2.equation;
            }))
      ]

module _ (R : CommRing) {T : Type 0} (f : T → R.Carrier) (order : EliminationOrder) (a : Plain R)
    (p : List ℕ) (named : IsOrderBy order a.rows p) (symmetric : IsSymmetricMatrix R a) where
  -- a symmetric system that is not solved in an order that is asked for
  pub unsolvable : (e : SystemError) → IsUnsolvableIn R f p a e → IsUnsolvable R f order a e
  unsolvable Shapes is = tt
  unsolvable (NotSymmetric at) is = absurd is
  unsolvable (NoFactors pivot) is = (symmetric, (p, named, is))
  unsolvable OutOfMemory is = tt
