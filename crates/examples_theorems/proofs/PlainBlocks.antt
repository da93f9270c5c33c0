-- Blocks of rows and columns of sums and products, and blocks stacked again.
use Rattle.std.proofs.Common.{◌≡◌, ℕ, zero, suc, ◌+◌, ◌-◌, ◌<◌}
use Rattle.std.proofs.Common.{◌≤◌, inl, inr, Bool, true, false, ◌&&◌}
use Rattle.std.proofs.Common.{List, [], ◌∷◌, if◌then◌else◌, ap, sym, ◌∙◌, refl, arith}
use Rattle.std.specs.Prelude.{◌||◌, nat_lt}
use Rattle.std.proofs.Math.Bool.{and-false, and-or_distrib_left}
use Rattle.std.proofs.lemmas.Bool.{cases_Bool}
use Rattle.std.proofs.lemmas.Bool.Decides.{nat_tests}
use Rattle.nalgebra_sparse.specs.Algebra.{CommRing}
use Rattle.nalgebra_sparse.specs.Plain.{Plain, IsProper, IsWithin}
use Rattle.nalgebra_sparse.specs.Plain.{any_below, plain_product, plain_sum}
use Rattle.nalgebra_sparse.specs.RingLemmas.{mul_zero}
use Rattle.nalgebra_sparse.specs.SumLemmas.{sum_below-same, sum_below-zero}
use Rattle.nalgebra_sparse.specs.Sums.{sum_below, where_true}
use Rattle.examples_theorems.specs.OnlySolutions.{Solves}
use Rattle.examples_theorems.specs.RowBlocks.{total_size, row_block, col_block}
use Rattle.examples_theorems.specs.RowBlocks.{row_blocks, above, stacked}

-- ---- tests

pub same_bool : (b c : Bool) → (b ≡ true → c ≡ true) → (c ≡ true → b ≡ true) → b ≡ c
same_bool true c h g = sym (h refl)
same_bool false true h g = g refl
same_bool false false h g = refl

any_below-none : (n : ℕ) → any_below n (λ k. false) ≡ false
any_below-none zero = refl
any_below-none (suc n) = ap (λ b. b || false) (any_below-none n)

any_below-same : (n : ℕ) (s t : ℕ → Bool) → ((k : ℕ) → s k ≡ t k) → any_below n s ≡ any_below n t
any_below-same zero s t h = refl
any_below-same (suc n) s t h = ap (λ b. b || s n) (any_below-same n s t h)
    ∙ ap (λ b. any_below n t || b) (h n)

-- a condition that does not depend on k is moved out of a test of all k
any_below-first : (b : Bool) (n : ℕ) (s t : ℕ → Bool)
    → any_below n (λ k. (b && s k) && t k) ≡ (b && any_below n (λ k. s k && t k))
any_below-first true n s t = refl
any_below-first false n s t = any_below-none n

any_below-second : (b : Bool) (n : ℕ) (s t : ℕ → Bool)
    → any_below n (λ k. s k && (b && t k)) ≡ (b && any_below n (λ k. s k && t k))
any_below-second true n s t = refl
any_below-second false n s t =
    any_below-same n (λ k. s k && false) (λ k. false) (λ k. and-false (s k)) ∙ any_below-none n

module _ (R : CommRing) where
  pub where_true-add : (b : Bool) (x y : R.Carrier)
      → R.add (where_true R b x) (where_true R b y) ≡ where_true R b (R.add x y)
  where_true-add true x y = refl
  where_true-add false x y = R.laws.add_zero R.zero

  where_true-first : (b : Bool) (n : ℕ) (f g : ℕ → R.Carrier)
      → sum_below R n (λ k. R.mul (where_true R b (f k)) (g k)) ≡ where_true R b
      (sum_below R n (λ k. R.mul (f k) (g k)))
  where_true-first true n f g = refl
  where_true-first false n f g =
      sum_below-same R n (λ k. R.mul R.zero (g k)) (λ k. R.zero)
      (λ k _. R.laws.mul_comm R.zero (g k) ∙ mul_zero R (g k)) ∙ sum_below-zero R n

  where_true-second : (b : Bool) (n : ℕ) (f g : ℕ → R.Carrier)
      → sum_below R n (λ k. R.mul (f k) (where_true R b (g k))) ≡ where_true R b
      (sum_below R n (λ k. R.mul (f k) (g k)))
  where_true-second true n f g = refl
  where_true-second false n f g =
      sum_below-same R n (λ k. R.mul (f k) R.zero) (λ k. R.zero) (λ k _. mul_zero R (f k))
      ∙ sum_below-zero R n

  -- ---- blocks of sums and products

  pub block-product : (a b : Plain R) (start count : ℕ)
      → plain_product R (row_block R start count a) b ≡ row_block R start count (plain_product R a b)
  block-product a b start count = λ k. record {
    rows = count;
    cols = b.cols;
    has = λ i j. any_below-first (nat_lt i count) a.cols (λ l. a.has (start + i) l) (λ l. b.has l j) k;
    value = λ i j. where_true-first (nat_lt i count) a.cols (λ l. a.value (start + i) l)
        (λ l. b.value l j) k;
  }

  pub product-block : (a b : Plain R) (start count : ℕ)
      → plain_product R a (col_block R start count b) ≡ col_block R start count (plain_product R a b)
  product-block a b start count = λ k. record {
    rows = a.rows;
    cols = count;
    has = λ i j. any_below-second (nat_lt j count) a.cols (λ l. a.has i l) (λ l. b.has l (start + j)) k;
    value = λ i j. where_true-second (nat_lt j count) a.cols (λ l. a.value i l)
        (λ l. b.value l (start + j)) k;
  }

  pub block-sum : (a b : Plain R) (start count : ℕ)
      → plain_sum R (row_block R start count a) (row_block R start count b) ≡ row_block R start count
      (plain_sum R a b)
  block-sum a b start count = λ k. record {
    rows = count;
    cols = a.cols;
    has = λ i j. sym (and-or_distrib_left (nat_lt i count) (a.has (start + i) j) (b.has (start + i) j)) k;
    value = λ i j. where_true-add (nat_lt i count) (a.value (start + i) j) (b.value (start + i) j) k;
  }

  pub block-solution : (s x b : Plain R) (start count : ℕ) → start + count ≤ b.cols
      → Solves R s x b → Solves R s (col_block R start count x) (col_block R start count b)
  block-solution s x b start count fits solves i j row col =
      where_true-second (nat_lt j count) s.cols (λ k. s.value i k) (λ k. x.value k (start + j))
      ∙ ap (where_true R (nat_lt j count)) (solves i (start + j) row (omega (arith, fits, col)))

  -- ---- blocks stacked again

  -- the row i of two consecutive blocks of rows
  chosen : {X : Type 0} (start m n i : ℕ) (pick : Bool → ℕ → X)
      → (if nat_lt i m then pick (nat_lt i m) (start + i) else pick (nat_lt (i - m) n) (start + m + (i - m)))
      ≡ pick (nat_lt i (m + n)) (start + i)
  chosen start m n i pick = elim (cases_Bool (nat_lt i m)) [
    | inl here ↦
        let both : nat_lt i (m + n) ≡ true = grind (arith, nat_tests) in
        rw (here, both) refl
    | inr later ↦
        let row : start + m + (i - m) ≡ start + i = grind (arith, nat_tests) in
        let test : nat_lt (i - m) n ≡ nat_lt i (m + n) =
        same_bool (nat_lt (i - m) n) (nat_lt i (m + n)) (λ e. grind (arith, nat_tests))
        (λ e. grind (arith, nat_tests)) in
        ap (λ b. if b then pick b (start + i) else pick (nat_lt (i - m) n) (start + m + (i - m))) later
        ∙ ap (λ r. pick (nat_lt (i - m) n) r) row ∙ ap (λ b. pick b (start + i)) test
  ]

  two_blocks : (a : Plain R) (start m n : ℕ)
      → above R (row_block R start m a) (row_block R (start + m) n a) ≡ row_block R start (m + n) a
  two_blocks a start m n = λ k. record {
    rows = m + n;
    cols = a.cols;
    has = λ i j. chosen start m n i (λ b r. b && a.has r j) k;
    value = λ i j. chosen start m n i (λ b r. where_true R b (a.value r j)) k;
  }

  no_rows : (a : Plain R) (start : ℕ) → stacked R a.cols [] ≡ row_block R start 0 a
  no_rows a start = λ k. record {
    rows = 0;
    cols = a.cols;
    has = λ i j. ap (λ b. b && a.has (start + i) j) (none i) k;
    value = λ i j. ap (λ b. where_true R b (a.value (start + i) j)) (none i) k;
  }
    where
      none : (i : ℕ) → false ≡ nat_lt i 0
      none i = same_bool false (nat_lt i 0) (λ e. cc) (λ e. grind (arith, nat_tests))

  all_blocks : (a : Plain R) (start : ℕ) (sizes : List ℕ)
      → stacked R a.cols (row_blocks R start sizes a) ≡ row_block R start (total_size sizes) a
  all_blocks a start [] = no_rows a start
  all_blocks a start (n ∷ ns) =
      ap (above R (row_block R start n a)) (all_blocks a (start + n) ns)
      ∙ two_blocks a start n (total_size ns)

  all_rows : (a : Plain R) → IsWithin a → IsProper a → row_block R 0 a.rows a ≡ a
  all_rows a within proper = λ k. record {
    rows = a.rows;
    cols = a.cols;
    has = λ i j. (ap (λ r. nat_lt i a.rows && a.has r j) (start_at_zero i) ∙ has i j) k;
    value = λ i j. (ap (λ r. where_true R (nat_lt i a.rows) (a.value r j)) (start_at_zero i)
        ∙ value i j) k;
  }
    where
      start_at_zero : (i : ℕ) → 0 + i ≡ i
      start_at_zero i = omega arith

      has : (i j : ℕ) → (nat_lt i a.rows && a.has i j) ≡ a.has i j
      has i j = elim (cases_Bool (a.has i j)) [
        | inl place ↦
            let row : i < a.rows = (within i j place).0 in
            let test : nat_lt i a.rows ≡ true = grind (arith, nat_tests) in
            rw (place, test) refl
        | inr none ↦ rw none (and-false (nat_lt i a.rows))
      ]

      value : (i j : ℕ) → where_true R (nat_lt i a.rows) (a.value i j) ≡ a.value i j
      value i j = elim (cases_Bool (nat_lt i a.rows)) [
        | inl inside ↦ rw inside refl
        | inr outside ↦
            let none : a.has i j ≡ false =
            same_bool (a.has i j) false
            (λ e. let row = (within i j e).0 in grind (arith, nat_tests)) (λ e. cc) in
            rw outside (sym (proper i j none))
      ]

  pub stacked_again : (a : Plain R) (sizes : List ℕ) → IsWithin a → IsProper a
      → total_size sizes ≡ a.rows → stacked R a.cols (row_blocks R 0 sizes a) ≡ a
  stacked_again a sizes within proper whole =
      all_blocks a 0 sizes ∙ ap (λ n. row_block R 0 n a) whole ∙ all_rows a within proper
