-- Permuted plain matrices: transposes, compositions and inverses.
use Rattle.std.proofs.Common.{◌≡◌, ℕ, ◌<◌, ◌↔◌, inl, inr, true, false, List, length, get_or}
use Rattle.std.proofs.Common.{ap, sym, ◌∙◌, refl, arith}
use Rattle.std.specs.Prelude.{nat_lt, ◌&&◌}
use Rattle.std.proofs.lemmas.Bool.Decides.{Decides-ltb}
use Rattle.sparse_algebra.specs.Algebra.{CommRing}
use Rattle.sparse_algebra.specs.Sums.{where_true}
use Rattle.sparse_algebra.specs.Plain.{Plain, IsProper, IsWithin, plain_transpose}
use Rattle.sparse_algebra.proofs.Cases.{and_both, and_parts, true_or_false}
use Rattle.sparse_algebra.proofs.PlainLemmas.{same_plain, and_comm}
use Rattle.sparse_permutation.specs.Permutations.{IsOrder, IsInverse, composed}
use Rattle.sparse_permutation.specs.PermutedPlain.{plain_rows_permuted, plain_permuted}
use Rattle.sparse_permutation.proofs.Orders.{order_below, inverse_exists, composed_at}

-- a test that i is below n, met
pub is_below : (i n : ℕ) → i < n → nat_lt i n ≡ true
is_below i n less = (Decides-ltb i n).1 less

pub below_is : (i n : ℕ) → nat_lt i n ≡ true → i < n
below_is i n h = (Decides-ltb i n).0 h

pub both_below : (i m j n : ℕ) → i < m → j < n → (nat_lt i m && nat_lt j n) ≡ true
both_below i m j n first second = and_both _ _ (is_below i m first) (is_below j n second)

module _ (R : CommRing) where
  no_place : (a : Plain R) → IsWithin a → (i j : ℕ)
      → (nat_lt i a.rows && nat_lt j a.cols) ≡ false → a.has i j ≡ false
  no_place a within i j outside = elim (true_or_false (a.has i j)) [
    | inl hit ↦
        let at = within i j hit in
        let inside = both_below i a.rows j a.cols at.0 at.1 in
        absurd (cc)
    | inr miss ↦ miss
  ]

  no_place_in_row : (a : Plain R) → IsWithin a → (i j : ℕ) → nat_lt i a.rows ≡ false
      → a.has i j ≡ false
  no_place_in_row a within i j outside = elim (true_or_false (a.has i j)) [
    | inl hit ↦
        let inside = is_below i a.rows (within i j hit).0 in
        absurd (cc)
    | inr miss ↦ miss
  ]

  -- ---- the inverse undoes

  module _ {p q : List ℕ} (inverse : IsInverse p q) (order : IsOrder q) (a : Plain R)
      (rows : a.rows ≡ length p) (proper : IsProper a) (within : IsWithin a) where
    back_below : (i : ℕ) → i < a.rows → nat_lt (get_or q i 0) a.rows ≡ true
    back_below i less = is_below (get_or q i 0) a.rows
        (omega (arith, rows, inverse.count, order_below order i (omega (arith, rows, inverse.count))))

    back : (i : ℕ) → i < a.rows → get_or p (get_or q i 0) 0 ≡ i
    back i less = inverse.right i (omega (arith, rows))

    pub rows_undone : plain_rows_permuted R q (plain_rows_permuted R p a) ≡ a
    rows_undone = same_plain (plain_rows_permuted R q (plain_rows_permuted R p a)) a refl refl
        (λ i j. elim (true_or_false (nat_lt i a.rows)) [
          | inl inside ↦
              let less = below_is i a.rows inside in
              rw (inside, back_below i less, back i less) refl
          | inr outside ↦ rw outside (sym (no_place_in_row a within i j outside))
        ])
        (λ i j. elim (true_or_false (nat_lt i a.rows)) [
          | inl inside ↦
              let less = below_is i a.rows inside in
              rw (inside, back_below i less, back i less) refl
          | inr outside ↦
              rw outside (sym (proper i j (no_place_in_row a within i j outside)))
        ])

    module _ (square : a.rows ≡ a.cols) where
      back_both : (i j : ℕ) → i < a.rows → j < a.cols
          → (nat_lt (get_or q i 0) a.rows && nat_lt (get_or q j 0) a.cols) ≡ true
      back_both i j first second = and_both _ _ (back_below i first)
          (ap (nat_lt (get_or q j 0)) (sym square) ∙ back_below j (omega (arith, square)))

      pub undone : plain_permuted R q (plain_permuted R p a) ≡ a
      undone = same_plain (plain_permuted R q (plain_permuted R p a)) a refl refl
          (λ i j. elim (true_or_false (nat_lt i a.rows && nat_lt j a.cols)) [
            | inl inside ↦
                let both = and_parts _ _ inside in
                let first = below_is i a.rows both.0 in
                let second = below_is j a.cols both.1 in
                rw (inside, back_both i j first second, back i first, back j (omega (arith, square)))
                refl
            | inr outside ↦ rw outside (sym (no_place a within i j outside))
          ])
          (λ i j. elim (true_or_false (nat_lt i a.rows && nat_lt j a.cols)) [
            | inl inside ↦
                let both = and_parts _ _ inside in
                let first = below_is i a.rows both.0 in
                let second = below_is j a.cols both.1 in
                rw (inside, back_both i j first second, back i first, back j (omega (arith, square)))
                refl
            | inr outside ↦ rw outside (sym (proper i j (no_place a within i j outside)))
          ])

  -- ---- one permutation followed by another

  module _ {p q : List ℕ} (first : IsOrder p) (next : IsOrder q) (same : length p ≡ length q)
      (a : Plain R) (rows : a.rows ≡ length p) where
    next_below : (i : ℕ) → i < a.rows → nat_lt (get_or q i 0) a.rows ≡ true
    next_below i less = is_below (get_or q i 0) a.rows
        (omega (arith, rows, same, order_below next i (omega (arith, rows, same))))

    both_at : (i : ℕ) → i < a.rows → get_or (composed p q) i 0 ≡ get_or p (get_or q i 0) 0
    both_at i less = composed_at first q i (omega (arith, rows, same))

    pub rows_composed : plain_rows_permuted R q (plain_rows_permuted R p a)
        ≡ plain_rows_permuted R (composed p q) a
    rows_composed = same_plain (plain_rows_permuted R q (plain_rows_permuted R p a))
        (plain_rows_permuted R (composed p q) a) refl refl
        (λ i j. elim (true_or_false (nat_lt i a.rows)) [
          | inl inside ↦
              let less = below_is i a.rows inside in
              rw (inside, next_below i less, both_at i less) refl
          | inr outside ↦ rw outside refl
        ])
        (λ i j. elim (true_or_false (nat_lt i a.rows)) [
          | inl inside ↦
              let less = below_is i a.rows inside in
              rw (inside, next_below i less, both_at i less) refl
          | inr outside ↦ rw outside refl
        ])

    module _ (square : a.rows ≡ a.cols) where
      next_both : (i j : ℕ) → i < a.rows → j < a.cols
          → (nat_lt (get_or q i 0) a.rows && nat_lt (get_or q j 0) a.cols) ≡ true
      next_both i j row col = and_both _ _ (next_below i row)
          (ap (nat_lt (get_or q j 0)) (sym square) ∙ next_below j (omega (arith, square)))

      pub permuted_composed : plain_permuted R q (plain_permuted R p a)
          ≡ plain_permuted R (composed p q) a
      permuted_composed = same_plain (plain_permuted R q (plain_permuted R p a))
          (plain_permuted R (composed p q) a) refl refl
          (λ i j. elim (true_or_false (nat_lt i a.rows && nat_lt j a.cols)) [
            | inl inside ↦
                let both = and_parts _ _ inside in
                let row = below_is i a.rows both.0 in
                let col = below_is j a.cols both.1 in
                rw (inside, next_both i j row col, both_at i row, both_at j (omega (arith, square)))
                refl
            | inr outside ↦ rw outside refl
          ])
          (λ i j. elim (true_or_false (nat_lt i a.rows && nat_lt j a.cols)) [
            | inl inside ↦
                let both = and_parts _ _ inside in
                let row = below_is i a.rows both.0 in
                let col = below_is j a.cols both.1 in
                rw (inside, next_both i j row col, both_at i row, both_at j (omega (arith, square)))
                refl
            | inr outside ↦ rw outside refl
          ])

  -- ---- a permuted matrix determines the matrix

  module _ {p : List ℕ} (order : IsOrder p) (a b : Plain R) (rows_a : a.rows ≡ length p)
      (proper_a : IsProper a) (within_a : IsWithin a) (proper_b : IsProper b)
      (within_b : IsWithin b) where
    pub rows_determined : plain_rows_permuted R p a ≡ plain_rows_permuted R p b → a ≡ b
    rows_determined same =
        let found = inverse_exists p order in
        let rows_b : b.rows ≡ length p = sym (ap (λ m. m.rows) same) ∙ rows_a in
        sym (rows_undone found.1 found.2 a rows_a proper_a within_a)
        ∙ ap (plain_rows_permuted R found.0) same
        ∙ rows_undone found.1 found.2 b rows_b proper_b within_b

    pub determined : a.rows ≡ a.cols → b.rows ≡ b.cols → plain_permuted R p a ≡ plain_permuted R p b
        → a ≡ b
    determined square_a square_b same =
        let found = inverse_exists p order in
        let rows_b : b.rows ≡ length p = sym (ap (λ m. m.rows) same) ∙ rows_a in
        sym (undone found.1 found.2 a rows_a proper_a within_a square_a)
        ∙ ap (plain_permuted R found.0) same
        ∙ undone found.1 found.2 b rows_b proper_b within_b square_b

  -- ---- transposes and symmetry

  pub transpose_permuted : (p : List ℕ) (a : Plain R)
      → plain_transpose R (plain_permuted R p a) ≡ plain_permuted R p (plain_transpose R a)
  transpose_permuted p a =
      let swap = λ (i j : ℕ). and_comm (nat_lt j a.rows) (nat_lt i a.cols) in
      same_plain (plain_transpose R (plain_permuted R p a)) (plain_permuted R p (plain_transpose R a))
      refl refl
      (λ i j. ap (λ b. b && a.has (get_or p j 0) (get_or p i 0)) (swap i j))
      (λ i j. ap (λ b. where_true R b (a.value (get_or p j 0) (get_or p i 0))) (swap i j))
