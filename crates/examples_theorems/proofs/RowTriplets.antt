-- The triplets in a block of rows, and the plain matrix of the block.
use Rattle.std.proofs.Common.{◌≡◌, ℕ, ◌+◌, ◌-◌, inl, inr, Bool, true, false, ◌&&◌}
use Rattle.std.proofs.Common.{List, [], ◌∷◌, ap, sym, ◌∙◌, refl, arith}
use Rattle.std.specs.Prelude.{◌||◌, nat_eq, nat_lt}
use Rattle.std.specs.List.{flat_map, list_any}
use Rattle.std.proofs.Math.Bool.{and-false, and-or_distrib_left, or-false}
use Rattle.std.proofs.lemmas.Bool.{cases_Bool}
use Rattle.std.proofs.lemmas.Bool.Decides.{nat_tests}
use Rattle.std.proofs.lemmas.List.Folds.{list_any-append}
use Rattle.nalgebra_sparse.specs.Algebra.{CommRing}
use Rattle.nalgebra_sparse.specs.Plain.{Plain, IsProper, IsWithin, is_at, plain_of_triplets}
use Rattle.nalgebra_sparse.specs.SumLemmas.{sum_by-append}
use Rattle.nalgebra_sparse.specs.Sums.{sum_by, where_true}
use Rattle.examples_theorems.specs.RowBlocks.{row_block}
use Rattle.examples_theorems.specs.InnerRowBlocks.{is_in_block, one_in_block}
use Rattle.examples_theorems.proofs.PlainBlocks.{same_bool, where_true-add}

module _ (nrows ncols : ℕ) where
  -- whether (i, j) lies in the block
  abbrev covers : ℕ → ℕ → Bool
  covers i j = nat_lt i nrows && nat_lt j ncols

module _ {T : Type 0} (start nrows ncols : ℕ) where
  moved : (i j : ℕ) (t : ℕ × ℕ × T) → is_in_block start nrows ncols t ≡ true
      → (nat_eq (t.0 - start) i && nat_eq t.1 j) ≡ (covers nrows ncols i j && is_at (start + i) j t)
  moved i j t inside = same_bool (nat_eq (t.0 - start) i && nat_eq t.1 j)
      (covers nrows ncols i j && is_at (start + i) j t) (λ e. grind (arith, nat_tests)) (λ e. grind (arith, nat_tests))

  missed : (i j : ℕ) (t : ℕ × ℕ × T) → is_in_block start nrows ncols t ≡ false
      → (covers nrows ncols i j && is_at (start + i) j t) ≡ false
  missed i j t outside = same_bool (covers nrows ncols i j && is_at (start + i) j t) false
      (λ e. grind (arith, nat_tests)) (λ e. cc)

  one-has : (i j : ℕ) (t : ℕ × ℕ × T)
      → list_any (is_at i j) (one_in_block start nrows ncols t) ≡ (covers nrows ncols i j && is_at (start + i) j t)
  one-has i j t = elim (cases_Bool (is_in_block start nrows ncols t)) [
    | inl inside ↦ rw inside (or-false (nat_eq (t.0 - start) i && nat_eq t.1 j) ∙ moved i j t inside)
    | inr outside ↦ rw outside (sym (missed i j t outside))
  ]

  all-has : (i j : ℕ) (ts : List (ℕ × ℕ × T))
      → list_any (is_at i j) (flat_map (one_in_block start nrows ncols) ts)
      ≡ (covers nrows ncols i j && list_any (is_at (start + i) j) ts)
  all-has i j [] = sym (and-false (covers nrows ncols i j))
  all-has i j (t ∷ ts) =
      let rest = flat_map (one_in_block start nrows ncols) ts in
      list_any-append (is_at i j) (one_in_block start nrows ncols t) rest
      ∙ ap (λ b. b || list_any (is_at i j) rest) (one-has i j t)
      ∙ ap (λ b. (covers nrows ncols i j && is_at (start + i) j t) || b) (all-has i j ts)
      ∙ sym (and-or_distrib_left (covers nrows ncols i j) (is_at (start + i) j t) (list_any (is_at (start + i) j) ts))

module _ (R : CommRing) where
  where_both : (a b : Bool) (x : R.Carrier)
      → where_true R (a && b) x ≡ where_true R a (where_true R b x)
  where_both true b x = refl
  where_both false b x = refl

  module _ {T : Type 0} (f : T → R.Carrier) (start nrows ncols : ℕ) where
    -- the value of a triplet at (i, j)
    abbrev at_pair : ℕ → ℕ → ℕ × ℕ × T → R.Carrier
    at_pair i j t = where_true R (is_at i j t) (f t.2)

    one-value : (i j : ℕ) (t : ℕ × ℕ × T)
        → sum_by R (at_pair i j) (one_in_block start nrows ncols t) ≡ where_true R
        (covers nrows ncols i j) (at_pair (start + i) j t)
    one-value i j t = elim (cases_Bool (is_in_block start nrows ncols t)) [
      | inl inside ↦
          rw inside (R.laws.add_zero (where_true R (nat_eq (t.0 - start) i && nat_eq t.1 j) (f t.2))
          ∙ ap (λ b. where_true R b (f t.2)) (moved start nrows ncols i j t inside)
          ∙ where_both (covers nrows ncols i j) (is_at (start + i) j t) (f t.2))
      | inr outside ↦
          rw outside (ap (λ b. where_true R b (f t.2)) (sym (missed start nrows ncols i j t outside))
          ∙ where_both (covers nrows ncols i j) (is_at (start + i) j t) (f t.2))
    ]

    all-value : (i j : ℕ) (ts : List (ℕ × ℕ × T))
        → sum_by R (at_pair i j) (flat_map (one_in_block start nrows ncols) ts) ≡ where_true R
        (covers nrows ncols i j) (sum_by R (at_pair (start + i) j) ts)
    all-value i j [] = elim (cases_Bool (covers nrows ncols i j)) [
      | inl inside ↦ rw inside refl
      | inr outside ↦ rw outside refl
    ]
    all-value i j (t ∷ ts) =
        let rest = flat_map (one_in_block start nrows ncols) ts in
        sum_by-append R (at_pair i j) (one_in_block start nrows ncols t) rest
        ∙ ap (λ x. R.add x (sum_by R (at_pair i j) rest)) (one-value i j t)
        ∙ ap (R.add (where_true R (covers nrows ncols i j) (at_pair (start + i) j t)))
        (all-value i j ts)
        ∙ where_true-add R (covers nrows ncols i j) (at_pair (start + i) j t)
        (sum_by R (at_pair (start + i) j) ts)

  -- a test that follows from another one can be left out beside it
  passes-has : (a b h : Bool) → (h ≡ true → b ≡ true) → ((a && b) && h) ≡ (a && h)
  passes-has a true h e = ap (λ x. x && h) (and-true a)
    where
      and-true : (a : Bool) → (a && true) ≡ a
      and-true true = refl
      and-true false = refl
  passes-has a false true e = cc (e refl)
  passes-has a false false e = and-false (a && false) ∙ sym (and-false a)

  passes-value : (a b : Bool) (x : R.Carrier) → (b ≡ false → x ≡ R.zero)
      → where_true R (a && b) x ≡ where_true R a x
  passes-value true true x e = refl
  passes-value true false x e = sym (e refl)
  passes-value false b x e = refl

  -- the block's triplets have the plain matrix of the block
  pub triplets-block : {T : Type 0} (f : T → R.Carrier) (start count rows cols : ℕ)
      (ts : List (ℕ × ℕ × T))
      → IsWithin (plain_of_triplets R f rows cols ts) → IsProper (plain_of_triplets R f rows cols ts)
      → plain_of_triplets R f count cols (flat_map (one_in_block start count cols) ts)
      ≡ row_block R start count (plain_of_triplets R f rows cols ts)
  triplets-block f start count rows cols ts within proper = λ k. record {
    rows = count;
    cols = cols;
    has = λ i j. has i j k;
    value = λ i j. value i j k;
  }
    where
      a : Plain R
      a = plain_of_triplets R f rows cols ts

      inside : (i j : ℕ) → a.has (start + i) j ≡ true → nat_lt j cols ≡ true
      inside i j place = let col = (within (start + i) j place).1 in grind (arith, nat_tests)

      has : (i j : ℕ) → list_any (is_at i j) (flat_map (one_in_block start count cols) ts)
          ≡ (nat_lt i count && a.has (start + i) j)
      has i j = all-has start count cols i j ts
          ∙ passes-has (nat_lt i count) (nat_lt j cols) (a.has (start + i) j) (inside i j)

      value : (i j : ℕ)
          → sum_by R (at_pair f start count cols i j) (flat_map (one_in_block start count cols) ts)
          ≡ where_true R (nat_lt i count) (a.value (start + i) j)
      value i j = all-value f start count cols i j ts
          ∙ passes-value (nat_lt i count) (nat_lt j cols) (a.value (start + i) j)
          (λ past. proper (start + i) j (same_bool (a.has (start + i) j) false
          (λ place. cc (past, inside i j place)) (λ e. cc)))
