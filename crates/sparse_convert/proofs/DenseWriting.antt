-- Triplets written one by one into a dense matrix.
use Rattle.std.proofs.Common.{◌≡◌, ℕ, suc, ◌+◌, ◌*◌, ◌<◌, inl, inr, false, ◌&&◌, ◌==◌}
use Rattle.std.proofs.Common.{if◌then◌else◌, List, [], ◌∷◌, length, map, All, ap, sym, subst, ◌∙◌}
use Rattle.std.proofs.Common.{refl, arith}
use Rattle.std.proofs.lemmas.List.{get_or_default}
use Rattle.std.proofs.lemmas.Nat.{mul-add-lt}
use Rattle.std.specs.Cmp.{nat_eq_equiv}
use Rattle.std.specs.Prelude.{nat_eq}
use Rattle.std.specs.List.{list_any}
use Rattle.sparse_algebra.proofs.Cases.{neither, true_or_false}
use Rattle.sparse_coo_dense.specs.Dense.{Dense, value_at, HasValues}
use Rattle.sparse_algebra.specs.Plain.{is_at}
use Rattle.sparse_algebra.proofs.PlainLemmas.{and_comm}
use Rattle.sparse_compressed.specs.Compressed.{transposed}
use Rattle.sparse_compressed.proofs.Arrays.{pair_is}

-- the test whether a pair is the written one
same_test : (a b i j : ℕ) → (i == a && j == b) ≡ (nat_eq a i && nat_eq b j)
same_test a b i j = ap (λ x. x && j == b) (nat_eq_equiv.symm i a)
    ∙ ap (λ x. nat_eq a i && x) (nat_eq_equiv.symm j b)

module _ {T C : Type 0} (step : C → T → C) where
  -- the value at (i, j) after a step from c for each triplet with that pair
  abbrev pub written : C → List (ℕ × ℕ × T) → ℕ → ℕ → C
  written c [] i j = c
  written c (t ∷ ts) i j = written (if is_at i j t then step c t.2 else c) ts i j

  pub written-nowhere : (c : C) (ts : List (ℕ × ℕ × T)) (i j : ℕ) → list_any (is_at i j) ts ≡ false
      → written c ts i j ≡ c
  written-nowhere c [] i j none = refl
  written-nowhere c (t ∷ ts) i j none =
      let parts = neither (is_at i j t) (list_any (is_at i j) ts) none in
      ap (λ b. written (if b then step c t.2 else c) ts i j) parts.0
      ∙ written-nowhere c ts i j parts.1

  -- rows and columns exchanged
  pub written-transposed : (c : C) (ts : List (ℕ × ℕ × T)) (i j : ℕ)
      → written c (map transposed ts) i j ≡ written c ts j i
  written-transposed c [] i j = refl
  written-transposed c (t ∷ ts) i j =
      ap (λ b. written (if b then step c t.2 else c) (map transposed ts) i j)
      (and_comm (nat_eq t.1 i) (nat_eq t.0 j))
      ∙ written-transposed (if is_at j i t then step c t.2 else c) ts i j

  module _ (f : T → C) where
    -- the dense matrix before the triplets of `rest` are written
    pub record IsWritten (c : C) (nrows ncols : ℕ) (all rest : List (ℕ × ℕ × T)) (d : Dense T) :
        Type 0 where
      pub rows : d.nrows ≡ nrows
      pub cols : d.ncols ≡ ncols
      pub count : length d.values ≡ nrows * ncols
      pub inside : All (λ t. (t.0 < nrows) × (t.1 < ncols)) rest
      pub values : (i j : ℕ) (z : T) → i < nrows → j < ncols
          → written (f (value_at d i j z)) rest i j ≡ written c all i j

module _ {T C : Type 0} {step : C → T → C} {f : T → C} where
  pub none_written : {nrows ncols : ℕ} {all : List (ℕ × ℕ × T)} {d : Dense T} (x : T)
      → HasValues nrows ncols (λ _ _ _. x) d → All (λ t. (t.0 < nrows) × (t.1 < ncols)) all
      → IsWritten step f (f x) nrows ncols all all d
  none_written {all = all} x has inside = record {
    rows = has.rows;
    cols = has.cols;
    count = has.count;
    inside = inside;
    values = λ i j z row col. ap (λ v. written step (f v) all i j) (has.values i j z row col);
  }

  module _ {c : C} {nrows ncols : ℕ} {all rest : List (ℕ × ℕ × T)} {d : Dense T} where
    -- the values after the last triplet
    pub all_written : rest ≡ [] → IsWritten step f c nrows ncols all rest d → (i j : ℕ) (z : T)
        → i < nrows → j < ncols → f (value_at d i j z) ≡ written step c all i j
    all_written end done i j z row col =
        ap (λ l. written step (f (value_at d i j z)) l i j) (sym end) ∙ done.values i j z row col

    module _ {t : ℕ × ℕ × T} {more : List (ℕ × ℕ × T)} (next : rest ≡ t ∷ more)
        (kept : IsWritten step f c nrows ncols all rest d) where
      within : (t.0 < nrows) × (t.1 < ncols)
      within = subst (All (λ t. (t.0 < nrows) × (t.1 < ncols))) next kept.inside 0 t (omega arith)

      pub next_inside : record { row : t.0 < d.nrows; col : t.1 < d.ncols }
      next_inside = record {
        row = omega (arith, within.0, kept.rows);
        col = omega (arith, within.1, kept.cols);
      }

      -- a value that is read within the shape does not depend on the default
      pub read_there : {x : T} → x ≡ value_at d t.0 t.1 x → (z : T) → x ≡ value_at d t.0 t.1 z
      read_there {x} is z =
          let inside : t.1 * d.nrows + t.0 < length d.values =
          rw (kept.count, kept.rows) (mul-add-lt t.1 nrows t.0 ncols within.1 within.0) in
          is ∙ get_or_default d.values (t.1 * d.nrows + t.0) x z inside

      chosen : (w : T) (i j : ℕ) (z : T) → f w ≡ step (f (value_at d t.0 t.1 z)) t.2
          → f (if i == t.0 && j == t.1 then w else value_at d i j z)
          ≡ (if is_at i j t then step (f (value_at d i j z)) t.2 else f (value_at d i j z))
      chosen w i j z is = ap (λ b. f (if b then w else value_at d i j z)) (same_test t.0 t.1 i j)
          ∙ elim (true_or_false (is_at i j t)) [
            | inl hit ↦
                let pair = pair_is (t.0, t.1) i j hit in
                let row : i ≡ t.0 = sym (ap (λ p. p.0) pair) in
                let col : j ≡ t.1 = sym (ap (λ p. p.1) pair) in
                let here : step (f (value_at d t.0 t.1 z)) t.2 ≡ step (f (value_at d i j z)) t.2 =
                rw (row, col) refl in
                rw hit (is ∙ here)
            | inr miss ↦ rw miss refl
          ]

      pub one_written : {e : Dense T} (w : T)
          → HasValues d.nrows d.ncols
          (λ k l z. if k == t.0 && l == t.1 then w else value_at d k l z) e
          → ((z : T) → f w ≡ step (f (value_at d t.0 t.1 z)) t.2)
          → IsWritten step f c nrows ncols all more e
      one_written w has is = record {
        rows = has.rows ∙ kept.rows;
        cols = has.cols ∙ kept.cols;
        count = has.count ∙ ap (λ n. n * d.ncols) kept.rows ∙ ap (λ n. nrows * n) kept.cols;
        inside = λ k x lt. subst (All (λ t. (t.0 < nrows) × (t.1 < ncols))) next kept.inside (suc k)
            x (omega arith);
        values = λ i j z row col.
            ap (λ v. written step (f v) more i j) (has.values i j z (rw kept.rows row)
            (rw kept.cols col))
            ∙ ap (λ v. written step v more i j) (chosen w i j z (is z))
            ∙ ap (λ l. written step (f (value_at d i j z)) l i j) (sym next)
            ∙ kept.values i j z row col;
      }
