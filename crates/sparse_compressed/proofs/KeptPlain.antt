-- Filtering triplets by a test of row and column filters the plain matrix.
use Rattle.std.proofs.Common.{◌≡◌, ℕ, inl, inr, Bool, true, false, ◌&&◌, cond, List, [], ◌∷◌, map}
use Rattle.std.proofs.Common.{ap, sym, ◌∙◌, refl}
use Rattle.std.specs.List.{filter, list_any}
use Rattle.std.proofs.lemmas.Bool.{and_left, and_right}
use Rattle.std.proofs.lemmas.Map.Views.{any-filter_same}
use Rattle.sparse_algebra.proofs.Cases.{and_both, true_or_false}
use Rattle.sparse_algebra.specs.Algebra.{CommRing}
use Rattle.sparse_algebra.specs.Sums.{where_true}
use Rattle.sparse_algebra.specs.Plain.{is_at, plain_kept, plain_transpose}
use Rattle.sparse_algebra.proofs.RingLemmas.{zero_add}
use Rattle.sparse_algebra.proofs.SumLemmas.{where_no, where_yes}
use Rattle.sparse_algebra.proofs.PlainLemmas.{same_plain, and_comm}
use Rattle.sparse_compressed.specs.Compressed.{Compressed, lane_triplets, transposed}
use Rattle.sparse_compressed.specs.Filter.{HasShapeOf}
use Rattle.sparse_compressed.specs.PlainOfLanes.{plain_of_rows, plain_of_cols}
use Rattle.sparse_compressed.proofs.Arrays.{pair_is, value_at, value_at-none}

-- filtering transposed triplets
filter-transposed : {T : Type 0} (test : ℕ × ℕ × T → Bool) (ts : List (ℕ × ℕ × T))
    → map transposed (filter test (map transposed ts)) ≡ filter (λ t. test (transposed t)) ts
filter-transposed test [] = refl
filter-transposed test (t ∷ ts) = chosen (test (transposed t))
    ∙ ap (λ us. cond (test (transposed t)) (t ∷ us) us) (filter-transposed test ts)
  where
    chosen : (b : Bool)
        → map transposed (cond b (transposed t ∷ filter test (map transposed ts))
        (filter test (map transposed ts)))
        ≡ cond b (t ∷ map transposed (filter test (map transposed ts)))
        (map transposed (filter test (map transposed ts)))
    chosen true = refl
    chosen false = refl

pub transposed_twice : {T : Type 0} (ts : List (ℕ × ℕ × T))
    → map transposed (map transposed ts) ≡ ts
transposed_twice [] = refl
transposed_twice (t ∷ ts) = ap (λ us. t ∷ us) (transposed_twice ts)

module _ (R : CommRing) {T : Type 0} (f : T → R.Carrier) (test : ℕ → ℕ → Bool) where
  abbrev passes : ℕ × ℕ × T → Bool
  passes t = test t.0 t.1

  passes_at : (i j : ℕ) (t : ℕ × ℕ × T) → is_at i j t ≡ true → passes t ≡ test i j
  passes_at i j t h = ap (λ x. test x.0 x.1) (pair_is (t.0, t.1) i j h)

  has_kept : (i j : ℕ) (ts : List (ℕ × ℕ × T))
      → list_any (is_at i j) (filter passes ts) ≡ (list_any (is_at i j) ts && test i j)
  has_kept i j ts = any-filter_same (is_at i j) passes (test i j) (passes_at i j) ts
      ∙ and_comm (test i j) (list_any (is_at i j) ts)

  -- the sum at a pair that passes the test is unchanged
  sum_kept : (i j : ℕ) (ts : List (ℕ × ℕ × T)) → test i j ≡ true
      → value_at R f (filter passes ts) i j ≡ value_at R f ts i j
  sum_kept i j [] pass = refl
  sum_kept i j (t ∷ ts) pass = chosen (sum_kept i j ts pass) (passes t) refl
    where
      missed : passes t ≡ false → is_at i j t ≡ false
      missed e = elim (true_or_false (is_at i j t))
          [ inl hit ↦ let at = passes_at i j t hit in cc | inr miss ↦ miss ]

      chosen : value_at R f (filter passes ts) i j ≡ value_at R f ts i j → (b : Bool) → passes t ≡ b
          → value_at R f (cond b (t ∷ filter passes ts) (filter passes ts)) i j ≡ value_at R f
          (t ∷ ts) i j
      chosen rest true e = ap (R.add (where_true R (is_at i j t) (f t.2))) rest
      chosen rest false e = rest ∙ sym (zero_add R (value_at R f ts i j))
          ∙ sym (ap (λ c. R.add c (value_at R f ts i j))
          (where_no R (is_at i j t) (f t.2) (missed e)))

  value_kept : (i j : ℕ) (ts : List (ℕ × ℕ × T))
      → value_at R f (filter passes ts) i j ≡ where_true R (list_any (is_at i j) ts && test i j)
      (value_at R f ts i j)
  value_kept i j ts = elim (true_or_false (test i j)) [
    | inl pass ↦ elim (true_or_false (list_any (is_at i j) ts)) [
      | inl some ↦ sum_kept i j ts pass
          ∙ sym (where_yes R _ _ (and_both (list_any (is_at i j) ts) (test i j) some pass))
      | inr none ↦ sum_kept i j ts pass ∙ value_at-none R f i j ts none
          ∙ sym (where_no R _ _ (and_left (list_any (is_at i j) ts) (test i j) none))
    ]
    | inr fails ↦
        let outside = and_right (list_any (is_at i j) ts) (test i j) fails in
        value_at-none R f i j (filter passes ts) (has_kept i j ts ∙ outside)
        ∙ sym (where_no R _ _ outside)
  ]

  -- by rows
  pub kept_rows : (m n : Compressed T) → HasShapeOf m n
      → lane_triplets n ≡ filter passes (lane_triplets m)
      → plain_of_rows R f n ≡ plain_kept R test (plain_of_rows R f m)
  kept_rows m n same_shape kept = same_plain (plain_of_rows R f n)
      (plain_kept R test (plain_of_rows R f m)) same_shape.major_dim same_shape.minor_dim
      (λ i j. ap (λ ts. list_any (is_at i j) ts) kept ∙ has_kept i j (lane_triplets m))
      (λ i j. ap (λ ts. value_at R f ts i j) kept ∙ value_kept i j (lane_triplets m))

-- by columns
pub kept_cols : (R : CommRing) {T : Type 0} (f : T → R.Carrier) (test : ℕ → ℕ → Bool)
    (m n : Compressed T)
    → HasShapeOf m n
    → map transposed (lane_triplets n) ≡ filter (λ t. test t.0 t.1)
    (map transposed (lane_triplets m))
    → plain_of_cols R f n ≡ plain_kept R test (plain_of_cols R f m)
kept_cols R f test m n same_shape kept =
    let lanes : lane_triplets n ≡ filter (λ t. test t.1 t.0) (lane_triplets m) =
    sym (transposed_twice (lane_triplets n)) ∙ ap (map transposed) kept
    ∙ filter-transposed (λ t. test t.0 t.1) (lane_triplets m) in
    ap (plain_transpose R) (kept_rows R f (λ i j. test j i) m n same_shape lanes)
