-- If a test decides a base, a test decides its fill, so the fill is the least set that contains the
-- base and is closed under fill.
use Rattle.std.proofs.Common.{ℕ, zero, suc, ◌+◌, ◌<◌, ◌≤◌, ◌↔◌, inl, inr, Bool, false}
use Rattle.std.proofs.Common.{IsTrue, ◌&&◌, ◌||◌, ltb, rules, arith}
use Rattle.std.proofs.Math.Dec.{eqb}
use Rattle.std.specs.Set.{is_member}
use Rattle.std.proofs.lemmas.Bool.{ltb-true, lt-ltb}
use Rattle.std.proofs.lemmas.Bool.Decides.{Decides-eqb}
use Rattle.std.proofs.lemmas.Map.Made.{is_member-Decides}
use Rattle.sparse_algebra.specs.Plain.{any_below}
use Rattle.sparse_algebra.proofs.Cases.{and_parts, and_both, or_cases, or_left, or_right}
use Rattle.sparse_algebra.proofs.PlainLemmas.{any_is}
use Rattle.sparse_pattern.specs.Raw.{Raw, lane_of, IsValid, IsEntry}
use Rattle.sparse_pattern.proofs.LaneLists.{lane_has}
use Rattle.sparse_factor.specs.declared.factorization.Triangle.{Triangle}
use Rattle.sparse_factor.specs.declared.factorization.Triangle.TheVariants.{Upper, Lower, Both}
use Rattle.sparse_factor.specs.Fill.{Filled, given, fill, InFill, TriangleBase}
use Rattle.sparse_factor.proofs.FillLaws.{in_fill, filled_in}
use Rattle.sparse_factor.proofs.Alternatives.{both_ways}

and_is : (b c : Bool) → IsTrue (b && c) ↔ (IsTrue b × IsTrue c)
and_is b c = (and_parts b c, λ both. and_both b c both.0 both.1)

le_is : (j i : ℕ) → IsTrue (ltb j (i + 1)) ↔ (j ≤ i)
le_is j i = (
  λ yes. omega (arith, ltb-true j (i + 1) yes),
  λ le. lt-ltb j (i + 1) (omega arith),
)

module _ (base : ℕ → ℕ → Type 0) (has : ℕ → ℕ → Bool)
    (tied : (i j : ℕ) → IsTrue (has i j) ↔ base i j) where
  -- a test that decides whether the fill contains (i, j), for j < n
  fill_test : ℕ → ℕ → ℕ → Bool
  fill_test zero i j = false
  fill_test (suc n) i j =
      has i j || (ltb j (i + 1) && any_below j (λ k. fill_test n i k && fill_test n j k))

  test_filled : (n i j : ℕ) → IsTrue (fill_test n i j) → Filled base i j
  unfolding fill_test
  test_filled zero i j h = cc
  test_filled (suc n) i j h =
      let both = λ (k : ℕ). fill_test n i k && fill_test n j k in
      elim (or_cases (has i j) (ltb j (i + 1) && any_below j both) h) [
        | inl b ↦ given ((tied i j).0 b)
        | inr m ↦
            let (low, some) = and_parts (ltb j (i + 1)) (any_below j both) m in
            let (k, lt, pair) = (any_is j both).0 some in
            let (p, q) = and_parts (fill_test n i k) (fill_test n j k) pair in
            fill (test_filled n i k p) (test_filled n j k q) lt
            (omega (arith, ltb-true j (i + 1) low))
      ]

  filled_test : (n i j : ℕ) → j < n → Filled base i j → IsTrue (fill_test n i j)
  unfolding fill_test
  filled_test zero i j lt f = absurd (omega arith)
  filled_test (suc n) i j lt (given b) = or_left (has i j) _ ((tied i j).1 b)
  filled_test (suc n) i j lt (fill {k = k} p q below le) =
      let both = λ (k : ℕ). fill_test n i k && fill_test n j k in
      or_right (has i j) (ltb j (i + 1) && any_below j both)
      (and_both (ltb j (i + 1)) (any_below j both) (lt-ltb j (i + 1) (omega arith))
      ((any_is j both).1 (
        k,
        below,
        and_both (fill_test n i k) (fill_test n j k)
            (filled_test n i k (omega arith) p) (filled_test n j k (omega arith) q),
      )))

  pub filled_same : (i j : ℕ) → Filled base i j ↔ InFill base i j
  filled_same i j = (
    λ f. in_fill f,
    λ h. filled_in base (λ i j. fill_test (j + 1) i j)
        (λ i j. (test_filled (j + 1) i j, filled_test (j + 1) i j (omega arith))) i j h,
  )

-- ---- the bases of valid patterns

-- a test that decides whether a pattern has an entry
pub entry_test : Raw → ℕ → ℕ → Bool
entry_test p i j = ltb i p.major_dim && is_member eqb (lane_of p i) j

pub entry_test_is : (p : Raw) → IsValid p → (i j : ℕ) → IsTrue (entry_test p i j) ↔ IsEntry p i j
unfolding entry_test
entry_test_is p valid i j =
    both_ways (and_is (ltb i p.major_dim) (is_member eqb (lane_of p i) j)) (
      λ yes. (lane_has p valid i j (ltb-true i p.major_dim yes.0)).0
          ((is_member-Decides Decides-eqb (lane_of p i) j).0 yes.1),
      λ place.
          let lane = place.in_lane.lane in (
            lt-ltb i p.major_dim lane,
            (is_member-Decides Decides-eqb (lane_of p i) j).1 ((lane_has p valid i j lane).1 place),
          ),
    )

-- a test that decides whether a pattern has an entry and one number is at most another
low_test : Raw → ℕ → ℕ → ℕ → ℕ → Bool
low_test p a b i j = entry_test p a b && ltb j (i + 1)

low_is : (p : Raw) → IsValid p → (a b i j : ℕ)
    → IsTrue (low_test p a b i j) ↔ (IsEntry p a b × (j ≤ i))
unfolding low_test
low_is p valid a b i j =
    let both = and_is (entry_test p a b) (ltb j (i + 1)) in
    let place = entry_test_is p valid a b in
    let low = le_is j i in
    search rules

abbrev triangle_test : Triangle → Raw → ℕ → ℕ → Bool
triangle_test Upper p i j = low_test p i j i j
triangle_test Lower p i j = low_test p j i i j
triangle_test Both p i j = low_test p i j i j || low_test p j i i j

triangle_is : (triangle : Triangle) (p : Raw) → IsValid p → (i j : ℕ)
    → IsTrue (triangle_test triangle p i j) ↔ TriangleBase triangle p i j
triangle_is Upper p valid i j = low_is p valid i j i j
triangle_is Lower p valid i j = low_is p valid j i i j
triangle_is Both p valid i j =
    let up = low_test p i j i j in
    let down = low_test p j i i j in
    let cases = or_cases up down in
    let left = or_left up down in
    let right = or_right up down in
    let upper = low_is p valid i j i j in
    let lower = low_is p valid j i i j in
    search rules

pub triangle_same : (triangle : Triangle) (p : Raw) → IsValid p → (i j : ℕ)
    → Filled (TriangleBase triangle p) i j ↔ InFill (TriangleBase triangle p) i j
triangle_same triangle p valid =
    filled_same (TriangleBase triangle p) (triangle_test triangle p) (triangle_is triangle p valid)
