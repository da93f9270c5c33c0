-- A factor whose columns are those of the fill satisfies the other clauses; two factors of one
-- pattern from one triangle are equal.
use Rattle.std.proofs.Common.{◌≡◌, ℕ, ◌≤◌, inl, inr, ◌↔◌, true, IsTrue}
use Rattle.std.proofs.Common.{List, Result, Ok, Err, IfOk, refl, sym, ap, ◌∙◌, subst}
use Rattle.std.proofs.Common.{rules}
use Rattle.std.specs.Cmp.{IsEquivalence}
use Rattle.std.specs.Cmp.Rules.{comparing}
use Rattle.sparse_algebra.proofs.Cases.{and_both}
use Rattle.sparse_pattern.specs.Raw.{Raw, IsValid, IsEntry, raw_eq, HasSameEntries}
use Rattle.sparse_pattern.specs.TransposedPattern.{IsTransposedPattern}
use Rattle.sparse_pattern.proofs.SameEntries.{raw_eq-HasSameEntries}
use Rattle.sparse_sums.specs.PatternSums.{IsUnionOf}
use Rattle.sparse_factor.specs.declared.factorization.Triangle.{Triangle}
use Rattle.sparse_factor.specs.declared.factorization.Triangle.TheVariants.{Upper, Lower, Both}
use Rattle.sparse_factor.specs.Fill.{InFill, LowerBase, TriangleBase, StoresByColumns, ListsFill}
use Rattle.sparse_factor.specs.Symbolic.{Symbolic, symbolic_eq, IsFactorOf}
use Rattle.sparse_factor.specs.FillPaths.{StoresFillPaths, StoresDiagonal}
use Rattle.sparse_factor.specs.Fill.{Filled}
use Rattle.sparse_factor.proofs.FillLaws.{in_fill, filled_in, filled_diagonal, filled_into, in_fill_into}
use Rattle.sparse_factor.proofs.LeastFill.{entry_test, entry_test_is}
use Rattle.sparse_factor.proofs.Alternatives.{both_ways, other_way}
use Rattle.sparse_factor.proofs.FillPathTheorem.{Filled-FillPath}

pub stores_fill : {base : ℕ → ℕ → Type 0} {t : Raw} → ((i j : ℕ) → IsEntry t j i ↔ Filled base i j)
    → IsValid t → StoresByColumns (InFill base) t
stores_fill {base} {t} filled valid i j = (
  λ h. in_fill ((filled i j).0 h),
  λ f. (filled i j).1 (filled_in base (λ i j. entry_test t j i)
      (λ i j. both_ways (entry_test_is t valid j i) (filled i j)) i j f),
)

module _ {base : ℕ → ℕ → Type 0} {t : Raw} (low : (i j : ℕ) → base i j → j ≤ i)
    (filled : (i j : ℕ) → IsEntry t j i ↔ Filled base i j) where
  pub stores_fill_paths : StoresFillPaths base t
  stores_fill_paths i j le = both_ways (filled i j) (Filled-FillPath base low i j le)

  pub stores_diagonal : StoresDiagonal base t
  stores_diagonal j = both_ways (filled j j) (filled_diagonal base low j)

-- ---- the bases of the triangles

pub triangle_low : (triangle : Triangle) (p : Raw) (i j : ℕ) → TriangleBase triangle p i j → j ≤ i
triangle_low Upper p i j b = b.1
triangle_low Lower p i j b = b.1
triangle_low Both p i j (inl b) = b.1
triangle_low Both p i j (inr b) = b.1

pub upper_is : {p t : Raw} → IsTransposedPattern p t → (i j : ℕ)
    → LowerBase t i j ↔ TriangleBase Upper p i j
upper_is is i j = let same = is.entries i j in search rules

pub lower_is : (p : Raw) (i j : ℕ) → LowerBase p i j ↔ TriangleBase Lower p i j
lower_is p i j = (λ b. b, λ b. b)

pub both_is : {p t : Raw} (u : Raw) → IsTransposedPattern p t → IsUnionOf u p t → (i j : ℕ)
    → LowerBase u i j ↔ TriangleBase Both p i j
both_is u is union i j = let same = is.entries i j in let has = union j i in search rules

-- bases with the same pairs have the same fill
module _ {a b : ℕ → ℕ → Type 0} (same : (i j : ℕ) → a i j ↔ b i j) where
  entries_same : (l : Raw) → ((i j : ℕ) → IsEntry l j i ↔ Filled a i j) → (i j : ℕ)
      → IsEntry l j i ↔ Filled b i j
  entries_same l is i j = both_ways (is i j) (
    filled_into (λ i j. (same i j).0),
    filled_into (λ i j. (same i j).1),
  )

  pub entries_at_ok : {E : Type 0} (r : Result Raw E)
      → IfOk r (λ l. (i j : ℕ) → IsEntry l j i ↔ Filled a i j)
      → IfOk r (λ l. (i j : ℕ) → IsEntry l j i ↔ Filled b i j)
  entries_at_ok (Ok l) is = entries_same l is
  entries_at_ok (Err e) is = tt

  pub lists_same : (fill : List (ℕ × ℕ)) → ListsFill b fill → ListsFill a fill
  lists_same fill all i j h = all i j (in_fill_into (λ i j. (same i j).0) i j h)

-- ---- one factor

raw_equiv : IsEquivalence raw_eq
raw_equiv = search (comparing, rules)

module _ (triangle : Triangle) (s t : Symbolic) (input : s.input ≡ t.input)
    (a : IsFactorOf triangle s) (b : IsFactorOf triangle t) where
  same_factor : HasSameEntries s.factor t.factor
  same_factor =
      let fill = subst (λ d. StoresByColumns (InFill (TriangleBase triangle d)) s.factor) input
      a.fill in
      record {
        major_dim = a.columns ∙ ap (λ d. d.major_dim) input ∙ sym b.columns;
        minor_dim = a.rows ∙ ap (λ d. d.minor_dim) input ∙ sym b.rows;
        entries = λ j i. both_ways (fill i j) (other_way (b.fill i j));
      }

  pub factors_equal : IsTrue (symbolic_eq s t)
  factors_equal =
      let inputs : raw_eq s.input t.input ≡ true =
      subst (λ d. raw_eq s.input d ≡ true) input (raw_equiv.refl s.input) in
      let factors = (raw_eq-HasSameEntries s.factor t.factor a.valid b.valid
      (raw_eq s.factor t.factor) refl).1 same_factor in
      and_both (raw_eq s.input t.input) (raw_eq s.factor t.factor) inputs factors
