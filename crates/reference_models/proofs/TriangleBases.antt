-- The base of a triangle, by the entries of the pattern.
use Rattle.std.proofs.Common.{◌≡◌, ℕ, ◌+◌, ◌<◌, ◌≤◌, inl, inr, refl, sym, subst, arith, max, min}
use Rattle.sparse_algebra.proofs.Cases.{lt_or_ge}
use Rattle.sparse_pattern.specs.Raw.{Raw, IsValid, IsEntry}
use Rattle.sparse_factor.specs.Fill.{TriangleBase, UpperBase, LowerBase}
use Rattle.sparse_factor.specs.declared.factorization.Triangle.{Triangle}
use Rattle.sparse_factor.specs.declared.factorization.Triangle.TheVariants.{Upper, Lower, Both}
use Rattle.reference_models.specs.Pairs.{pair}
use Rattle.reference_models.specs.InnerClosure.{IsOfTriangle, base_pair}

base_pair_above : (row column : ℕ) → row ≤ column → base_pair row column ≡ pair column row
base_pair_above row column le =
    let high : max row column ≡ column = omega arith in
    let low : min row column ≡ row = omega arith in
    rw (high, low) refl

base_pair_below : (row column : ℕ) → column ≤ row → base_pair row column ≡ pair row column
base_pair_below row column le =
    let high : max row column ≡ row = omega arith in
    let low : min row column ≡ column = omega arith in
    rw (high, low) refl

-- an entry of the pattern that is of the triangle and gives the pair (i, j)
pub record IsGiven (triangle : Triangle) (p : Raw) (i j : ℕ) : Type 0 where
  pub row : ℕ
  pub column : ℕ
  pub place : IsEntry p column row
  pub of_triangle : IsOfTriangle triangle row column
  pub is : base_pair row column ≡ pair i j

upper_given : (p : Raw) (i j : ℕ) → UpperBase p i j → IsGiven Upper p i j
upper_given p i j b = record {
  row = j;
  column = i;
  place = b.0;
  of_triangle = b.1;
  is = base_pair_above j i b.1;
}

lower_given : (p : Raw) (i j : ℕ) → LowerBase p i j → IsGiven Lower p i j
lower_given p i j b = record {
  row = i;
  column = j;
  place = b.0;
  of_triangle = b.1;
  is = base_pair_below i j b.1;
}

both_given : (triangle : Triangle) (p : Raw) (i j : ℕ) → IsGiven triangle p i j → IsGiven Both p i j
both_given triangle p i j g = record {
  row = g.row;
  column = g.column;
  place = g.place;
  of_triangle = tt;
  is = g.is;
}

pub given_from_base : (triangle : Triangle) (p : Raw) (i j : ℕ) → TriangleBase triangle p i j
    → IsGiven triangle p i j
given_from_base Upper p i j b = upper_given p i j b
given_from_base Lower p i j b = lower_given p i j b
given_from_base Both p i j b = elim b [
  | inl upper ↦ both_given Upper p i j (upper_given p i j upper)
  | inr lower ↦ both_given Lower p i j (lower_given p i j lower)
]

upper_base : (p : Raw) (row column : ℕ) → IsEntry p column row → row ≤ column
    → UpperBase p (base_pair row column).0 (base_pair row column).1
upper_base p row column place le =
    subst (λ x. UpperBase p x.0 x.1) (sym (base_pair_above row column le)) (place, le)

lower_base : (p : Raw) (row column : ℕ) → IsEntry p column row → column ≤ row
    → LowerBase p (base_pair row column).0 (base_pair row column).1
lower_base p row column place le =
    subst (λ x. LowerBase p x.0 x.1) (sym (base_pair_below row column le)) (place, le)

pub base_from_entry : (triangle : Triangle) (p : Raw) (row column : ℕ) → IsEntry p column row
    → IsOfTriangle triangle row column
    → TriangleBase triangle p (base_pair row column).0 (base_pair row column).1
base_from_entry Upper p row column place le = upper_base p row column place le
base_from_entry Lower p row column place le = lower_base p row column place le
base_from_entry Both p row column place any = elim (lt_or_ge row column) [
  | inl lt ↦ inl (upper_base p row column place (omega arith))
  | inr ge ↦ inr (lower_base p row column place ge)
]

place_bounds : (p : Raw) (row column : ℕ) → IsValid p → IsEntry p column row
    → (column < p.major_dim) × (row < p.minor_dim)
place_bounds p row column valid place =
    let at = place.in_lane in
    let low = (valid.lanes column at.lane).bounded place.at at.from at.to in
    (at.lane, omega (arith, low, place.index))

upper_bounds : (p : Raw) (i j : ℕ) → IsValid p → UpperBase p i j
    → (i < p.major_dim + p.minor_dim) × (j ≤ i)
upper_bounds p i j valid b =
    let at = place_bounds p j i valid b.0 in
    (omega (arith, at.0), b.1)

lower_bounds : (p : Raw) (i j : ℕ) → IsValid p → LowerBase p i j
    → (i < p.major_dim + p.minor_dim) × (j ≤ i)
lower_bounds p i j valid b =
    let at = place_bounds p i j valid b.0 in
    (omega (arith, at.1), b.1)

-- a pair of the base is below the sizes, and not above the diagonal
pub base_bounds : (triangle : Triangle) (p : Raw) (i j : ℕ) → IsValid p
    → TriangleBase triangle p i j → (i < p.major_dim + p.minor_dim) × (j ≤ i)
base_bounds Upper p i j valid b = upper_bounds p i j valid b
base_bounds Lower p i j valid b = lower_bounds p i j valid b
base_bounds Both p i j valid b = elim b [
  | inl upper ↦ upper_bounds p i j valid upper
  | inr lower ↦ lower_bounds p i j valid lower
]
