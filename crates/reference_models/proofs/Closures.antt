-- Sets of pairs that grow until they are closed under fill.
use Rattle.std.proofs.Common.{◌≡◌, ◌≢◌, ℕ, zero, suc, ◌+◌, ◌<◌, ◌≤◌, inl, inr, ◌↔◌, List, [], ◌∷◌}
use Rattle.std.proofs.Common.{◌++◌, length, get_or, sym, ap, ◌∙◌, subst, arith}
use Rattle.std.specs.List.{Contains, AllPairs}
use Rattle.std.specs.Set.{is_member}
use Rattle.std.proofs.lemmas.List.{get_or_default, get_or-map, length-map, length_push}
use Rattle.std.proofs.lemmas.List.Elements.{Contains-push, Contains-push_cases}
use Rattle.std.proofs.lemmas.List.Elements.{Contains-append_left, Contains-append_right}
use Rattle.std.proofs.lemmas.List.Quantifiers.{all_pairs_push}
use Rattle.std.proofs.lemmas.Map.Made.{length-le_from_is_member, is_member-Decides}
use Rattle.std.proofs.lemmas.Map.Made.{IsDistinct-from_AllPairs}
use Rattle.sparse_algebra.proofs.Cases.{lt_suc_cases}
use Rattle.sparse_pattern.specs.Raw.{Raw, IsValid, paired}
use Rattle.sparse_factor.specs.Fill.{InFill, TriangleBase}
use Rattle.sparse_factor.specs.declared.factorization.Triangle.{Triangle}
use Rattle.sparse_factor.proofs.Pairs.{pair_eq, same_pair, pair_laws}
use Rattle.reference_models.specs.Pairs.{pair}
use Rattle.reference_models.specs.InnerClosure.{IsWhole, IsLacking}
use Rattle.reference_models.proofs.TriangleBases.{base_bounds}

-- ---- a list of all pairs below n

numbers : ℕ → List ℕ
numbers zero = []
numbers (suc n) = numbers n ++ n ∷ []

has_number : (n k : ℕ) → k < n → Contains (numbers n) k
unfolding numbers
has_number zero k lt = absurd (omega arith)
has_number (suc n) k lt = elim (lt_suc_cases k n lt) [
  | inl below ↦ Contains-append_left (numbers n) (n ∷ []) k (has_number n k below)
  | inr e ↦ subst (Contains (numbers n ++ n ∷ [])) (sym e) (Contains-push (numbers n) n)
]

rows_of_pairs : ℕ → ℕ → List (ℕ × ℕ)
rows_of_pairs zero n = []
rows_of_pairs (suc m) n = rows_of_pairs m n ++ paired m (numbers n)

has_paired : (i j : ℕ) (js : List ℕ) → Contains js j → Contains (paired i js) (pair i j)
has_paired i j js h =
    let read : get_or (paired i js) h.0 (pair i j) ≡ pair i (get_or js h.0 j) =
    get_or-map (pair i) js h.0 j (pair i j) h.1 in
    (h.0, omega (arith, h.1, length-map js (pair i)), read ∙ ap (pair i) h.2)

has_row : (m n i j : ℕ) → i < m → j < n → Contains (rows_of_pairs m n) (pair i j)
unfolding rows_of_pairs
has_row zero n i j lt within = absurd (omega arith)
has_row (suc m) n i j lt within = elim (lt_suc_cases i m lt) [
  | inl below ↦ Contains-append_left (rows_of_pairs m n) (paired m (numbers n)) (pair i j)
      (has_row m n i j below within)
  | inr e ↦
      let here : Contains (paired m (numbers n)) (pair m j) =
      has_paired m j (numbers n) (has_number n j within) in
      Contains-append_right (rows_of_pairs m n) (paired m (numbers n)) (pair i j)
      (subst (λ x. Contains (paired m (numbers n)) (pair x j)) (sym e) here)
]

pub all_pairs_below : ℕ → List (ℕ × ℕ)
all_pairs_below n = rows_of_pairs n n

-- ---- the set so far

-- the rows and columns of a pattern are below the sum of its sizes
abbrev pub bound_of : Raw → ℕ
bound_of p = p.major_dim + p.minor_dim

-- pairs of the fill, each once
pub record IsPartOfFill (triangle : Triangle) (p : Raw) (set : List (ℕ × ℕ)) : Type 0 where
  pub once : AllPairs (λ x y. x ≢ y) set
  pub sound : (x : ℕ × ℕ) → Contains set x → InFill (TriangleBase triangle p) x.0 x.1
  pub below : (x : ℕ × ℕ) → Contains set x → (x.0 < bound_of p) × (x.1 ≤ x.0)

module _ (triangle : Triangle) (p : Raw) (set : List (ℕ × ℕ)) (x : ℕ × ℕ) (valid : IsValid p)
    (part : IsPartOfFill triangle p set) (lacks : IsLacking triangle p set x) where
  sound_new : InFill (TriangleBase triangle p) x.0 x.1
  sound_new = elim lacks.from [
    | inl b ↦ λ s closed holds. holds x.0 x.1 b
    | inr f ↦ λ s closed holds. closed x.0 x.1 f.0 (part.sound (pair x.0 f.0) f.1 s closed holds)
        (part.sound (pair x.1 f.0) f.2 s closed holds) f.3 f.4
  ]

  below_new : (x.0 < bound_of p) × (x.1 ≤ x.0)
  below_new = elim lacks.from [
    | inl b ↦ base_bounds triangle p x.0 x.1 valid b
    | inr f ↦ ((part.below (pair x.0 f.0) f.1).0, f.4)
  ]

  pub part_more : IsPartOfFill triangle p (set ++ x ∷ [])
  part_more = record {
    once = all_pairs_push (λ a b. a ≢ b) set x part.once
        (λ k d lt same. lacks.new (k, lt, get_or_default set k x d lt ∙ same));
    sound = λ y h. elim (Contains-push_cases set x y h) [
      | inl old ↦ part.sound y old
      | inr e ↦ subst (λ z. InFill (TriangleBase triangle p) z.0 z.1) e sound_new
    ];
    below = λ y h. elim (Contains-push_cases set x y h) [
      | inl old ↦ part.below y old
      | inr e ↦ subst (λ z. (z.0 < bound_of p) × (z.1 ≤ z.0)) e below_new
    ];
  }

-- there are not more of them than pairs below the bound
pub part_length : (triangle : Triangle) (p : Raw) (set : List (ℕ × ℕ))
    → IsPartOfFill triangle p set → length set ≤ length (all_pairs_below (bound_of p))
unfolding all_pairs_below
part_length triangle p set part = length-le_from_is_member pair_laws set
    (rows_of_pairs (bound_of p) (bound_of p))
    (IsDistinct-from_AllPairs same_pair set part.once)
    (λ q h.
    let b = part.below q ((is_member-Decides same_pair set q).0 h) in
    (is_member-Decides same_pair (rows_of_pairs (bound_of p) (bound_of p)) q).1
    (has_row (bound_of p) (bound_of p) q.0 q.1 b.0 (omega arith)))

pub part_grows : (triangle : Triangle) (p : Raw) (set : List (ℕ × ℕ)) (x : ℕ × ℕ) → IsValid p
    → IsPartOfFill triangle p set → IsLacking triangle p set x
    → length set + 1 ≤ length (all_pairs_below (bound_of p))
part_grows triangle p set x valid part lacks =
    let longer = part_length triangle p (set ++ x ∷ [])
    (part_more triangle p set x valid part lacks) in
    omega (arith, longer, length_push set x)

-- a closed part of the fill is the fill
pub whole_is_fill : (triangle : Triangle) (p : Raw) (set : List (ℕ × ℕ))
    → IsPartOfFill triangle p set → IsWhole triangle p set
    → (i j : ℕ) → Contains set (pair i j) ↔ InFill (TriangleBase triangle p) i j
whole_is_fill triangle p set part whole i j =
    let stored = λ (a b : ℕ). is_member pair_eq set (pair a b) in
    let is = λ (a b : ℕ). is_member-Decides same_pair set (pair a b) in (
      λ h. part.sound (pair i j) h,
      λ f. (is i j).0 (f stored
          (λ a b k left right lt le. (is a b).1 (whole.closed a b k ((is a k).0 left)
          ((is b k).0 right) lt le))
          (λ a b base. (is a b).1 (whole.base a b base))),
    )
