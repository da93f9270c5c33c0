-- The triplets of a dense matrix that pass a test are ordered column by column.
use Rattle.std.proofs.Common.{◌≡◌, ℕ, zero, suc, ◌<◌, inl, inr, refl}
use Rattle.std.proofs.Common.{arith, All, cond, subst, sym, ap, ◌∙◌}
use Rattle.std.proofs.Common.{Bool, true, false, List, [], ◌∷◌, ◌++◌, map, not}
use Rattle.std.specs.List.{filter, flat_map}
use Rattle.std.proofs.lemmas.Grind.{flat_map-append}
use Rattle.std.proofs.lemmas.List.{append-nil}
use Rattle.std.proofs.lemmas.List.Elements.{All-nil, All-cons, All-head, All-tail, All-append}
use Rattle.std.proofs.lemmas.List.Elements.{All-map, All-weaker, filter_passes}
use Rattle.sparse_algebra.specs.Plain.{below}
use Rattle.sparse_convert.proofs.DenseLanes.{all_below}
use Rattle.mtxkit_matrices.specs.Orders.{coordinates_of, IsBefore, IsByColumns}

-- ---- triplets that pass a test

module _ {T : Type 0} (keep : ℕ × ℕ × T → Bool) where
  all-kept : (P : ℕ × ℕ → Type 0) (ts : List (ℕ × ℕ × T)) → All P (coordinates_of ts)
      → All P (coordinates_of (filter keep ts))
  all-kept P [] h = All-nil P
  all-kept P (t ∷ ts) h =
      let rest = all-kept P ts (All-tail P (t.0, t.1) (coordinates_of ts) h) in
      elim (keep t) as (λ v. All P (coordinates_of (cond v (t ∷ filter keep ts) (filter keep ts)))) [
        | true ↦ All-cons P (t.0, t.1) (coordinates_of (filter keep ts))
            (All-head P (t.0, t.1) (coordinates_of ts) h) rest
        | false ↦ rest
      ]

  pub kept-by_columns : (ts : List (ℕ × ℕ × T)) → IsByColumns (coordinates_of ts)
      → IsByColumns (coordinates_of (filter keep ts))
  kept-by_columns [] h = tt
  kept-by_columns (t ∷ ts) h =
      let rest = kept-by_columns ts h.1 in
      elim (keep t) as (λ v. IsByColumns (coordinates_of (cond v (t ∷ filter keep ts) (filter keep ts)))) [
        | true ↦ (all-kept (IsBefore (t.0, t.1)) ts h.0, rest)
        | false ↦ rest
      ]

-- ---- one column after another

joined : (ps qs : List (ℕ × ℕ)) → IsByColumns ps → IsByColumns qs
    → All (λ (p : ℕ × ℕ). All (IsBefore p) qs) ps → IsByColumns (ps ++ qs)
joined [] qs h k before = k
joined (p ∷ ps) qs h k before = (
  All-append (IsBefore p) ps qs h.0 (All-head (λ (r : ℕ × ℕ). All (IsBefore r) qs) p ps before),
  joined ps qs h.1 k (All-tail (λ (r : ℕ × ℕ). All (IsBefore r) qs) p ps before),
)

places-append : {T : Type 0} (ts us : List (ℕ × ℕ × T))
    → coordinates_of (ts ++ us) ≡ coordinates_of ts ++ coordinates_of us
places-append [] us = refl
places-append (t ∷ ts) us = ap (λ ps. (t.0, t.1) ∷ ps) (places-append ts us)

-- the pairs (i, j) for these rows i
abbrev in_column : ℕ → List ℕ → List (ℕ × ℕ)
in_column j is = map {B = ℕ × ℕ} (λ i. (i, j)) is

in_column-push : (j : ℕ) (is : List ℕ) (i : ℕ)
    → in_column j (is ++ i ∷ []) ≡ in_column j is ++ (i, j) ∷ []
in_column-push j [] i = refl
in_column-push j (k ∷ is) i = ap (λ ps. (k, j) ∷ ps) (in_column-push j is i)

in_column-all : (P : ℕ × ℕ → Type 0) (j : ℕ) (is : List ℕ) → All (λ i. P (i, j)) is
    → All P (in_column j is)
in_column-all P j is h = All-map P (λ i. (i, j)) is h

one-after : (P : ℕ × ℕ → Type 0) (q : ℕ × ℕ) → P q → All P (q ∷ [])
one-after P q h = All-cons P q [] h (All-nil P)

rows-by_columns : (j n : ℕ) → IsByColumns (in_column j (below n))
rows-by_columns j zero = tt
rows-by_columns j (suc n) =
    subst IsByColumns (sym (in_column-push j (below n) n))
    (joined (in_column j (below n)) ((n, j) ∷ []) (rows-by_columns j n)
    (All-nil (IsBefore (n, j)), tt)
    (in_column-all (λ (p : ℕ × ℕ). All (IsBefore p) ((n, j) ∷ [])) j (below n)
    (All-weaker (λ i. i < n) (λ i. All (IsBefore (i, j)) ((n, j) ∷ []))
    (λ i lt. one-after (IsBefore (i, j)) (n, j) (inr (refl, lt))) (below n) (all_below n))))

module _ {T : Type 0} (value : ℕ → ℕ → T) where
  -- the triplets of a column of n rows
  abbrev column : ℕ → ℕ → List (ℕ × ℕ × T)
  column n j = map {B = ℕ × ℕ × T} (λ i. (i, j, value i j)) (below n)

  abbrev columns : ℕ → List ℕ → List (ℕ × ℕ × T)
  columns n js = flat_map (column n) js

  places-column : (j : ℕ) (is : List ℕ)
      → coordinates_of (map {B = ℕ × ℕ × T} (λ i. (i, j, value i j)) is) ≡ in_column j is
  places-column j [] = refl
  places-column j (i ∷ is) = ap (λ ps. (i, j) ∷ ps) (places-column j is)

  columns-push : (n m : ℕ) → coordinates_of (columns n (below m ++ m ∷ []))
      ≡ coordinates_of (columns n (below m)) ++ in_column m (below n)
  columns-push n m =
      ap coordinates_of (flat_map-append (column n) (below m) (m ∷ []))
      ∙ places-append (columns n (below m)) (column n m ++ [])
      ∙ ap (λ ts. coordinates_of (columns n (below m)) ++ coordinates_of ts) (append-nil (column n m))
      ∙ ap (λ ps. coordinates_of (columns n (below m)) ++ ps) (places-column m (below n))

  columns-below : (n m : ℕ) → All (λ (p : ℕ × ℕ). p.1 < m) (coordinates_of (columns n (below m)))
  columns-below n zero = All-nil (λ (p : ℕ × ℕ). p.1 < 0)
  columns-below n (suc m) =
      let P = λ (p : ℕ × ℕ). p.1 < suc m in
      subst (All P) (sym (columns-push n m))
      (All-append P (coordinates_of (columns n (below m))) (in_column m (below n))
      (All-weaker (λ (p : ℕ × ℕ). p.1 < m) P (λ (p : ℕ × ℕ) (lt : p.1 < m). omega (arith, lt))
      (coordinates_of (columns n (below m))) (columns-below n m))
      (in_column-all P m (below n) (All-weaker (λ i. i < n) (λ i. m < suc m) (λ i lt. omega arith)
      (below n) (all_below n))))

  pub columns-by_columns : (n m : ℕ) → IsByColumns (coordinates_of (columns n (below m)))
  columns-by_columns n zero = tt
  columns-by_columns n (suc m) =
      let before = λ (p : ℕ × ℕ). All (IsBefore p) (in_column m (below n)) in
      subst IsByColumns (sym (columns-push n m))
      (joined (coordinates_of (columns n (below m))) (in_column m (below n)) (columns-by_columns n m)
      (rows-by_columns m n)
      (All-weaker (λ (p : ℕ × ℕ). p.1 < m) before
      (λ (p : ℕ × ℕ) (lt : p.1 < m). in_column-all (IsBefore p) m (below n)
      (All-weaker (λ i. i < n) (λ i. IsBefore p (i, m)) (λ i row. inl lt) (below n) (all_below n)))
      (coordinates_of (columns n (below m))) (columns-below n m)))

-- ---- nonzero values

module _ {T : Type 0} (E : T → T → Bool) (z : T) where
  pub kept-differ : (P : T → Type 0) → ((v : T) → P v → E v z ≡ true) → (ts : List (ℕ × ℕ × T))
      → All (λ t. P t.2 → ⊥) (filter (λ t. not (E t.2 z)) ts)
  kept-differ P equal ts =
      let keep = λ (t : ℕ × ℕ × T). not (E t.2 z) in
      All-weaker (λ t. keep t ≡ true) (λ t. P t.2 → ⊥)
      (λ t (kept : not (E t.2 z) ≡ true) p. both_ways (E t.2 z) (equal t.2 p) kept)
      (filter keep ts) (filter_passes keep ts)
    where
      both_ways : (b : Bool) → b ≡ true → not b ≡ true → ⊥
      both_ways true h k = cc
      both_ways false h k = cc
