-- A walk of any length is shortened to one of at most as many steps as the pattern has lanes.
use Rattle.std.proofs.Common.{◌≡◌, ℕ, zero, suc, ◌<◌, ◌≤◌, inl, inr, true, false}
use Rattle.std.proofs.Common.{List, [], ◌∷◌, length, refl, subst, sym, arith}
use Rattle.std.specs.Prelude.{eqb}
use Rattle.std.specs.List.{list_any, IsDistinct, AllByRecursion}
use Rattle.std.proofs.lemmas.Bool.{cases_Bool, or_cases, or_parts, eqb-true}
use Rattle.std.proofs.lemmas.Map.Keys.{IsDistinct-cons, IsDistinct-tail}
use Rattle.std.proofs.lemmas.Map.Steps.{length-le_from_distinct_below}
use Rattle.nalgebra_sparse.specs.Raw.{Raw, IsEntry}
use Rattle.examples_theorems.specs.Walking.{WalkWithin, HoldsWalks, HoldsReachable}
use Rattle.examples_theorems.specs.Walking.WalkWithin.{here, step}

distinct_one : (i : ℕ) → IsDistinct eqb (i ∷ [])
unfolding IsDistinct
distinct_one i = (tt, tt)

all_miss : (q : ℕ) (xs : List ℕ) → list_any (eqb q) xs ≡ false
    → AllByRecursion (λ y. eqb q y ≡ false) xs
all_miss q [] none = tt
all_miss q (x ∷ xs) none =
    let parts = or_parts (eqb q x) (list_any (eqb q) xs) none in (parts.0, all_miss q xs parts.1)

module _ (p : Raw) where
  -- a walk of at most k steps is one of at most n steps
  longer_to : (k n i j : ℕ) → k ≤ n → WalkWithin p k i j → WalkWithin p n i j
  longer_to k n i j le (here lt) = here lt
  longer_to (suc k) zero i j le (step a walk) = absurd (omega arith)
  longer_to (suc k) (suc n) i j le (step {m = m} a walk) =
      step a (longer_to k n m j (omega arith) walk)

  module _ (j : ℕ) where
    -- a walk from i through these indices, of which the last is j
    abbrev IsTrail : ℕ → List ℕ → Type 0
    IsTrail i [] = (i ≡ j) × (i < p.major_dim)
    IsTrail i (m ∷ vs) = IsEntry p i m × IsTrail m vs

    walk_of : (i : ℕ) (vs : List ℕ) → IsTrail i vs → WalkWithin p (length vs) i j
    walk_of i [] trail =
        let P : ℕ → Type 0 = λ t. WalkWithin p 0 i t in subst P trail.0 (here trail.1)
    walk_of i (m ∷ vs) trail = step trail.0 (walk_of m vs trail.1)

    first_below : (i : ℕ) (vs : List ℕ) → IsTrail i vs → i < p.major_dim
    first_below i [] trail = trail.1
    first_below i (m ∷ vs) trail = trail.0.in_lane.lane

    each_below : (i : ℕ) (vs : List ℕ) → IsTrail i vs → (q : ℕ)
        → list_any (eqb q) (i ∷ vs) ≡ true → q < p.major_dim
    each_below i [] trail q hit = elim (or_cases (eqb q i) false hit) [
      | inl is ↦ omega (arith, eqb-true q i is, trail.1)
      | inr miss ↦ cc
    ]
    each_below i (m ∷ vs) trail q hit =
        elim (or_cases (eqb q i) (list_any (eqb q) (m ∷ vs)) hit) [
          | inl is ↦ omega (arith, eqb-true q i is, first_below i (m ∷ vs) trail)
          | inr later ↦ each_below m vs trail.1 q later
        ]

    -- a walk from i through distinct indices
    abbrev HasPath : ℕ → Type 0
    HasPath i = (vs : List ℕ) × IsTrail i vs × IsDistinct eqb (i ∷ vs)

    path_at : (i q : ℕ) → eqb q i ≡ true → HasPath i → HasPath q
    path_at i q is path = subst HasPath (sym (eqb-true q i is)) path

    -- the rest of a path, from one of its indices on
    rest_from : (i : ℕ) (vs : List ℕ) → IsTrail i vs → IsDistinct eqb (i ∷ vs) → (q : ℕ)
        → list_any (eqb q) (i ∷ vs) ≡ true → HasPath q
    rest_from i [] trail distinct q hit = elim (or_cases (eqb q i) false hit) [
      | inl is ↦ path_at i q is ([], trail, distinct)
      | inr miss ↦ cc
    ]
    rest_from i (m ∷ vs) trail distinct q hit =
        elim (or_cases (eqb q i) (list_any (eqb q) (m ∷ vs)) hit) [
          | inl is ↦ path_at i q is (m ∷ vs, trail, distinct)
          | inr later ↦
              rest_from m vs trail.1 (IsDistinct-tail eqb i (m ∷ vs) distinct) q later
        ]

    one_more : (i m : ℕ) → IsEntry p i m → HasPath m → HasPath i
    one_more i m a (vs, trail, distinct) = elim (cases_Bool (list_any (eqb i) (m ∷ vs))) [
      | inl hit ↦ rest_from m vs trail distinct i hit
      | inr miss ↦ (
        m ∷ vs,
        (a, trail),
        IsDistinct-cons eqb i (m ∷ vs) (all_miss i (m ∷ vs) miss) distinct,
      )
    ]

  path_of : (k i j : ℕ) → WalkWithin p k i j → HasPath j i
  path_of k i j (here lt) = ([], (refl, lt), distinct_one i)
  path_of (suc k) i j (step {m = m} a walk) = one_more j i m a (path_of k m j walk)

  short_walk : (k i j : ℕ) → WalkWithin p k i j → WalkWithin p p.major_dim i j
  short_walk k i j walk =
      let path = path_of k i j walk in
      let bound : length (i ∷ path.0) ≤ p.major_dim =
      length-le_from_distinct_below (i ∷ path.0) p.major_dim path.2 (each_below j i path.0 path.1) in
      longer_to (length path.0) p.major_dim i j (omega arith) (walk_of j i path.0 path.1)

  -- walks of at most as many steps as there are lanes join all pairs that any walks join
  pub walks_of_any_length : (r : Raw) → HoldsWalks p p.major_dim r → HoldsReachable p r
  walks_of_any_length r holds i j = (
    λ place. (p.major_dim, (holds i j).0 place),
    λ found. (holds i j).1 (short_walk found.0 i j found.1),
  )
