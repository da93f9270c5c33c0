-- The entries of a pattern that a loop has not visited yet.
use Rattle.std.proofs.Common.{◌≡◌, ℕ, zero, suc, ◌⊎◌, inl, inr, List, [], ◌∷◌, ◌↔◌, subst, sym}
use Rattle.std.proofs.Common.{ap, length, refl, arith}
use Rattle.std.specs.List.{Contains}
use Rattle.sparse_pattern.specs.Raw.{Raw, IsEntry}
use Rattle.sparse_pattern.proofs.LaneOrder.{contains_cases}

pub Contains-tail : {X : Type 0} (x : X) (xs : List X) (y : X) → Contains xs y → Contains (x ∷ xs) y
Contains-tail x xs y (k, lt, e) = (suc k, omega (arith, lt), e)

pub Contains-head : {X : Type 0} (x : X) (xs : List X) → Contains (x ∷ xs) x
Contains-head x xs = (zero, omega arith, refl)

-- the rest are entries of the pattern, and `Done` holds of every other entry
pub record IsPartlyVisited (p : Raw) (rest : List (ℕ × ℕ)) (Done : ℕ → ℕ → Type 0) : Type 0 where
  pub entries : (i j : ℕ) → Contains rest (i, j) → IsEntry p i j
  pub done : (i j : ℕ) → IsEntry p i j → Contains rest (i, j) ⊎ Done i j

module _ (p : Raw) where
  pub none_done : (entries : List (ℕ × ℕ)) (Done : ℕ → ℕ → Type 0)
      → ((i j : ℕ) → Contains entries (i, j) ↔ IsEntry p i j) → IsPartlyVisited p entries Done
  none_done entries Done are = record {
    entries = λ i j h. (are i j).0 h;
    done = λ i j h. inl ((are i j).1 h);
  }

  pub next_place : {rest tail : List (ℕ × ℕ)} {Done : ℕ → ℕ → Type 0} (i j : ℕ)
      → rest ≡ (i, j) ∷ tail → IsPartlyVisited p rest Done → IsEntry p i j
  next_place {rest} {tail} i j is h =
      h.entries i j (subst (λ l. Contains l (i, j)) (sym is) (Contains-head (i, j) tail))

  pub next_done : {rest tail : List (ℕ × ℕ)} {Done Now : ℕ → ℕ → Type 0} (i j : ℕ)
      → rest ≡ (i, j) ∷ tail → ((a b : ℕ) → Done a b → Now a b) → Now i j
      → IsPartlyVisited p rest Done → IsPartlyVisited p tail Now
  next_done {rest} {tail} {Done} {Now} i j is keeps now h = record {
    entries = λ a b c. h.entries a b
        (subst (λ l. Contains l (a, b)) (sym is) (Contains-tail (i, j) tail (a, b) c));
    done = λ a b place. elim (h.done a b place) [
      | inl c ↦ elim (contains_cases (i, j) (a, b) tail (subst (λ l. Contains l (a, b)) is c)) [
        | inl e ↦ inr (subst (λ (x : ℕ × ℕ). Now x.0 x.1) e now)
        | inr c ↦ inl c
      ]
      | inr d ↦ inr (keeps a b d)
    ];
  }

  pub all_done : {rest : List (ℕ × ℕ)} {Done : ℕ → ℕ → Type 0} → rest ≡ []
      → IsPartlyVisited p rest Done → (i j : ℕ) → IsEntry p i j → Done i j
  all_done {rest} {Done} is h i j place = elim (h.done i j place) [
    | inl c ↦
        absurd (omega (arith, c.1, ap length is))
    | inr d ↦ d
  ]
