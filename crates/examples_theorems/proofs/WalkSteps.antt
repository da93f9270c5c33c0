-- Walks along a pattern that are one step longer.
use Rattle.std.proofs.Common.{◌≡◌, ℕ, zero, suc, ◌<◌, ◌⊎◌, inl, inr, refl, subst, sym}
use Rattle.std.proofs.Common.{ap, ◌∙◌}
use Rattle.std.specs.Prelude.{nat_eq, nat_lt, ◌&&◌}
use Rattle.std.proofs.lemmas.Bool.{and_from, and_parts}
use Rattle.std.proofs.lemmas.Bool.Decides.{Decides-eqb, Decides-ltb}
use Rattle.nalgebra_sparse.specs.Algebra.{CommRing}
use Rattle.nalgebra_sparse.specs.Plain.{plain_identity}
use Rattle.nalgebra_sparse.specs.Compressed.{Compressed}
use Rattle.nalgebra_sparse.specs.PlainOfLanes.{plain_of_rows}
use Rattle.nalgebra_sparse.specs.ArraysDeterminePlain.{HasLanesAsRows}
use Rattle.nalgebra_sparse.specs.Raw.{Raw, IsEntry}
use Rattle.nalgebra_sparse.specs.Products.{IsProductOf}
use Rattle.nalgebra_sparse.specs.PatternSums.{IsUnionOf}
use Rattle.examples_theorems.specs.Walking.{IsDiagonal, WalkWithin, HoldsWalks, TakesSteps}
use Rattle.examples_theorems.specs.Walking.WalkWithin.{here, step}

-- a walk of at most k steps is one of at most k + 1 steps
longer : (p : Raw) (k i j : ℕ) → WalkWithin p k i j → WalkWithin p (suc k) i j
longer p k i j (here lt) = here lt
longer p (suc k) i j (step {m = m} a walk) = step a (longer p k m j walk)

no_step : (p : Raw) (i j : ℕ) → WalkWithin p zero i j → (i ≡ j) × (i < p.major_dim)
no_step p i j (here lt) = (refl, lt)

stay : (p : Raw) (k i j : ℕ) → i ≡ j → i < p.major_dim → WalkWithin p k i j
stay p k i j e lt = let P : ℕ → Type 0 = λ t. WalkWithin p k i t in subst P e (here lt)

pub diagonal-walks : (p d : Raw) → IsDiagonal d p.major_dim → HoldsWalks p 0 d
diagonal-walks p d is i j = (
  λ place. let found = (is i j).0 place in stay p 0 i j found.0 found.1,
  λ walk. (is i j).1 (no_step p i j walk),
)

module _ (p d b r next : Raw) (k : ℕ) (is : IsDiagonal d p.major_dim) (union : IsUnionOf b d p)
    (walks : HoldsWalks p k r) (product : IsProductOf next b r) where
  to_walk : (i m j : ℕ) → (IsEntry d i m ⊎ IsEntry p i m) → WalkWithin p k m j
      → WalkWithin p (suc k) i j
  to_walk i m j (inl onto) walk =
      let P : ℕ → Type 0 = λ t. WalkWithin p k t j in
      longer p k i j (subst P (sym ((is i m).0 onto).0) walk)
  to_walk i m j (inr along) walk = step along walk

  to_place : (i j : ℕ) → WalkWithin p (suc k) i j → IsEntry next i j
  to_place i j (here lt) =
      (product i i).1 (i, (union i i).1 (inl ((is i i).1 (refl, lt))), (walks i i).1 (here lt))
  to_place i j (step {m = m} a walk) =
      (product i j).1 (m, (union i m).1 (inr a), (walks m j).1 walk)

  pub next-walks : HoldsWalks p (suc k) next
  next-walks i j = (
    λ place. let found = (product i j).0 place in
        to_walk i found.0 j ((union i found.0).0 found.1) ((walks found.0 j).0 found.2),
    to_place i j,
  )

pub more-steps : (b start r next : Raw) (k : ℕ) → TakesSteps b start k r → IsProductOf next b r
    → TakesSteps b start (suc k) next
more-steps b start r next k steps product =
    λ p d is union none. next-walks p d b r next k is union (steps p d is union none) product

-- the pattern of an identity matrix is a diagonal
pub identity-diagonal : (R : CommRing) {T : Type 0} (f : T → R.Carrier) (m : Compressed T)
    (p : Raw) (n : ℕ) → p ≡ m.pattern → plain_of_rows R f m ≡ plain_identity R n
    → HasLanesAsRows R f m (plain_of_rows R f m) → IsDiagonal p n
identity-diagonal R f m p n is plain lanes i j =
    let same : (plain_of_rows R f m).has i j ≡ (nat_eq i j && nat_lt i n) =
    ap (λ a. a.has i j) plain in
    let P : Raw → Type 0 = λ d. IsEntry d i j in (
      λ place.
          let parts = and_parts (nat_eq i j) (nat_lt i n)
          (sym same ∙ (lanes.places i j).0 (subst P is place)) in
          ((Decides-eqb i j).0 parts.0, (Decides-ltb i n).0 parts.1),
      λ on. subst P (sym is) ((lanes.places i j).1
          (same ∙ and_from (nat_eq i j) (nat_lt i n)
          ((Decides-eqb i j).1 on.0) ((Decides-ltb i n).1 on.1))),
    )
