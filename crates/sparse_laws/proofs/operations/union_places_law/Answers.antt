use Rattle.std.proofs.Common.{inl, inr}
use Rattle.sparse_algebra.proofs.Cases.{or_cases, or_left, or_right}
use Rattle.sparse_laws.proofs.operations.union_places_law.Goals as goal

pub returns : goal.returns
returns g c = λ d a b sa sb places i j.
    let left = (c.stands_law.ensures.rows a sa).places i j in
    let right = (c.stands_law.ensures.rows b sb).places i j in (
      λ h. elim ((places i j).0 h) [
        | inl x ↦ or_left _ _ (left.0 x)
        | inr y ↦ or_right _ _ (right.0 y)
      ],
      λ h. (places i j).1 (elim (or_cases _ _ h)
          [ inl x ↦ inl (left.1 x) | inr y ↦ inr (right.1 y) ]),
    )
