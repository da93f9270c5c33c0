-- The places of the product of plain matrices.
use Rattle.std.proofs.Common.{◌≡◌, ℕ, ◌↔◌, true, ◌&&◌, arith}
use Rattle.sparse_algebra.proofs.Cases.{and_both, and_parts}
use Rattle.sparse_algebra.specs.Algebra.{CommRing}
use Rattle.sparse_algebra.specs.Plain.{Plain, IsProper, plain_product}
use Rattle.sparse_algebra.proofs.PlainLemmas.{any_is, proper_product}
use Rattle.sparse_compressed.specs.Compressed.{Compressed, IsSound}
use Rattle.sparse_compressed.specs.PlainOfLanes.{plain_of_rows}
use Rattle.sparse_compressed.proofs.Arrays.{proper_rows}
use Rattle.sparse_compressed.proofs.ArraysDeterminePlain.{plain_of_rows-has_lanes}
use Rattle.sparse_products.proofs.ProductLanes.{IsInProduct}

module _ (R : CommRing) {T : Type 0} (f : T → R.Carrier) {a b : Compressed T} (sa : IsSound a)
    (sb : IsSound b) (fits : a.pattern.minor_dim ≡ b.pattern.major_dim) where
  abbrev pub product : Plain R
  product = plain_product R (plain_of_rows R f a) (plain_of_rows R f b)

  -- (i, j) is a place of the product if and only if some k has (i, k) in a and (k, j) in b
  pub joined_places : (i j : ℕ) → IsInProduct a.pattern b.pattern i j ↔ (product.has i j ≡ true)
  joined_places i j =
      let left = (plain_of_rows-has_lanes R f a sa).places i in
      let right = λ (k : ℕ). (plain_of_rows-has_lanes R f b sb).places k j in
      let any = any_is a.pattern.minor_dim (λ k. (plain_of_rows R f a).has i k
      && (plain_of_rows R f b).has k j) in (
        λ h. any.1 (
          h.0,
          omega (arith, h.2.in_lane.lane),
          and_both _ _ ((left h.0).0 h.1) ((right h.0).0 h.2),
        ),
        λ h. let s = any.0 h in let t = and_parts _ _
            s.2 in (s.0, (left s.0).1 t.0, (right s.0).1 t.1),
      )

  pub product_is_proper : IsProper product
  product_is_proper = proper_product R (plain_of_rows R f a) (plain_of_rows R f b)
      (proper_rows R f a) (proper_rows R f b)
