-- A product whose pattern is computed first, and whose terms are then added to zeros.
use Rattle.std.proofs.Common.{◌≡◌, ap, ◌∙◌}
use Rattle.sparse_algebra.specs.Algebra.{CommRing}
use Rattle.sparse_algebra.specs.Prealloc.{plain_update}
use Rattle.sparse_algebra.proofs.PlainLemmas.{same_plain, same_bool}
use Rattle.sparse_algebra.proofs.RingLemmas.{zero_add, mul_zero}
use Rattle.sparse_pattern.specs.Raw.{Raw}
use Rattle.sparse_compressed.specs.Compressed.{Compressed, IsSound}
use Rattle.sparse_compressed.specs.PlainOfLanes.{plain_of_rows}
use Rattle.sparse_compressed.proofs.ArraysDeterminePlain.{plain_of_rows-has_lanes}
use Rattle.sparse_products.specs.Products.{IsProductOf}
use Rattle.sparse_products.specs.InnerUpdates.{ContainsProduct}
use Rattle.sparse_products.proofs.ProductPlaces.{product, joined_places}

pub contains_product : (d a b : Raw) → IsProductOf d a b → ContainsProduct d a b
contains_product d a b is i j k left right = (is i j).1 (k, left, right)

-- updating a matrix with the product's pattern, with beta = 0 and alpha = 1, gives the product
pub update_with_zero_beta : (R : CommRing) {T : Type 0} (f : T → R.Carrier) {a b m : Compressed T}
    (sa : IsSound a) (sb : IsSound b) (fits : a.pattern.minor_dim ≡ b.pattern.major_dim)
    → IsSound m → m.pattern.major_dim ≡ a.pattern.major_dim
    → m.pattern.minor_dim ≡ b.pattern.minor_dim
    → IsProductOf m.pattern a.pattern b.pattern → (none unit : R.Carrier) → none ≡ R.zero
    → unit ≡ R.one
    → plain_update R none (plain_of_rows R f m) unit (product R f sa sb fits)
    ≡ product R f sa sb fits
update_with_zero_beta R f {m = m} sa sb fits sm major minor is none unit none_is unit_is =
    let P = product R f sa sb fits in
    let here = (plain_of_rows-has_lanes R f m sm).places in
    let joined = joined_places R f sa sb fits in
    same_plain _ P major minor
    (λ i j. same_bool _ _ (λ h. (joined i j).0 ((is i j).0 ((here i j).1 h)))
    (λ h. (here i j).0 ((is i j).1 ((joined i j).1 h))))
    (λ i j.
    let c = (plain_of_rows R f m).value i j in
    let x = P.value i j in
    ap (λ y. R.add y (R.mul unit x)) (ap (λ n. R.mul n c) none_is ∙ R.laws.mul_comm R.zero c
    ∙ mul_zero R c) ∙ zero_add R (R.mul unit x) ∙ R.laws.mul_comm unit x ∙ ap (R.mul x) unit_is
    ∙ R.laws.mul_one x)
