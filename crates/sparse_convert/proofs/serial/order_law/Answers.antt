use Rattle.std.proofs.Common.{◌≡◌, ap, sym, ◌∙◌}
use Rattle.sparse_algebra.specs.Algebra.{CommRing}
use Rattle.sparse_algebra.specs.Plain.{plain_of_triplets}
use Rattle.sparse_algebra.proofs.PlainLemmas.{plain_of_triplets-permuted}
use Rattle.sparse_coo_dense.specs.Coo.{Coo}
use Rattle.sparse_coo_dense.specs.CooPlain.{plain_of_coo}
use Rattle.std.specs.List.Sorted.{IsPermutation}
use Rattle.sparse_convert.proofs.serial.order_law.Goals as goal

-- lists of the same shape whose triplets are permutations of each other have the same plain matrix
same_plain : (R : CommRing) {T : Type 0} (f : T → R.Carrier) (a b : Coo T) → a.nrows ≡ b.nrows
    → a.ncols ≡ b.ncols → IsPermutation a.triplets b.triplets
    → plain_of_coo R f a ≡ plain_of_coo R f b
same_plain R f a b rows cols moved =
    ap (λ k. plain_of_triplets R f k a.ncols a.triplets) rows
    ∙ ap (λ k. plain_of_triplets R f b.nrows k a.triplets) cols
    ∙ plain_of_triplets-permuted R f b.nrows b.ncols a.triplets b.triplets moved

pub returns : goal.returns
returns g c =
    let R = g.T.Ring.ring in
    let f = g.T.Ring.value in
    let equal = c.equal_law.ensures in
    record {
      rows = λ a b m n rows cols moved sm is_a sn is_b. (equal.rows m n sm sn).1
          (is_a ∙ same_plain R f a b rows cols moved ∙ sym is_b);
      cols = λ a b m n rows cols moved sm is_a sn is_b. (equal.cols m n sm sn).1
          (is_a ∙ same_plain R f a b rows cols moved ∙ sym is_b);
    }
