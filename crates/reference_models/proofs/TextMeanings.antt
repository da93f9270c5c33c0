-- The answer equals the meaning of the document.
use Rattle.std.proofs.Common.{◌≡◌, ℕ, List, Result, Ok, Err, IfOk, sym, subst}
use Rattle.sparse_coo_dense.specs.Coo.{Coo}
use Rattle.sparse_parser.specs.Reads.{Read}
use Rattle.sparse_parser.specs.Scalars.{Scalar}
use Rattle.sparse_parser.specs.Meaning.{Means}
use Rattle.sparse_parser.specs.InnerReading.{written_of, document_of, read}
use Rattle.sparse_io.proofs.OneMeaning.{read_means}

pub means_from : (S : Scalar) {A E : Type 0} (f : A → Read (Coo S.Value)) (text : List ℕ)
    (lines : List (List (List ℕ))) (r : Result A E)
    → lines ≡ written_of text → IfOk r (λ x. f x ≡ document_of S lines)
    → IfOk r (λ x. Means S text (f x))
unfolding read
means_from S f text lines (Ok x) same e =
    subst (Means S text) (sym (rw same at e)) (read_means S text)
means_from S f text lines (Err _) same e = tt
