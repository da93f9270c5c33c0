use Rattle.std.proofs.Common.{◌≡◌, ◌⊎◌, ℕ, List, inl, inr, Ok, Err, string_bytes}
use Rattle.std.specs.declared.io.ErrorKind.TheVariants as io
use Rattle.std.specs.IoError.{error_kind}
use Rattle.sparse_parser.specs.declared.error.MatrixMarketErrorKind.TheVariants.{OutOfMemory}
use Rattle.sparse_parser.specs.Errors.{kind_of}
use Rattle.sparse_parser.specs.Meaning.{Means, values_of}
use Rattle.sparse_io.specs.Files.{file_fault, IsReadFault}
use Rattle.std.proofs.lemmas.Result.{IfOk-weaker, IfErr-weaker}
use Rattle.sparse_io.proofs.FileFaults.{Ok-from-Ok, Err-from-either}
use Rattle.sparse_io.proofs.files.load_coo_from_matrix_market_file.Goals as goal

pub returns-clause-ok : goal.returns-clause-ok
returns-clause-ok g c =
    let S = g.T.MatrixMarketScalar.scalar in
    let value = g.T.MatrixMarketScalar.value in
    IfOk-weaker c.load_read.result _
    (λ m. (text : List ℕ) × Means S text (Ok (values_of value m)))
    (λ m meant. (string_bytes meant.0, meant.1))
    (Ok-from-Ok (λ text m. Means S (string_bytes text) (Ok (values_of value m)))
    (λ _ e. kind_of e ≡ OutOfMemory) (λ fault e. kind_of e ≡ file_fault (error_kind fault))
    c.read_to_string.result c.load_read.result c.load_read.ensures.ok c.load_read.ensures.unread)

pub returns-clause-refused : goal.returns-clause-refused
returns-clause-refused g c =
    let S = g.T.MatrixMarketScalar.scalar in
    IfErr-weaker c.load_read.result _
    (λ e. IsReadFault (kind_of e) ⊎ ((text : List ℕ) × Means S text (Err (kind_of e))))
    (λ e why. elim why [
      | inl unread ↦ inl (record { fault = error_kind unread.0; is = unread.1 })
      | inr read ↦ elim read.1 [
        | inl memory ↦ inl (record { fault = io.OutOfMemory; is = memory })
        | inr means ↦ inr (string_bytes read.0, means)
      ]
    ])
    (Err-from-either (λ _ m. Unit {0})
    (λ text e. (kind_of e ≡ OutOfMemory) ⊎ Means S (string_bytes text) (Err (kind_of e)))
    (λ fault e. kind_of e ≡ file_fault (error_kind fault))
    c.read_to_string.result c.load_read.result c.load_read.ensures.refused
    c.load_read.ensures.unread)
