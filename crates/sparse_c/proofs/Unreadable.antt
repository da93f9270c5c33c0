-- No error of a text has the status of TooSmall.
use Rattle.std.proofs.Common.{◌≢◌, ℕ, List, pos, inl, inr, ap, sym, ◌∙◌, arith}
use Rattle.std.specs.Prelude.{nat_abs}
use Rattle.sparse_parser.specs.declared.error.MatrixMarketErrorKind.{MatrixMarketErrorKind}
use Rattle.sparse_parser.specs.declared.error.MatrixMarketErrorKind.TheVariants as texts
use Rattle.sparse_c.specs.Texts.{IsFaultOfText}
use Rattle.c_arrays.proofs.ValidStatuses.{kind_finds_fault}
use Rattle.c_arrays.specs.Statuses.{number_of, refusal_of_text}
use Rattle.c_arrays.specs.declared.refusal.Refusal.{Refusal}
use Rattle.c_arrays.specs.declared.refusal.Refusal.TheVariants.{TooSmall}

not_too_small : (n : ℕ) → n ≢ 5 → pos n ≢ number_of TooSmall
not_too_small n not_five small = not_five (ap nat_abs small)

text_kind-not_too_small : (kind : MatrixMarketErrorKind) → number_of (refusal_of_text kind) ≢ number_of TooSmall
text_kind-not_too_small texts.ParsingError = not_too_small 8 (omega arith)
text_kind-not_too_small texts.InvalidHeader = not_too_small 9 (omega arith)
text_kind-not_too_small texts.EntryMismatch = not_too_small 10 (omega arith)
text_kind-not_too_small texts.TypeMismatch = not_too_small 11 (omega arith)
text_kind-not_too_small texts.ZeroError = not_too_small 12 (omega arith)
text_kind-not_too_small (texts.SparseFormatError kind) = λ small. kind_finds_fault kind (inr (inl small))
text_kind-not_too_small texts.DiagonalError = not_too_small 13 (omega arith)
text_kind-not_too_small (texts.IOError kind) = not_too_small 16 (omega arith)
text_kind-not_too_small texts.NotLowerTriangle = not_too_small 14 (omega arith)
text_kind-not_too_small texts.NonSquare = not_too_small 15 (omega arith)
text_kind-not_too_small texts.OutOfMemory = not_too_small 1 (omega arith)

pub text_error-not_too_small : (text : List ℕ) (e : Refusal) → IsFaultOfText text e
    → number_of e ≢ number_of TooSmall
text_error-not_too_small text e (inl unreadable) small =
    not_too_small 16 (omega arith) (sym (ap number_of unreadable.0) ∙ small)
text_error-not_too_small text e (inr error) small =
    text_kind-not_too_small error.0 (sym (ap number_of error.2) ∙ small)
