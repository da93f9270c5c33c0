-- The lines that are copied: blank lines, comments and the size line.
use Rattle.std.proofs.Common.{◌≡◌, ◌≢◌, ℕ, Bool, true, false, eqb, List, [], ◌∷◌, ◌++◌, get_or}
use Rattle.std.proofs.Common.{Option}
use Rattle.std.proofs.Common.{Some, None, Result, Ok, Err, refl, sym, ap, ◌∙◌, inl, inr}
use Rattle.std.specs.Prelude.{IfOk}
use Rattle.std.specs.Option.{option_map}
use Rattle.std.proofs.lemmas.Bool.{eqb-true, eqb-false}
use Rattle.sparse_parser.specs.declared.error.Cause.{Cause}
use Rattle.sparse_parser.specs.declared.size.Size.{Size}
use Rattle.sparse_parser.specs.declared.header.Header.{Header}
use Rattle.sparse_parser.specs.Grammar.{IsOneLine, is_size}
use Rattle.sparse_parser.specs.InnerReading.{is_content, words_of, size_numbers, size_at}
use Rattle.sparse_parser.proofs.ContentLaws.{content_line, is_content-comment}
use Rattle.sparse_parser.specs.Errors.{kind_of_cause}
use Rattle.sparse_parser.specs.Meaning.{sizes_of}
use Rattle.sparse_parser.proofs.LineShapes.{size_some, size_none}
use Rattle.sparse_faults.specs.declared.fault.LineFault.{LineFault}
use Rattle.sparse_faults.specs.declared.fault.LineFault.TheVariants as faults
use Rattle.sparse_faults.specs.LineFaults.{IsFaultOfKind, IsSizesFault}
use Rattle.mtxkit_matrices.specs.declared.decimals.error.ScaleError.{ScaleError}
use Rattle.mtxkit_matrices.specs.declared.decimals.stage.Stage.{Stage}
use Rattle.mtxkit_matrices.specs.declared.decimals.stage.Stage.TheVariants.{Head, Sizes, Entries}
use Rattle.mtxkit_matrices.specs.InnerScaleFailures.{AreContent}
use Rattle.mtxkit_matrices.specs.ScaledTexts.{IsSized}
use Rattle.mtxkit_matrices.specs.InnerRewriting.{IsStep, IsWrittenAt, IsLineWritten}

-- a line whose first word begins a comment is a comment
pub is_commented : (line : List ℕ) {word : List ℕ} {words : List (List ℕ)} {t : Bool}
    → words_of line ≡ word ∷ words → t ≡ eqb (get_or word 0 0) 37 → t ≡ true
    → is_content (words_of line) ≡ false
is_commented line {word} {words} e f g =
    rw e (is_content-comment word words (eqb-true _ _ (sym f ∙ g)))

pub is_contained : (line : List ℕ) {word : List ℕ} {words : List (List ℕ)} {t : Bool}
    → words_of line ≡ word ∷ words → t ≡ eqb (get_or word 0 0) 37 → t ≡ false
    → is_content (words_of line) ≡ true
is_contained line {word} {words} e f g =
    rw e (content_line word words (eqb-false _ _ (sym f ∙ g)))

pub are_content : (line : List ℕ) {word : List ℕ} {words : List (List ℕ)} {t : Bool}
    → words_of line ≡ word ∷ words → t ≡ eqb (get_or word 0 0) 37 → t ≡ false
    → AreContent (words_of line)
are_content line e f g = record { some = λ n. cc; content = is_contained line e f g }

-- a line that is read as a size line is one, with these sizes
module _ (h : Header) (words : List (List ℕ)) (o : Option (Result Size Cause))
    (s : option_map (λ x. size_numbers x) o ≡ size_at h words) where
  sized_from : (r : Result Size Cause) → o ≡ Some r
      → (is_size words ≡ true) × (size_numbers r ≡ sizes_of h words)
  sized_from r e =
      size_some h words (size_numbers r) (sym (ap (option_map (λ x. size_numbers x)) e) ∙ s)

  pub sized : (size : Size) → o ≡ Some (Ok size)
      → (is_size words ≡ true) × IsSized h words
  sized size e = let k = sized_from (Ok size) e in (k.0, (_, sym k.1))

  -- a size line that is invalid below the header
  pub unsized : (cause : Cause) (fault : LineFault) → o ≡ Some (Err cause)
      → IsFaultOfKind (kind_of_cause cause) fault → IsSizesFault h words fault
  unsized cause fault e is =
      let k = sized_from (Err cause) e in inr (kind_of_cause cause, k.0, sym k.1, is)

  -- a line that is not a size line
  pub no_size : o ≡ None → IsSizesFault h words faults.Size
  no_size e = inl (size_none h words (sym (ap (option_map (λ x. size_numbers x)) e) ∙ s), refl)

pub comment_step : (scale : ℕ) (stage : Stage) (words : List (List ℕ)) → stage ≢ Head
    → is_content words ≡ false → IsStep scale stage words stage words
comment_step scale Head words n c = absurd (n refl)
comment_step scale (Sizes h) words n c = inl (inr c, refl, refl)
comment_step scale (Entries h) words n c = inl (inr c, refl, refl)

pub blank_step : (scale : ℕ) (stage : Stage) (words : List (List ℕ)) → words ≡ []
    → IsStep scale stage words stage words
blank_step scale Head words e = inl (e, e, refl)
blank_step scale (Sizes h) words e = inl (inl e, refl, refl)
blank_step scale (Entries h) words e = inl (inl e, refl, refl)

-- a copy of the line was appended, if the call returned `Ok`
pub copied : (line old new : List ℕ) (stage at : Stage) → IsOneLine line
    → ((scale : ℕ) → IsStep scale stage (words_of line) at (words_of line))
    → IsWrittenAt stage at line line → (r : Result Stage ScaleError) → IfOk r (λ s. s ≡ at) → IfOk r (λ s. new ≡ old ++ line)
    → IfOk r (λ next. (scale : ℕ) → IsLineWritten scale stage line next old new)
copied line old new stage at plain step kept (Ok s) e a = λ scale. record {
  written = line;
  appended = a;
  plain = plain;
  kept = rw e kept;
  step = rw e (step scale);
}
copied line old new stage at plain step kept (Err f) e a = tt
