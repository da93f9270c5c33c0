-- The meaning of a text by its header line and the text below it, and then by the size line and the
-- data lines.
use Rattle.std.proofs.Common.{◌≡◌, ℕ, Bool, true, false, cond, List, [], ◌∷◌, Some, None}
use Rattle.std.proofs.Common.{Result, Ok, Err, refl, sym, ap, subst, ◌∙◌, inl, inr}
use Rattle.std.specs.Prelude.{IfOk, IfErr, ◌⊎◌}
use Rattle.std.specs.List.{list_all}
use Rattle.sparse_coo_dense.specs.Coo.{Coo}
use Rattle.sparse_parser.specs.declared.error.Cause.{Cause}
use Rattle.sparse_parser.specs.declared.error.MatrixMarketErrorKind.TheVariants.{ParsingError}
use Rattle.sparse_parser.specs.declared.error.MatrixMarketErrorKind.TheVariants.{OutOfMemory}
use Rattle.sparse_parser.specs.declared.error.MatrixMarketError.{MatrixMarketError}
use Rattle.sparse_parser.specs.declared.header.Header.{Header}
use Rattle.sparse_parser.specs.declared.size.Size.{Size}
use Rattle.sparse_parser.specs.Errors.{kind_of, kind_of_cause}
use Rattle.sparse_parser.specs.Bytes.{leading, after}
use Rattle.sparse_parser.specs.InnerBytes.{is_space, is_within_line, BeginsLine}
use Rattle.sparse_parser.specs.Header.{header_of}
use Rattle.sparse_parser.specs.Grammar.{is_size, is_entry}
use Rattle.sparse_parser.specs.Reads.{Read}
use Rattle.sparse_parser.specs.Scalars.{Scalar}
use Rattle.sparse_parser.specs.Meaning.{listed_of, matrix_of, Means, values_of}
use Rattle.sparse_parser.specs.InnerReading.{Gives, words_of, written_of, contents_of}
use Rattle.sparse_parser.specs.InnerReading.{among_entries, body_of, judged, document_of, read}
use Rattle.sparse_parser.specs.InnerReading.{size_at, size_numbers, grammar_kind_of}
use Rattle.sparse_io.proofs.OneMeaning.{read_means}
use Rattle.sparse_parser.proofs.LeadingBytes.{IsStopped, IsStopped-after}
use Rattle.sparse_parser.proofs.LineShapes.{size_none, size_some}
use Rattle.sparse_parser.proofs.WordLaws.{words_of-nil}
use Rattle.sparse_parser.proofs.FirstLines.{contents_of-nil, contents_of-line, written_of-nil}
use Rattle.sparse_parser.proofs.FirstLines.{written_of-first, written_of-after_space}

module _ (S : Scalar) where
  -- ---- the size line

  sized : Header → List (List ℕ) → List ℕ → Read (Coo S.Value)
  sized h words rest = cond (is_size words)
      (among_entries (contents_of rest) (matrix_of S h words (contents_of rest))) (Err ParsingError)

  body_parts : (h : Header) (start : List ℕ) → BeginsLine start
      → body_of S h (contents_of start) ≡ sized h (words_of (leading is_within_line start))
      (after is_within_line start)
  unfolding sized body_of is_size
  body_parts h [] b = rw (contents_of-nil, words_of-nil) refl
  body_parts h (c ∷ start) b = rw (contents_of-line c start b.0 b.1) refl

  module _ (h : Header) (text start line rest : List ℕ) (b : BeginsLine start)
      (same : contents_of start ≡ contents_of text) (l : line ≡ leading is_within_line start)
      (r : rest ≡ after is_within_line start) where
    body_is : body_of S h (contents_of text) ≡ sized h (words_of line) rest
    body_is = ap (body_of S h) (sym same) ∙ body_parts h start b
        ∙ ap (λ (x : List ℕ). sized h (words_of x) (after is_within_line start)) (sym l)
        ∙ ap (sized h (words_of line)) (sym r)

    pub body_no_size : None ≡ size_at h (words_of line)
        → body_of S h (contents_of text) ≡ Err ParsingError
    unfolding sized
    body_no_size e = body_is ∙ rw (size_none h (words_of line) e) refl

    pub body_bad_size : (found : Result Size Cause) (cause : Cause)
        → Some (size_numbers found) ≡ size_at h (words_of line) → found ≡ Err cause
        → body_of S h (contents_of text) ≡ Err (grammar_kind_of (kind_of_cause cause)
        (contents_of rest))
    unfolding sized among_entries matrix_of grammar_kind_of
    body_bad_size found cause e f =
        let s = size_some h (words_of line) (Err (kind_of_cause cause))
        (sym (ap (λ (x : Result Size Cause). Some (size_numbers x)) f) ∙ e) in
        body_is ∙ rw (s.0, ← s.1) (by (list_all is_entry (contents_of rest)))
      where
        by : (t : Bool)
            → cond {A = Read (Coo S.Value)} t (Err (kind_of_cause cause)) (Err ParsingError) ≡ Err
            (cond t (kind_of_cause cause) ParsingError)
        by true = refl
        by false = refl

    pub body_good_size : (found : Result Size Cause) (size : Size)
        → Some (size_numbers found) ≡ size_at h (words_of line) → found ≡ Ok size
        → body_of S h (contents_of text) ≡ among_entries (contents_of rest)
        (listed_of S h (size.rows, size.cols, size.count) (contents_of rest))
    unfolding sized matrix_of
    body_good_size found size e f =
        let s = size_some h (words_of line) (Ok (size.rows, size.cols, size.count))
        (sym (ap (λ (x : Result Size Cause). Some (size_numbers x)) f) ∙ e) in
        body_is ∙ rw (s.0, ← s.1) refl

  -- ---- the header line

  read_parts : (start : List ℕ) → IsStopped is_space start
      → document_of S (written_of start) ≡ judged S
      (header_of (words_of (leading is_within_line start))) (contents_of (after is_within_line start))
  unfolding document_of contents_of header_of
  read_parts [] stop = rw (written_of-nil, words_of-nil) refl
  read_parts (b ∷ start) stop = rw (written_of-first b start stop) refl

  module _ (text start line rest : List ℕ) (s : start ≡ after is_space text)
      (l : line ≡ leading is_within_line start) (r : rest ≡ after is_within_line start) where
    read_is : read S text ≡ judged S (header_of (words_of line)) (contents_of rest)
    unfolding read
    read_is =
        let e : document_of S (written_of text) ≡ document_of S (written_of start) =
        ap (document_of S) (sym (written_of-after_space text) ∙ ap written_of (sym s)) in
        e ∙ read_parts start (subst (IsStopped is_space) (sym s) (IsStopped-after is_space text))
        ∙ rw (← l, ← r) refl

    pub read_no_header : None ≡ header_of (words_of line) → read S text ≡ Err ParsingError
    read_no_header e = read_is ∙ rw (← e) refl

    pub read_header : (header : Header) → Some header ≡ header_of (words_of line)
        → read S text ≡ body_of S header (contents_of rest)
    read_header header e = read_is ∙ rw (← e) refl

  -- ---- results

  module _ {T : Type 0} (value : T → S.Value) where
    pub Gives-along : (result : Result (Coo T) MatrixMarketError) (r s : Read (Coo S.Value))
        → s ≡ r → Gives S value result r → Gives S value result s
    Gives-along result r s e h = subst (Gives S value result) (sym e) h

    -- the result of reading is what the text means
    pub means_ok : (text : List ℕ) (result : Result (Coo T) MatrixMarketError)
        → Gives S value result (read S text)
        → IfOk result (λ m. Means S text (Ok (values_of value m)))
    means_ok text (Ok m) h = subst (Means S text) h (read_means S text)
    means_ok text (Err e) h = tt

    pub means_refused : (text : List ℕ) (result : Result (Coo T) MatrixMarketError)
        → Gives S value result (read S text)
        → IfErr result (λ e. (kind_of e ≡ OutOfMemory) ⊎ Means S text (Err (kind_of e)))
    means_refused text (Ok m) h = tt
    means_refused text (Err e) (inl m) = inl m
    means_refused text (Err e) (inr h) = inr (subst (Means S text) h (read_means S text))
