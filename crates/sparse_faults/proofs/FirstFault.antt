-- The line that a search finds is the first with a fault.
use Rattle.std.proofs.Common.{◌≡◌, ℕ, ◌+◌, ◌<◌, ◌≤◌, Bool, true, false, List, ◌∷◌, ◌++◌, length}
use Rattle.std.proofs.Common.{Some, Ok, Err, refl, sym, ap, subst, ◌∙◌, inl, inr, arith}
use Rattle.std.proofs.Common.{length-append}
use Rattle.std.specs.Prelude.{slice_get, if◌then◌else◌}
use Rattle.std.specs.List.{list_all}
use Rattle.std.specs.Result.{is_ok}
use Rattle.std.proofs.lemmas.List.Folds.{list_all-append}
use Rattle.sparse_algebra.proofs.Cases.{and_parts}
use Rattle.sparse_coo_dense.specs.Coo.{coo_of}
use Rattle.sparse_parser.specs.declared.error.Cause.{Cause}
use Rattle.sparse_parser.specs.declared.error.MatrixMarketErrorKind.{MatrixMarketErrorKind}
use Rattle.sparse_parser.specs.declared.header.Header.{Header}
use Rattle.sparse_parser.specs.declared.size.Size.{Size}
use Rattle.sparse_parser.specs.ArrayPlaces.{places_of}
use Rattle.sparse_parser.specs.Grammar.{IsDocument, is_entry}
use Rattle.sparse_parser.specs.Header.{is_allowed}
use Rattle.sparse_parser.specs.InnerReading.{words_of}
use Rattle.sparse_parser.specs.Meaning.{Sizes, Triplet}
use Rattle.sparse_parser.specs.Meaning.{is_count, is_inside, matrix_of}
use Rattle.sparse_parser.specs.Meaning.{listed_of, triplets_of, triplets_of_lines}
use Rattle.sparse_parser.specs.Scalars.{Scalar}
use Rattle.sparse_io.proofs.OneMeaning.{one_document}
use Rattle.sparse_faults.specs.declared.line_faults.Search.TheVariants.{Grammar, Entries, Bounds}
use Rattle.sparse_faults.specs.FirstFaults.{IsFirstFault, IsDocumentFault, IsEntryFault, IsSizesLine}
use Rattle.sparse_faults.specs.FirstFaults.{HasMatrix, IsHeaderLine, IsSizeLine}
use Rattle.sparse_faults.specs.InnerFirstFaults.{AllPass, AreSizes, IsFailing}
use Rattle.sparse_faults.specs.InnerFirstFaults.{contents_in, has_triplets, is_within, passes}
use Rattle.sparse_faults.specs.ValueTypes.{scalar_as}
use Rattle.sparse_faults.specs.declared.value_type.ValueType.{ValueType}
use Rattle.sparse_faults.proofs.DocumentSizes.{AreSized, are_sized, places_placed}
use Rattle.sparse_faults.proofs.EntryFaults.{ArePlaced, one_ok, one_err, lines_ok, one_inside}
use Rattle.sparse_faults.proofs.EntryFaults.{lines_inside}
use Rattle.sparse_faults.proofs.SearchedLines.{all_pass, failing_among, failing_line}

-- ---- searches

passes_entries : (h : Header) (b : ValueType) (lines : List (List (List ℕ)))
    → list_all (passes (Entries h b)) lines ≡ true
    → list_all (λ words. is_ok (triplets_of (scalar_as b) h (Some (1, 0)) words)) lines ≡ true
unfolding passes has_triplets
passes_entries h b lines e = e

fails_entries : (h : Header) (b : ValueType) (words : List (List ℕ))
    → passes (Entries h b) words ≡ false
    → is_ok (triplets_of (scalar_as b) h (Some (1, 0)) words) ≡ false
unfolding passes has_triplets
fails_entries h b words e = e

has_entries : (h : Header) (b : ValueType) (words : List (List ℕ)) → passes (Entries h b) words ≡ true
    → is_ok (triplets_of (scalar_as b) h (Some (1, 0)) words) ≡ true
unfolding passes has_triplets
has_entries h b words e = e

passes_bounds : (size : Size) (lines : List (List (List ℕ)))
    → list_all (passes (Bounds size)) lines ≡ true
    → list_all (is_within size.rows size.cols) lines ≡ true
unfolding passes
passes_bounds size lines e = e

fails_bounds : (size : Size) (words : List (List ℕ)) → passes (Bounds size) words ≡ false
    → is_within size.rows size.cols words ≡ false
unfolding passes
fails_bounds size words e = e

-- a data line among others
record AreAmong (p : List (List ℕ) → Bool) (lines read : List (List (List ℕ)))
    (words : List (List ℕ)) : Type 0 where
  pub less : length read < length lines
  pub above : list_all p lines ≡ true → list_all p read ≡ true
  pub here : list_all p lines ≡ true → p words ≡ true

among : (p : List (List ℕ) → Bool) (lines read : List (List (List ℕ))) (words : List (List ℕ))
    (more : List (List (List ℕ))) → lines ≡ read ++ (words ∷ more) → AreAmong p lines read words
among p lines read words more e = record {
  less =
      let l = ap (λ (x : List (List (List ℕ))). length x) e in
      let a = length-append read (words ∷ more) in
      omega arith;
  above = λ f. (parts f).0;
  here = λ f. (and_parts _ _ (parts f).1).0;
}
  where
    parts : list_all p lines ≡ true
        → (list_all p read ≡ true) × (list_all p (words ∷ more) ≡ true)
    parts f = and_parts _ _ (sym (list_all-append p read (words ∷ more))
        ∙ ap (list_all p) (sym e) ∙ f)

module _ (b : ValueType) {text below : List ℕ} {h : Header} {head_line size_line : ℕ} where
  -- a header or a size line with an error
  pub sizes_wrong : {cause : Cause} {count : ℕ} (n : ℕ)
      → (z : AreSizes text h head_line (Err cause) size_line below) → AllPass Grammar below count
      → n ≡ (if is_allowed h then size_line else head_line) → IsFirstFault (scalar_as b) text n
  sizes_wrong n z p e =
      let d = all_pass z p in
      inr (
        h,
        z.size,
        d.0,
        d.1,
        subst (IsDocumentFault (scalar_as b) text n h z.size d.0) z.sizes (by (is_allowed h) e),
      )
    where
      by : (t : Bool) → n ≡ (if t then size_line else head_line)
          → IsSizesLine t text h z.size n
      by true k = subst (IsSizeLine text h z.size) (sym k) z.size_at
      by false k = subst (IsHeaderLine text h) (sym k) z.header_at

  module _ {size : Size} {count : ℕ} (z : AreSizes text h head_line (Ok size) size_line below)
      (p : AllPass Grammar below count) where
    abbrev S : Scalar
    S = scalar_as b

    abbrev s : Sizes
    s = (size.rows, size.cols, size.count)

    abbrev lines : List (List (List ℕ))
    lines = (all_pass z p).0

    abbrev places : List (ℕ × ℕ)
    places = places_of h.format h.symmetry size.rows size.cols

    document : IsDocument text h z.size lines
    document = (all_pass z p).1

    sized : AreSized h s
    sized = are_sized h z.size s (sym z.sizes)

    faulty : (n : ℕ) (t : Bool) → is_count size.count count ≡ t
        → IsEntryFault S text n h z.size s lines t → IsFirstFault S text n
    faulty n t e f =
        let c = (all_pass z p).2 in
        inr (
          h,
          z.size,
          lines,
          document,
          subst (IsDocumentFault S text n h z.size lines) z.sizes
              (subst (λ (x : Bool). IsEntryFault S text n h z.size s lines x)
              (sym (ap (λ (k : ℕ). is_count size.count k) (sym c) ∙ e)) f),
        )

    -- the number of data lines is wrong
    pub count_wrong : is_count size.count count ≡ false → IsFirstFault S text size_line
    count_wrong e = faulty size_line false e z.size_at

    module _ (right : is_count size.count count ≡ true) where
      counted : is_count s.2 (length lines) ≡ true
      counted = ap (λ (k : ℕ). is_count size.count k) (sym (all_pass z p).2) ∙ right

      placed : (k : ℕ) → k ≤ length lines
          → ArePlaced S h s.0 s.1 places k
      placed = places_placed S h s (length lines) sized counted

      -- data lines with triplets, and below them one without
      abbrev HasNone : List (List (List ℕ)) → List (List ℕ) → Type 0
      HasNone read words = (ts : List (Triplet S.Value)) × (kind : MatrixMarketErrorKind)
          × (triplets_of_lines S h places read ≡ Ok ts)
          × (triplets_of S h (slice_get places (length read)) words ≡ Err kind)

      -- the first data line without triplets
      pub entry_wrong : (n : ℕ) → IsFailing (Entries h b) below (size_line + 1) n
          → IsFirstFault S text n
      entry_wrong n f =
          let m = failing_among z f lines document in
          let e = among is_entry lines (contents_in f.before) (words_of f.line) m.0 m.1 in
          let is = e.here document.listed in
          let fails : passes (Entries h b) (words_of f.line) ≡ false = rw is at f.fails in
          let ts = lines_ok S h s.0 s.1 places
          (contents_in f.before) (placed (length (contents_in f.before)) (omega (arith, e.less)))
          (passes_entries h b (contents_in f.before) f.entries.pass) in
          let k = one_err S h s.0 s.1 (slice_get places (length (contents_in f.before)))
          (words_of f.line)
          (placed (length lines) (omega arith) (length (contents_in f.before)) e.less)
          (fails_entries h b (words_of f.line) fails) in
          let l = failing_line z f HasNone (ts.0, k.0, ts.1, k.1) in
          faulty n true right (inl (
            l.0,
            l.1,
            l.2,
            l.3,
            (l.4.0, l.4.3.0, l.4.3.1, l.4.1, l.4.2, l.4.3.2, l.4.3.3),
          ))

      module _ {more : ℕ} (q : AllPass (Entries h b) below more) where
        -- all data lines have triplets
        all_have : list_all (passes (Entries h b)) lines ≡ true
        all_have =
            let d = all_pass z q in
            let o = one_document text h h z.size z.size lines d.0 document d.1 in
            rw o.2 d.3.pass

        triplets : (ts : List (Triplet S.Value))
            × (triplets_of_lines S h places lines ≡ Ok ts)
        triplets = lines_ok S h s.0 s.1 places lines
            (placed (length lines) (omega arith)) (passes_entries h b lines all_have)

        -- data lines with triplets within the shape, and below them one with a triplet outside
        abbrev HasOutside : List (List (List ℕ)) → List (List ℕ) → Type 0
        HasOutside read words = (ts : List (Triplet S.Value)) × (us : List (Triplet S.Value))
            × (triplets_of_lines S h places read ≡ Ok ts)
            × (list_all (is_inside S s.0 s.1) ts ≡ true)
            × (triplets_of S h (slice_get places (length read)) words ≡ Ok us)
            × (list_all (is_inside S s.0 s.1) us ≡ false)

        -- the first data line with a triplet outside the shape
        pub bounds_wrong : (n : ℕ) → IsFailing (Bounds size) below (size_line + 1) n
            → IsFirstFault S text n
        bounds_wrong n f =
            let m = failing_among z f lines document in
            let e = among is_entry lines (contents_in f.before) (words_of f.line) m.0 m.1 in
            let is = e.here document.listed in
            let fails : passes (Bounds size) (words_of f.line) ≡ false = rw is at f.fails in
            let have = among (passes (Entries h b)) lines (contents_in f.before) (words_of f.line)
            m.0 m.1 in
            let read = placed (length (contents_in f.before)) (omega (arith, e.less)) in
            let at = placed (length lines) (omega arith) (length (contents_in f.before)) e.less in
            let ts = lines_ok S h s.0 s.1 places
            (contents_in f.before) read
            (passes_entries h b (contents_in f.before) (have.above all_have)) in
            let us = one_ok S h s.0 s.1 (slice_get places (length (contents_in f.before)))
            (words_of f.line) at
            (has_entries h b (words_of f.line) (have.here all_have)) in
            let ins = lines_inside S h s.0 s.1 sized.fits places
            (contents_in f.before) ts.0 read ts.1
            (passes_bounds size (contents_in f.before) f.entries.pass) in
            let out = one_inside S h s.0 s.1 sized.fits
            (slice_get places (length (contents_in f.before))) (words_of f.line) us.0 at us.1
            ∙ fails_bounds size (words_of f.line) fails in
            let l = failing_line z f HasOutside (ts.0, us.0, ts.1, ins, us.1, out) in
            faulty n true right (inr (
              triplets,
              (
                l.0,
                l.1,
                l.2,
                l.3,
                (
                  l.4.0,
                  l.4.3.0,
                  l.4.3.1,
                  l.4.1,
                  l.4.2,
                  l.4.3.2,
                  l.4.3.3,
                  l.4.3.4,
                  l.4.3.5,
                ),
              ),
            ))

        -- a text in which no search finds a fault means a matrix
        pub none_wrong : {last : ℕ} → AllPass (Bounds size) below last → HasMatrix S text
        unfolding matrix_of listed_of
        none_wrong r =
            let d = all_pass z r in
            let o = one_document text h h z.size z.size lines d.0 document d.1 in
            let ins = lines_inside S h s.0 s.1 sized.fits places
            lines triplets.0 (placed (length lines) (omega arith)) triplets.1
            (passes_bounds size lines (rw o.2 d.3.pass)) in
            let e : matrix_of S h z.size lines ≡ Ok (coo_of s.0 s.1 triplets.0) =
            rw (sym z.sizes, counted, triplets.1, ins) refl in
            (coo_of s.0 s.1 triplets.0, inr (h, z.size, lines, document, sym e))
