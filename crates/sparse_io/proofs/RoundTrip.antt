-- The text written for a matrix means that matrix.
use Rattle.std.proofs.Common.{eq-eqb, ◌≡◌, ℕ, ◌+◌, ◌^◌, ◌<◌}
use Rattle.std.proofs.Common.{true, List, [], ◌∷◌, ◌++◌, length}
use Rattle.std.proofs.Common.{drop, map, slice_get, Ok, Option, Some, refl, sym}
use Rattle.std.proofs.Common.{subst, ◌∙◌, arith, inl, inr}
use Rattle.std.specs.Prelude.{All}
use Rattle.std.specs.List.{list_all, AllByRecursion, flat_map}
use Rattle.std.specs.Fmt.{decimal}
use Rattle.std.proofs.lemmas.Bool.{lt-ltb}
use Rattle.std.proofs.lemmas.List.{length-map}
use Rattle.std.proofs.lemmas.List.Concat.{flat_map-cons}
use Rattle.std.proofs.lemmas.List.Elements.{recursion_from_All}
use Rattle.sparse_coo_dense.specs.Coo.{Coo, IsInside}
use Rattle.sparse_parser.specs.declared.header.Field.{Field}
use Rattle.sparse_parser.specs.declared.header.Field.TheVariants.{Integer, Pattern}
use Rattle.sparse_parser.specs.declared.header.Header.{Header}
use Rattle.sparse_parser.specs.Grammar.{AreLines, AreContents, IsHeaded}
use Rattle.sparse_parser.specs.Grammar.{is_size}
use Rattle.sparse_parser.specs.Grammar.{is_entry}
use Rattle.sparse_parser.specs.Scalars.{Scalar}
use Rattle.sparse_parser.specs.Meaning.{numbers_of_size, sizes_of}
use Rattle.sparse_parser.specs.Meaning.{mirrored, triplets_of, triplets_of_lines}
use Rattle.sparse_parser.specs.Meaning.{is_inside, listed_of, matrix_of, Means, Triplet}
use Rattle.sparse_parser.proofs.WrittenWords.{not_comment, test_plain}
use Rattle.sparse_io.specs.Written.{heading_with, size_line, triplet_line, written_text_with}
use Rattle.sparse_io.specs.Written.{text_with}
use Rattle.sparse_io.specs.declared.banner.Banner.{Banner}
use Rattle.sparse_io.proofs.WrittenLines.{index-decimal, decimal_text, number-decimal, line_of}
use Rattle.sparse_io.proofs.WrittenLines.{IsLast, line_words, line_plain, line_before, before_lf}
use Rattle.sparse_io.proofs.WrittenFields.{IsOfField, integer_of_field, pattern_of_field, remark}
use Rattle.sparse_io.proofs.WrittenFields.{plain_header, IsNamed, integer_named, pattern_named}

-- the sizes and the number of triplets fit in usize, and the triplets lie within the shape and have
-- values of the type
pub record IsWritable (S : Scalar) (m : Coo S.Value) : Type 0 where
  pub rows : m.nrows < 2 ^ 64
  pub cols : m.ncols < 2 ^ 64
  pub count : length m.triplets < 2 ^ 64
  pub inside : AllByRecursion (λ t. (t.0 < m.nrows) × (t.1 < m.ncols)) m.triplets
  pub values : AllByRecursion (λ t. S.IsValue t.2) m.triplets

module _ (S : Scalar) (first : Banner) (field : Field) (named : IsNamed first S.name field)
    (ws : S.Value → List (List ℕ)) (own : (x : S.Value) → S.IsValue x → IsOfField S field x (ws x)) where
  abbrev header : Header
  header = plain_header field

  abbrev triplet_words : Triplet S.Value → List (List ℕ)
  triplet_words t = decimal (t.0 + 1) ∷ decimal (t.1 + 1) ∷ ws t.2

  abbrev inner : Triplet S.Value → List ℕ
  inner t = line_of (decimal (t.0 + 1)) (decimal (t.1 + 1)) (S.text t.2)

  record IsSmall (t : Triplet S.Value) : Type 0 where
    row : t.0 + 1 < 2 ^ 64
    col : t.1 + 1 < 2 ^ 64
    value : IsOfField S field t.2 (ws t.2)

  all_small : (rows cols : ℕ) (ts : List (Triplet S.Value)) → rows < 2 ^ 64 → cols < 2 ^ 64
      → AllByRecursion (λ t. (t.0 < rows) × (t.1 < cols)) ts
      → AllByRecursion (λ t. S.IsValue t.2) ts
      → AllByRecursion IsSmall ts
  all_small rows cols [] r c h v = tt
  all_small rows cols (t ∷ ts) r c h v = (
    record {
      row = let i = h.0.0 in omega arith;
      col = let i = h.0.1 in omega arith;
      value =
          own t.2 v.0;
    },
    all_small rows cols ts r c h.1 v.1,
  )

  triplets-words : (at : Option (ℕ × ℕ)) (t : Triplet S.Value) → IsSmall t
      → triplets_of S header at (triplet_words t) ≡ Ok (t ∷ [])
  unfolding triplets_of mirrored
  triplets-words at t h =
      let e = h.value.accepted at (decimal (t.0 + 1)) (decimal (t.1 + 1)) t.0 t.1
      (index-decimal (t.0 + 1) h.row) (index-decimal (t.1 + 1) h.col)
      (number-decimal (t.0 + 1) h.row) (number-decimal (t.1 + 1) h.col) in
      rw e refl

  entries-words : (places : List (ℕ × ℕ)) (ts : List (Triplet S.Value)) → AllByRecursion IsSmall ts
      → triplets_of_lines S header places (map triplet_words ts) ≡ Ok ts
  unfolding triplets_of_lines
  entries-words places [] h = refl
  entries-words places (t ∷ ts) h = rw (
    triplets-words (slice_get places 0) t h.0,
    entries-words (drop 1 places) ts h.1,
  ) refl

  all_entries-words : (ts : List (Triplet S.Value)) → AllByRecursion IsSmall ts
      → list_all is_entry (map triplet_words ts) ≡ true
  all_entries-words [] h = refl
  all_entries-words (t ∷ ts) h = rw (
    h.0.value.shape (decimal (t.0 + 1)) (decimal (t.1 + 1))
        (index-decimal (t.0 + 1) h.0.row) (index-decimal (t.1 + 1) h.0.col),
    all_entries-words ts h.1,
  )
      refl

  all_inside : (rows cols : ℕ) (ts : List (Triplet S.Value))
      → AllByRecursion (λ t. (t.0 < rows) × (t.1 < cols)) ts
      → list_all (is_inside S rows cols) ts ≡ true
  all_inside rows cols [] h = refl
  all_inside rows cols (t ∷ ts) h = rw (
    lt-ltb t.0 rows h.0.0,
    lt-ltb t.1 cols h.0.1,
    all_inside rows cols ts h.1,
  ) refl

  triplet_lines : (ts : List (Triplet S.Value)) → AllByRecursion IsSmall ts
      → AreLines (flat_map (triplet_line S.text) ts) (map inner ts)
  unfolding triplet_line
  triplet_lines [] h = refl
  triplet_lines (t ∷ ts) h =
      before_lf (inner t) (flat_map (triplet_line S.text) (t ∷ ts))
      (flat_map (triplet_line S.text) ts) (map inner ts)
      (line_plain _ _ _ _ (decimal_text (t.0 + 1) h.0.row) (decimal_text (t.1 + 1) h.0.col)
      h.0.value.last)
      (flat_map-cons (triplet_line S.text) t ts
      ∙ line_before (decimal (t.0 + 1)) (decimal (t.1 + 1)) (S.text t.2)
      (flat_map (triplet_line S.text) ts)) (triplet_lines ts h.1)

  triplet_contents : (ts : List (Triplet S.Value)) → AllByRecursion IsSmall ts
      → AreContents (map inner ts) (map triplet_words ts)
  triplet_contents [] h = refl
  triplet_contents (t ∷ ts) h =
      let r = decimal_text (t.0 + 1) h.0.row in
      inr (inr (
        decimal (t.0 + 1),
        decimal (t.1 + 1) ∷ ws t.2,
        map triplet_words ts,
        line_words _ _ _ _ r (decimal_text (t.1 + 1) h.0.col) h.0.value.last,
        not_comment (decimal (t.0 + 1)) r,
        refl,
        triplet_contents ts h.1,
      ))

  abbrev size_words : Coo S.Value → List (List ℕ)
  size_words m = decimal m.nrows ∷ decimal m.ncols ∷ decimal (length m.triplets) ∷ []

  size-is_size : (m : Coo S.Value) → IsWritable S m → is_size (size_words m) ≡ true
  unfolding is_size
  size-is_size m h = rw (
    index-decimal m.nrows h.rows,
    index-decimal m.ncols h.cols,
    index-decimal (length m.triplets) h.count,
  ) refl

  size-sizes : (m : Coo S.Value) → IsWritable S m
      → sizes_of header (size_words m) ≡ Ok (m.nrows, m.ncols, Some (length m.triplets))
  unfolding numbers_of_size
  size-sizes m h = named.allowed (size_words m)
      ∙ rw (
        number-decimal m.nrows h.rows,
        number-decimal m.ncols h.cols,
        number-decimal (length m.triplets) h.count,
      ) refl

  written_matrix : (m : Coo S.Value) → IsWritable S m
      → matrix_of S header (size_words m) (map triplet_words m.triplets) ≡ Ok m
  unfolding matrix_of listed_of
  written_matrix m h =
      let k : length (map triplet_words m.triplets) ≡ length m.triplets =
      length-map m.triplets triplet_words in
      let all = all_small m.nrows m.ncols m.triplets h.rows h.cols h.inside h.values in
      rw (
        size-sizes m h,
        k,
        eq-eqb (length m.triplets) (length m.triplets) refl,
        entries-words [] m.triplets all,
        all_inside m.nrows m.ncols m.triplets h.inside,
      ) refl

  abbrev body_text : Coo S.Value → List ℕ
  body_text m = size_line m.nrows m.ncols (length m.triplets) ++ flat_map (triplet_line S.text)
      m.triplets

  written_headed : (m : Coo S.Value) → IsWritable S m → IsHeaded (text_with first S.name S.text m) header
      (size_words m ∷ map triplet_words m.triplets)
  unfolding written_text_with size_line
  written_headed m h =
      let all = all_small m.nrows m.ncols m.triplets h.rows h.cols h.inside h.values in
      let r = decimal_text m.nrows h.rows in
      let c = decimal_text m.ncols h.cols in
      let n = decimal_text (length m.triplets) h.count in
      let l : IsLast (decimal (length m.triplets)) (decimal (length m.triplets) ∷ []) =
      inl (n, refl) in
      let size = line_of (decimal m.nrows) (decimal m.ncols) (decimal (length m.triplets)) in
      record {
        lines = named.banner ∷ remark ∷ size ∷ map inner m.triplets;
        words = named.word ∷ named.words;
        cut = before_lf named.banner (heading_with first S.name ++ body_text m) (remark ++ (10 ∷ body_text m))
            (remark ∷ size ∷ map inner m.triplets) named.plain (named.heading_is (body_text m))
            (before_lf remark (remark ++ (10 ∷ body_text m)) (body_text m)
            (size ∷ map inner m.triplets) (test_plain remark refl) refl
            (before_lf size (body_text m) (flat_map (triplet_line S.text) m.triplets)
            (map inner m.triplets) (line_plain _ _ _ _ r c l)
            (line_before (decimal m.nrows) (decimal m.ncols) (decimal (length m.triplets))
            (flat_map (triplet_line S.text) m.triplets))
            (triplet_lines m.triplets all)));
        headed = inr (
          named.word,
          named.words,
          named.are,
          refl,
          inr (inl (
            [],
            drop 1 remark,
            tt,
            refl,
            inr (inr (
              decimal m.nrows,
              decimal m.ncols ∷ decimal (length m.triplets) ∷ [],
              map triplet_words m.triplets,
              line_words _ _ _ _ r c l,
              not_comment (decimal m.nrows) r,
              refl,
              triplet_contents m.triplets all,
            )),
          )),
        );
        says = named.says;
      }

  field_means : (m : Coo S.Value) → IsWritable S m → Means S (text_with first S.name S.text m) (Ok m)
  field_means m h =
      let all = all_small m.nrows m.ncols m.triplets h.rows h.cols h.inside h.values in
      inr (
        header,
        size_words m,
        map triplet_words m.triplets,
        record {
          headed = written_headed m h;
          sized = size-is_size m h;
          listed =
              all_entries-words m.triplets all;
        },
        sym (written_matrix m h),
      )

-- the written text means the matrix
pub written_means : (S : Scalar) (first : Banner) (m : Coo S.Value) → IsWritable S m
    → Means S (text_with first S.name S.text m) (Ok m)
written_means S first m h = elim S.read_back [
  | inl (name, back) ↦ field_means S first Integer
      (subst (λ (n : List ℕ). IsNamed first n Integer) (sym name) (integer_named first))
      (λ x. S.text x ∷ []) (λ x own. integer_of_field S x (back x own)) m h
  | inr (name, back) ↦ field_means S first Pattern
      (subst (λ (n : List ℕ). IsNamed first n Pattern) (sym name) (pattern_named first)) (λ x. [])
      (λ x own. pattern_of_field S x (back x own).0 (back x own).1) m h
]

pub law : (S : Scalar) (first : Banner) (m : Coo S.Value) → m.nrows < 2 ^ 64 → m.ncols < 2 ^ 64
    → length m.triplets < 2 ^ 64 → IsInside m → All (λ t. S.IsValue t.2) m.triplets
    → Means S (text_with first S.name S.text m) (Ok m)
law S first m r c n inside values = written_means S first m (record {
  rows = r;
  cols = c;
  count = n;
  inside = recursion_from_All (λ t. (t.0 < m.nrows) × (t.1 < m.ncols)) m.triplets inside;
  values = recursion_from_All (λ t. S.IsValue t.2) m.triplets values;
})
