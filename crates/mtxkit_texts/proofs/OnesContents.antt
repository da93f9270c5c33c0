-- The header, the size line and the entries of a text of ones are read as they are written.
use Rattle.std.proofs.Common.{◌≡◌, ℕ, ◌<◌, Bool, true, false, not, List, [], ◌∷◌, ◌++◌, length}
use Rattle.std.proofs.Common.{get_or, Some, refl, ap, ◌∙◌, arith, inl, inr}
use Rattle.std.specs.Prelude.{codes, if◌then◌else◌}
use Rattle.std.specs.List.{AllByRecursion, list_all}
use Rattle.std.proofs.lemmas.Bool.{not-true}
use Rattle.std.proofs.lemmas.Bool.Decides.{eqb_tells}
use Rattle.sparse_algebra.proofs.Cases.{and_parts}
use Rattle.sparse_parser.specs.declared.header.Field.{Field}
use Rattle.sparse_parser.specs.declared.header.Field.TheVariants.{Real, Complex, Integer, Pattern}
use Rattle.sparse_parser.specs.declared.header.Format.{Format}
use Rattle.sparse_parser.specs.declared.header.Format.TheVariants.{Coordinate, Array}
use Rattle.sparse_parser.specs.declared.header.Header.{Header}
use Rattle.sparse_parser.specs.declared.header.Symmetry.{Symmetry}
use Rattle.sparse_parser.specs.declared.header.Symmetry.TheVariants.{General, Symmetric}
use Rattle.sparse_parser.specs.declared.header.Symmetry.TheVariants.{SkewSymmetric, Hermitian}
use Rattle.sparse_parser.specs.Bytes.{is_blank, is_line_end}
use Rattle.sparse_parser.specs.Grammar.{IsOneLine, is_entry, is_index, is_size}
use Rattle.sparse_parser.specs.Header.{says, format_of, field_of, symmetry_of, fields_of, header_of}
use Rattle.sparse_parser.specs.InnerReading.{words_of}
use Rattle.sparse_parser.specs.Meaning.{is_of_field}
use Rattle.sparse_parser.proofs.LineShapes.{entry_2, entry_3}
use Rattle.sparse_parser.proofs.NumberLaws.{index-number}
use Rattle.sparse_parser.proofs.WordLaws.{words_of-nil, words_of-blank, words_of-word}
use Rattle.sparse_parser.proofs.WrittenWords.{index_text, not_comment, plain_text, test_plain, unblank}
use Rattle.mtxkit_matrices.specs.HeaderWords.{format_name, symmetry_name}
use Rattle.mtxkit_texts.specs.Headers.{is_supported_field}
use Rattle.mtxkit_texts.specs.Ones.{copied, has_no_contents, head_words, no_entry, one, one_words}
use Rattle.mtxkit_texts.specs.Ones.{spaced, unconjugated}
use Rattle.mtxkit_texts.proofs.OneWords.{copy-index, copy-one}

-- ---- words that are written

-- the word is not empty, and has no blank and no line end
pub record IsWord (word : List ℕ) : Type 0 where
  pub some : 0 < length word
  pub solid : AllByRecursion (λ b. is_blank b ≡ false) word
  pub plain : IsOneLine word

index_word : (word : List ℕ) → is_index word ≡ true → IsWord word
index_word word i = let t = index_text word i in record
    { some = t.some; solid = unblank word t.solid; plain = plain_text word t.solid }

test_solid : (word : List ℕ) → list_all (λ b. not (is_blank b)) word ≡ true
    → AllByRecursion (λ b. is_blank b ≡ false) word
test_solid [] e = tt
test_solid (b ∷ word) e = let p = and_parts _ _ e in
    (not-true (is_blank b) p.0, test_solid word p.1)

test_word : (word : List ℕ) → 0 < length word → list_all (λ b. not (is_blank b)) word ≡ true
    → list_all (λ b. not (is_line_end b)) word ≡ true → IsWord word
test_word word some solid plain =
    record { some = some; solid = test_solid word solid; plain = test_plain word plain }

plain-append : (a b : List ℕ) → IsOneLine a → IsOneLine b → IsOneLine (a ++ b)
plain-append [] b h k = k
plain-append (x ∷ a) b h k = (h.0, plain-append a b h.1 k)

pub words_of-spaced : (words : List (List ℕ)) → AllByRecursion IsWord words → words_of (spaced words) ≡ words
words_of-spaced [] h = words_of-nil
words_of-spaced (word ∷ words) h =
    words_of-word word (32 ∷ spaced words) h.0.some h.0.solid refl
    ∙ ap (λ (ws : List (List ℕ)). word ∷ ws)
    (words_of-blank 32 (spaced words) refl ∙ words_of-spaced words h.1)

pub plain-spaced : (words : List (List ℕ)) → AllByRecursion IsWord words → IsOneLine (spaced words)
plain-spaced [] h = tt
plain-spaced (word ∷ words) h =
    plain-append word (32 ∷ spaced words) h.0.plain (refl, plain-spaced words h.1)

-- ---- the header

abbrev pub head_of : Format → Symmetry → List (List ℕ)
head_of f s = codes "%%MatrixMarket" ∷ codes "matrix" ∷ format_name f ∷ codes "integer"
    ∷ symmetry_name (unconjugated s) ∷ []

format_word : (f : Format) → IsWord (format_name f)
format_word Coordinate = test_word _ (omega arith) refl refl
format_word Array = test_word _ (omega arith) refl refl

symmetry_word : (s : Symmetry) → IsWord (symmetry_name s)
symmetry_word General = test_word _ (omega arith) refl refl
symmetry_word Symmetric = test_word _ (omega arith) refl refl
symmetry_word SkewSymmetric = test_word _ (omega arith) refl refl
symmetry_word Hermitian = test_word _ (omega arith) refl refl

pub head_are_words : (h : Header) → AllByRecursion IsWord (head_words h)
head_are_words h = (
  test_word _ (omega arith) refl refl,
  (
    test_word _ (omega arith) refl refl,
    (
      format_word h.format,
      (test_word _ (omega arith) refl refl, (symmetry_word (unconjugated h.symmetry), tt)),
    ),
  ),
)

pub head_says : (f : Format) (s : Symmetry) → header_of (head_of f s)
    ≡ Some (record { format = f; field = Integer; symmetry = unconjugated s })
unfolding header_of says format_of field_of symmetry_of fields_of
head_says Coordinate General = refl
head_says Coordinate Symmetric = refl
head_says Coordinate SkewSymmetric = refl
head_says Coordinate Hermitian = refl
head_says Array General = refl
head_says Array Symmetric = refl
head_says Array SkewSymmetric = refl
head_says Array Hermitian = refl

-- ---- the size line

pub size_copied : (words : List (List ℕ)) → is_size words ≡ true
    → (copied words ≡ words) × AllByRecursion IsWord words
unfolding is_size
size_copied [] e = absurd cc
size_copied (a ∷ []) e = absurd cc
size_copied (a ∷ b ∷ []) e =
    let p = and_parts _ _ e in
    (rw (copy-index a p.0, copy-index b p.1) refl, (index_word a p.0, (index_word b p.1, tt)))
size_copied (a ∷ b ∷ c ∷ []) e =
    let p = and_parts _ _ e in
    let q = and_parts _ _ p.0 in (
      rw (copy-index a q.0, copy-index b q.1, copy-index c p.1) refl,
      (index_word a q.0, (index_word b q.1, (index_word c p.1, tt))),
    )
size_copied (a ∷ b ∷ c ∷ d ∷ words) e = absurd cc

-- ---- entries

-- the words of an entry, which are written as they are
pub record IsEntryOf (words : List (List ℕ)) : Type 0 where
  pub same : copied words ≡ words
  pub are : AllByRecursion IsWord words
  pub entry : is_entry words ≡ true
  pub kept : has_no_contents words ≡ false

index_kept : (word : List ℕ) (words : List (List ℕ)) → is_index word ≡ true
    → has_no_contents (word ∷ words) ≡ false
index_kept word words i = elim (eqb_tells (get_or word 0 0) 37) [
  | inl t ↦ absurd (not_comment word (index_text word i) t.1)
  | inr t ↦ t.0
]

one_index : is_index one ≡ true
one_index = refl

one_entry : IsEntryOf (one ∷ [])
unfolding is_entry
one_entry = record {
  same = rw copy-one refl;
  are = (index_word one one_index, tt);
  entry = index-number one one_index;
  kept = refl;
}

none_entry : IsEntryOf no_entry
none_entry = record {
  same = rw copy-one refl;
  are = (index_word one one_index, (index_word one one_index, tt));
  entry = let n = index-number one one_index in entry_2 one one n n;
  kept = refl;
}

place_entry : (row col : List ℕ) → is_index row ≡ true → is_index col ≡ true
    → IsEntryOf (row ∷ col ∷ one ∷ [])
place_entry row col i j = record {
  same = rw (copy-index row i, copy-index col j, copy-one) refl;
  are = (index_word row i, (index_word col j, (index_word one one_index, tt)));
  entry = entry_3 row col one i j (index-number one one_index);
  kept = index_kept row (col ∷ one ∷ []) i;
}

by_values : (t : Bool) (words : List (List ℕ)) → IsEntryOf words
    → IsEntryOf (if t then words else no_entry)
by_values true words e = e
by_values false words e = none_entry

few_values : (f : Field) → is_supported_field f ≡ false → is_of_field f [] ≡ false
few_values Real e = refl
few_values Complex e = refl
few_values Integer e = refl
few_values Pattern e = absurd cc

pub entry_ones : (format : Format) (f : Field) (words : List (List ℕ)) → is_supported_field f ≡ false
    → is_entry words ≡ true → IsEntryOf (one_words format f words)
unfolding one_words is_entry
entry_ones Array f words s e = by_values (is_of_field f words) (one ∷ []) one_entry
entry_ones Coordinate f [] s e = absurd cc
entry_ones Coordinate f (v ∷ []) s e = none_entry
entry_ones Coordinate f (v ∷ w ∷ []) s e = rw (few_values f s) none_entry
entry_ones Coordinate f (row ∷ col ∷ v ∷ []) s e =
    let p = and_parts _ _ e in
    let q = and_parts _ _ p.0 in
    by_values (is_of_field f (v ∷ [])) (row ∷ col ∷ one ∷ []) (place_entry row col q.0 q.1)
entry_ones Coordinate f (row ∷ col ∷ v ∷ w ∷ []) s e =
    let p = and_parts _ _ e in
    let q = and_parts _ _ p.0 in
    let t = and_parts _ _ q.0 in
    by_values (is_of_field f (v ∷ w ∷ [])) (row ∷ col ∷ one ∷ []) (place_entry row col t.0 t.1)
entry_ones Coordinate f (a ∷ b ∷ c ∷ d ∷ x ∷ words) s e = absurd cc
