-- The words that are written for data lines.
use Rattle.std.proofs.Common.{◌≡◌, ℕ, Bool, true, false, List, [], ◌∷◌, ◌++◌, refl, ap, ◌∙◌, append_assoc}
use Rattle.std.specs.Prelude.{codes}
use Rattle.std.specs.Str.{IsUtf8, is_utf8}
use Rattle.std.proofs.lemmas.Str.{is_utf8-from_IsUtf8, IsUtf8-from_is_utf8}
use Rattle.sparse_parser.specs.declared.header.Field.{Field}
use Rattle.sparse_parser.specs.declared.header.Format.TheVariants.{Coordinate, Array}
use Rattle.sparse_parser.specs.Grammar.{is_index}
use Rattle.sparse_parser.specs.Meaning.{is_of_field}
use Rattle.sparse_parser.proofs.Digits.{integer-IsUtf8}
use Rattle.sparse_parser.proofs.NumberLaws.{index-unsigned}
use Rattle.mtxkit_texts.specs.InnerOnes.{HasNoPlace}
use Rattle.mtxkit_texts.specs.Ones.{copied, copy_of, one, one_words, spaced}

-- ---- words that are copied

pub copy-utf8 : (word : List ℕ) → IsUtf8 word → copy_of word ≡ word
copy-utf8 word u = rw (is_utf8-from_IsUtf8 word u) refl

pub copy-other : (word : List ℕ) → ¬ (IsUtf8 word) → copy_of word ≡ []
copy-other word n = by (is_utf8 word) refl
  where
    by : (t : Bool) → is_utf8 word ≡ t → copy_of word ≡ []
    by true e = absurd (n (IsUtf8-from_is_utf8 word e))
    by false e = rw e refl

pub copy-index : (word : List ℕ) → is_index word ≡ true → copy_of word ≡ word
copy-index word i = copy-utf8 word (integer-IsUtf8 word (ap is_index (index-unsigned word i) ∙ i))

pub copy-one : copy_of one ≡ one
copy-one = copy-index one refl

-- ---- entries

no_words : spaced (copied (one ∷ one ∷ [])) ≡ codes "1 1 "
no_words = rw copy-one refl

pub value_words : (f : Field) (words : List (List ℕ)) → is_of_field f words ≡ true
    → spaced (copied (one_words Array f words)) ≡ codes "1 "
unfolding one_words
value_words f words e = rw (e, copy-one) refl

pub no_value_words : (f : Field) (words : List (List ℕ)) → is_of_field f words ≡ false
    → spaced (copied (one_words Array f words)) ≡ codes "1 1 "
unfolding one_words
no_value_words f words e = rw e no_words

module _ (f : Field) (words : List (List ℕ)) where
  pub place_words : (row col : List ℕ) (values : List (List ℕ)) → words ≡ row ∷ col ∷ values
      → is_of_field f values ≡ true → spaced (copied (one_words Coordinate f words))
      ≡ copy_of row ++ (32 ∷ (copy_of col ++ (32 ∷ codes "1 ")))
  unfolding one_words
  place_words row col values w e = rw (w, e, copy-one) refl

  pub other_words : (row col : List ℕ) (values : List (List ℕ)) → words ≡ row ∷ col ∷ values
      → is_of_field f values ≡ false
      → spaced (copied (one_words Coordinate f words)) ≡ codes "1 1 "
  unfolding one_words
  other_words row col values w e = rw (w, e) no_words

pub few_words : (f : Field) (words : List (List ℕ)) → HasNoPlace words
    → spaced (copied (one_words Coordinate f words)) ≡ codes "1 1 "
unfolding one_words
few_words f [] h = no_words
few_words f (word ∷ []) h = no_words
few_words f (row ∷ col ∷ words) h = absurd h

-- ---- an entry that is appended word by word

pub appended : (old row col : List ℕ) {first second last : List ℕ}
    → first ≡ old ++ (row ++ (32 ∷ [])) → second ≡ first ++ (col ++ (32 ∷ []))
    → last ≡ second ++ codes "1 " → last ≡ old ++ (row ++ (32 ∷ (col ++ (32 ∷ codes "1 "))))
appended old row col e f g = rw (g, f, e) (regroup old row col (codes "1 "))
  where
    regroup : (a b c d : List ℕ) → ((a ++ (b ++ (32 ∷ []))) ++ (c ++ (32 ∷ []))) ++ d
        ≡ a ++ (b ++ (32 ∷ (c ++ (32 ∷ d))))
    regroup a b c d = simp append_assoc
