-- The meaning of the lines that the fast path reads.
use Rattle.std.proofs.Common.{◌≡◌, ℕ, ℤ, List, Option, Some, Ok, refl, sym, ap, ◌∙◌}
use Rattle.sparse_parser.specs.declared.header.Format.TheVariants.{Coordinate, Array}
use Rattle.sparse_parser.specs.declared.header.Field.TheVariants.{Integer, Pattern}
use Rattle.sparse_parser.specs.declared.header.Header.{Header}
use Rattle.sparse_parser.specs.Grammar.{is_entry}
use Rattle.sparse_parser.specs.Reads.{Read}
use Rattle.sparse_parser.specs.Scalars.{Scalar}
use Rattle.sparse_parser.specs.Meaning.{Triplet, place_of, field_value, entry_of, triplets_of}
use Rattle.sparse_parser.specs.InnerIntegers.{IsIntegerLine, IsPatternLine, IsValueLine}
use Rattle.sparse_parser.proofs.NumberLaws.{index-number, integer-number}
use Rattle.sparse_parser.proofs.LineShapes.{entry_1, entry_2, entry_3}
use Rattle.sparse_io.specs.InnerEntries.{IsMeant, triplets_at}

module _ (S : Scalar) (h : Header) {at : Option (ℕ × ℕ)} where
  pub integer_meant : {text rest : List ℕ} {row col : ℕ} {value : ℤ}
      {given : Read (List (Triplet S.Value))}
      → h.format ≡ Coordinate → h.field ≡ Integer → IsIntegerLine text row col value rest
      → given ≡ triplets_at S h.symmetry (place_of (Ok row) (Ok col)) (S.from_number value)
      → IsMeant S h at text given rest
  unfolding triplets_of entry_of field_value
  integer_meant f g l e = record {
    is = ap is_entry l.words ∙ entry_3 _ _ _ l.row_index l.col_index (integer-number _ l.integer);
    means = e ∙ sym (rw (l.words, f, g, l.row_index, l.col_index, l.row_is, l.col_is, l.value_is)
        refl);
    after_line = l.after_line;
  }

  pub pattern_meant : {text rest : List ℕ} {row col : ℕ} {given : Read (List (Triplet S.Value))}
      → h.format ≡ Coordinate → h.field ≡ Pattern → IsPatternLine text row col rest
      → given ≡ triplets_at S h.symmetry (place_of (Ok row) (Ok col)) S.from_pattern
      → IsMeant S h at text given rest
  unfolding triplets_of entry_of field_value
  pattern_meant f g l e = record {
    is = ap is_entry l.words ∙ entry_2 _ _ (index-number _ l.row_index)
        (index-number _ l.col_index);
    means = e ∙ sym (rw (l.words, f, g, l.row_index, l.col_index, l.row_is, l.col_is) refl);
    after_line = l.after_line;
  }

  pub value_meant : {text rest : List ℕ} {value : ℤ} {place : ℕ × ℕ}
      {given : Read (List (Triplet S.Value))}
      → h.format ≡ Array → h.field ≡ Integer → at ≡ Some place → IsValueLine text value rest
      → given ≡ triplets_at S h.symmetry (Ok place) (S.from_number value)
      → IsMeant S h at text given rest
  unfolding triplets_of entry_of field_value
  value_meant f g p l e = record {
    is = ap is_entry l.words ∙ entry_1 _ (integer-number _ l.integer);
    means = e ∙ sym (rw (l.words, f, g, p, l.value_is) refl);
    after_line = l.after_line;
  }
