-- Lists of lines that grow by one line.
use Rattle.std.proofs.Common.{◌≡◌, ℕ, Bool, true, List, [], ◌∷◌, ◌++◌, map, Some, refl, ap, ◌∙◌}
use Rattle.std.proofs.Common.{subst}
use Rattle.std.specs.Prelude.{filter}
use Rattle.std.specs.List.{list_all}
use Rattle.std.proofs.lemmas.List.{map-append}
use Rattle.std.proofs.lemmas.List.Elements.{filter-append}
use Rattle.std.proofs.lemmas.List.Folds.{list_all-append}
use Rattle.sparse_parser.specs.declared.header.Header.{Header}
use Rattle.sparse_parser.specs.Header.{header_of}
use Rattle.sparse_parser.specs.Grammar.{AreBlanks, AreWords, is_size, is_entry}
use Rattle.sparse_parser.specs.InnerReading.{is_content, is_some_line, words_of, written_lines}
use Rattle.sparse_parser.proofs.LineLaws.{add}
use Rattle.sparse_parser.proofs.LineShapes.{entry_nil}
use Rattle.sparse_parser.proofs.WordLaws.{words_are}

-- the list with the words of a line, or the empty list if the line is blank
abbrev pub ones : List (List ℕ) → List (List (List ℕ))
ones [] = []
ones (word ∷ words) = (word ∷ words) ∷ []

pub add-ones : (line : List ℕ) (lines : List (List (List ℕ)))
    → add line lines ≡ ones (words_of line) ++ lines
add-ones line lines = by (words_of line) refl
  where
    by : (ws : List (List ℕ)) → words_of line ≡ ws → add line lines ≡ ones (words_of line) ++ lines
    by [] e = rw e refl
    by (word ∷ words) e = rw e refl

-- the words of the lines, after one more line
pub lines_more : (lines : List (List ℕ)) (line : List ℕ)
    → written_lines (lines ++ (line ∷ [])) ≡ written_lines lines ++ ones (words_of line)
lines_more lines line = ap (filter is_some_line) (map-append words_of lines (line ∷ []))
    ∙ filter-append is_some_line (map words_of lines) (words_of line ∷ [])
    ∙ ap (λ (x : List (List (List ℕ))). written_lines lines ++ x) (one (words_of line))
  where
    one : (words : List (List ℕ)) → filter is_some_line (words ∷ []) ≡ ones words
    one [] = refl
    one (word ∷ words) = refl

pub ones-some : (words : List (List ℕ)) → ¬ (words ≡ []) → ones words ≡ words ∷ []
ones-some [] n = absurd (n refl)
ones-some (word ∷ words) n = refl

pub one-more : (xs : List (List (List ℕ))) (words : List (List ℕ)) → ¬ (words ≡ [])
    → is_content words ≡ true
    → filter is_content (xs ++ ones words) ≡ filter is_content xs ++ (words ∷ [])
one-more xs words n c = rw (ones-some words n, filter-append is_content xs (words ∷ []), c) refl

pub blank_words : (line : List ℕ) → words_of line ≡ [] → AreBlanks line
blank_words line e = subst (AreWords line) e (words_are line)

pub all_more : (p : List (List ℕ) → Bool) (xs : List (List (List ℕ))) (x : List (List ℕ))
    → list_all p xs ≡ true → p x ≡ true → list_all p (xs ++ (x ∷ [])) ≡ true
all_more p xs x h e = rw (list_all-append p xs (x ∷ []), h, e) refl

pub some_header : (words : List (List ℕ)) (h : Header) → header_of words ≡ Some h → ¬ (words ≡ [])
unfolding header_of
some_header [] h e n = absurd cc
some_header (word ∷ words) h e n = absurd cc

pub some_size : (words : List (List ℕ)) → is_size words ≡ true → ¬ (words ≡ [])
unfolding is_size
some_size [] e n = absurd cc
some_size (word ∷ words) e n = absurd cc

pub some_entry : (words : List (List ℕ)) → is_entry words ≡ true → ¬ (words ≡ [])
some_entry words e n = let f = entry_nil words n in absurd cc
