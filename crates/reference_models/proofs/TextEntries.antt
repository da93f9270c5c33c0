-- The triplets read so far, followed by those of the remaining data lines.
use Rattle.std.proofs.Common.{◌≡◌, ℕ, zero, suc, Option, ◌+◌, ◌<◌, ◌≤◌, List, [], ◌∷◌, ◌++◌, length}
use Rattle.std.proofs.Common.{drop, get_or, slice_get, Ok, Err, refl, sym, ap, ◌∙◌, append_assoc}
use Rattle.std.proofs.Common.{add-one, drop-cons, arith}
use Rattle.std.proofs.Math.Seq.{drop-nil}
use Rattle.std.proofs.Math.ListN.{drop_of_length-le}
use Rattle.std.proofs.lemmas.List.{append-nil, length-map}
use Rattle.sparse_parser.specs.declared.error.MatrixMarketErrorKind.{MatrixMarketErrorKind}
use Rattle.sparse_parser.specs.declared.header.Header.{Header}
use Rattle.sparse_parser.specs.Reads.{Read, ◌>>=◌}
use Rattle.sparse_parser.specs.Scalars.{Scalar}
use Rattle.sparse_parser.specs.Meaning.{Triplet, triplets_of, triplets_of_lines}
use Rattle.reference_models.specs.declared.texts.lines.Line.{Line}
use Rattle.reference_models.specs.InnerTexts.{words_in, lines_in}

-- these triplets, followed by those of the remaining lines
abbrev pub prefixed : {A : Type 0} → List A → Read (List A) → Read (List A)
prefixed first rest = rest >>= λ others. Ok (first ++ others)

prefixed_twice : {A : Type 0} (first second : List A) (rest : Read (List A))
    → prefixed first (prefixed second rest) ≡ prefixed (first ++ second) rest
prefixed_twice first second (Ok others) = ap Ok (sym (append_assoc first second others))
prefixed_twice first second (Err e) = refl

first_left : {A : Type 0} (xs : List A) (i : ℕ) → slice_get (drop i xs) 0 ≡ slice_get xs i
first_left [] i = rw (drop-nil i) refl
first_left (x ∷ xs) zero = refl
first_left (x ∷ xs) (suc i) = first_left xs i

one_less : {A : Type 0} (xs : List A) (i : ℕ) → drop 1 (drop i xs) ≡ drop (suc i) xs
one_less [] i = rw (drop-nil i) refl
one_less (x ∷ xs) zero = refl
one_less (x ∷ xs) (suc i) = one_less xs i

module _ (S : Scalar) (h : Header) where
  -- what the first line gives, and then the others
  stepped : Read (List (Triplet S.Value)) → Read (List (Triplet S.Value))
      → Read (List (Triplet S.Value))
  stepped first others = first >>= λ ts. prefixed ts others

  unfold_line : (places : List (ℕ × ℕ)) (words : List (List ℕ)) (lines : List (List (List ℕ)))
      → triplets_of_lines S h places (words ∷ lines)
      ≡ stepped (triplets_of S h (slice_get places 0) words)
      (triplets_of_lines S h (drop 1 places) lines)
  unfolding triplets_of_lines stepped
  unfold_line places words lines = refl

  module _ (places : List (ℕ × ℕ)) (lines : List (List (List ℕ))) where
    -- the entries from a line on
    abbrev pub left_from : ℕ → Read (List (Triplet S.Value))
    left_from i = triplets_of_lines S h (drop i places) (drop i lines)

    line_left : (i : ℕ) → i < length lines
        → left_from i ≡ stepped (triplets_of S h (slice_get places i) (get_or lines i []))
        (left_from (i + 1))
    line_left i lt =
        ap (triplets_of_lines S h (drop i places)) (drop-cons lines i [] lt)
        ∙ unfold_line (drop i places) (get_or lines i []) (drop (suc i) lines)
        ∙ ap (λ (at : Option (ℕ × ℕ)). stepped (triplets_of S h at (get_or lines i []))
        (triplets_of_lines S h (drop 1 (drop i places)) (drop (suc i) lines))) (first_left places i)
        ∙ ap (λ (ps : List (ℕ × ℕ)). stepped (triplets_of S h (slice_get places i)
        (get_or lines i [])) (triplets_of_lines S h ps (drop (suc i) lines))) (one_less places i)
        ∙ ap (λ (k : ℕ). stepped (triplets_of S h (slice_get places i) (get_or lines i []))
        (triplets_of_lines S h (drop k places) (drop k lines))) (sym (add-one i))

    pub line_read : (i : ℕ) (before ts : List (Triplet S.Value)) → i < length lines
        → triplets_of S h (slice_get places i) (get_or lines i []) ≡ Ok ts
        → prefixed (before ++ ts) (left_from (i + 1)) ≡ prefixed before (left_from i)
    unfolding stepped
    line_read i before ts lt e =
        sym (ap (prefixed before) (line_left i lt ∙ ap (λ r. stepped r (left_from (i + 1))) e)
        ∙ prefixed_twice before ts (left_from (i + 1)))

    pub line_refused : (i : ℕ) (before : List (Triplet S.Value)) (e : MatrixMarketErrorKind)
        → i < length lines
        → triplets_of S h (slice_get places i) (get_or lines i []) ≡ Err e
        → Err e ≡ prefixed before (left_from i)
    unfolding stepped
    line_refused i before e lt is =
        sym (ap (prefixed before) (line_left i lt ∙ ap (λ r. stepped r (left_from (i + 1))) is))

pub no_lines : (S : Scalar) (h : Header) (places : List (ℕ × ℕ)) (lines : List Line)
    → length lines ≡ 0
    → Ok [] ≡ triplets_of_lines S h places (lines_in lines)
unfolding triplets_of_lines
no_lines S h places [] e = refl
no_lines S h places (l ∷ ls) e = absurd (omega arith)

pub none_left : (S : Scalar) (h : Header) (places : List (ℕ × ℕ)) (lines : List Line) (i : ℕ)
    (before : List (Triplet S.Value)) → length lines ≤ i
    → Ok before ≡ prefixed before (triplets_of_lines S h (drop i places)
    (drop i (lines_in lines)))
unfolding triplets_of_lines
none_left S h places lines i before le =
    let none : drop i (lines_in lines) ≡ [] = drop_of_length-le (lines_in lines)
    (omega (arith, length-map lines words_in)) in
    rw none (sym (ap Ok (append-nil before)))
