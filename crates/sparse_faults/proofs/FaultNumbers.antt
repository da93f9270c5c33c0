-- The number of the line with the first fault is counted from 1.
use Rattle.std.proofs.Common.{◌≡◌, ℕ, ◌<◌, Bool, true, false, List, [], ◌∷◌, length, Option, Some, None}
use Rattle.std.proofs.Common.{Ok, Err, inl, inr, arith}
use Rattle.std.specs.Prelude.{IfSome}
use Rattle.sparse_parser.specs.declared.header.Header.{Header}
use Rattle.sparse_parser.specs.Header.{is_allowed}
use Rattle.sparse_parser.specs.Meaning.{Sizes, is_count, sizes_of}
use Rattle.sparse_parser.specs.Reads.{Read}
use Rattle.sparse_parser.specs.Scalars.{Scalar}
use Rattle.sparse_faults.specs.declared.locations.Location.{Location}
use Rattle.sparse_faults.specs.FirstFaults.{HasMatrix, IsDocumentFault, IsEntryFault, IsFirstFault}
use Rattle.sparse_faults.specs.FirstFaults.{IsGrammarFault, IsSizesLine, last_number}
use Rattle.sparse_faults.specs.InnerFirstFaults.{IsFirstFaultOrNone}
use Rattle.sparse_faults.specs.Lines.{IsLineOf}

line_counted : {text line : List ℕ} {n : ℕ} → IsLineOf text n line → 0 < n
line_counted l = let c = l.counted in omega arith

last_counted : (lines : List (List ℕ)) → 0 < last_number lines
last_counted [] = omega arith
last_counted (line ∷ lines) = omega arith

module _ (S : Scalar) (text : List ℕ) (n : ℕ) where
  pub grammar_counted : IsGrammarFault text n → 0 < n
  grammar_counted (inl f) = line_counted f.2
  grammar_counted (inr (inl f)) = line_counted f.2
  grammar_counted (inr (inr (inl f))) = line_counted f.2
  grammar_counted (inr (inr (inr f))) = let e = f.2 in let l = last_counted f.0 in omega arith

  module _ (h : Header) (size : List (List ℕ)) (lines : List (List (List ℕ))) where
    sizes_counted : (allowed : Bool) → IsSizesLine allowed text h size n → 0 < n
    sizes_counted true f = line_counted f.2
    sizes_counted false f = line_counted f.2

    entry_counted : (s : Sizes) (right : Bool) → IsEntryFault S text n h size s lines right → 0 < n
    entry_counted s false f = line_counted f.2
    entry_counted s true (inl f) = line_counted f.2
    entry_counted s true (inr f) = line_counted f.1.2

    document_counted : (r : Read Sizes) → IsDocumentFault S text n h size lines r → 0 < n
    document_counted (Err kind) f = sizes_counted (is_allowed h) f
    document_counted (Ok s) f = entry_counted s (is_count s.2 (length lines)) f

  pub fault_counted : IsFirstFault S text n → 0 < n
  fault_counted (inl f) = grammar_counted f
  fault_counted (inr (h, size, lines, document, f)) =
      document_counted h size lines (sizes_of h size) f

-- the fault that was found, if there is one
module _ (S : Scalar) (text : List ℕ) where
  pub some_fault : (r : Option Location) → IsFirstFaultOrNone S text r
      → IfSome r (λ location. IsFirstFault S text location.line)
  some_fault (Some location) f = f
  some_fault None f = tt

  pub some_counted : (r : Option Location) → IsFirstFaultOrNone S text r
      → IfSome r (λ location. 0 < location.line)
  some_counted (Some location) f = fault_counted S text location.line f
  some_counted None f = tt

  pub none_fault : (r : Option Location) → IsFirstFaultOrNone S text r → r ≡ None
      → HasMatrix S text
  none_fault (Some location) f e = absurd cc
  none_fault None f e = f
