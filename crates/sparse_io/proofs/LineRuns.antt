-- Reading a data line does not change the final result, which the end of the text or the first line
-- with an error decides.
use Rattle.std.proofs.Common.{◌≡◌, ◌≢◌, ℕ, suc, ◌+◌, ◌≤◌, Bool, true, false, cond, ◌&&◌}
use Rattle.std.proofs.Common.{List, [], ◌∷◌, ◌++◌, length, drop, slice_get, Option, Result, Ok, Err}
use Rattle.std.proofs.Common.{refl, sym, ap, ◌∙◌, append_assoc, arith, inr}
use Rattle.std.specs.Prelude.{IsTrue}
use Rattle.std.specs.List.{list_all}
use Rattle.std.proofs.Math.Bool.{and_assoc}
use Rattle.std.proofs.lemmas.List.{append-nil}
use Rattle.std.proofs.lemmas.List.Folds.{list_all-append}
use Rattle.sparse_coo_dense.specs.Coo.{Coo, coo_of, appended}
use Rattle.sparse_pattern.specs.declared.error.SparseFormatErrorKind.TheVariants.{IndexOutOfBounds}
use Rattle.sparse_parser.specs.declared.error.MatrixMarketErrorKind.{MatrixMarketErrorKind}
use Rattle.sparse_parser.specs.declared.error.MatrixMarketErrorKind.TheVariants.{ParsingError}
use Rattle.sparse_parser.specs.declared.error.MatrixMarketErrorKind.TheVariants.{EntryMismatch}
use Rattle.sparse_parser.specs.declared.error.MatrixMarketErrorKind.TheVariants.{SparseFormatError}
use Rattle.sparse_parser.specs.declared.error.MatrixMarketError.{MatrixMarketError}
use Rattle.sparse_parser.specs.declared.header.Header.{Header}
use Rattle.sparse_parser.specs.Bytes.{after}
use Rattle.sparse_parser.specs.InnerBytes.{is_within_line, BeginsLine}
use Rattle.sparse_parser.specs.Grammar.{is_entry}
use Rattle.sparse_parser.specs.Reads.{Read, ◌>>=◌, read_as}
use Rattle.sparse_parser.specs.Scalars.{Scalar}
use Rattle.sparse_parser.specs.ArrayPlaces.{places_of}
use Rattle.sparse_parser.specs.Meaning.{Triplet, Sizes, is_count, is_inside, triplets_of}
use Rattle.sparse_parser.specs.Meaning.{triplets_of_lines, listed_of, values_of}
use Rattle.sparse_parser.specs.InnerReading.{Gives, line_words, contents_of, among_entries}
use Rattle.sparse_parser.specs.InnerReading.{settled_of}
use Rattle.sparse_parser.proofs.WordLaws.{words_of-nil}
use Rattle.sparse_io.specs.InnerEntries.{IsMeant, IsLineRead, ended_of, ending, still_read}
use Rattle.sparse_io.specs.InnerEntries.{Reading, IsReadOn, reading}
use Rattle.sparse_io.proofs.EntryLoop.{IsRead, IsRefused, first_line_read, no_text}

no_entry : is_entry [] ≡ true → ⊥
unfolding is_entry
no_entry is = absurd cc

-- a text that begins with a data line is not empty
entry_not_empty : (text : List ℕ) → is_entry (line_words text) ≡ true → length text ≢ 0
unfolding line_words
entry_not_empty [] is none = no_entry (sym (ap is_entry words_of-nil) ∙ is)
entry_not_empty (c ∷ text) is none = absurd (omega arith)

-- a result is an error of a kind that equals its own
pub fault_is : {A : Type 0} {r : Read A} {e k : MatrixMarketErrorKind} → r ≡ Err e → k ≡ e
    → r ≡ Err k
fault_is f g = f ∙ ap (λ (x : MatrixMarketErrorKind). Err x) (sym g)

module _ (S : Scalar) (h : Header) where
  -- a line was read, and the next line was found after its end
  pub line_is_read : {at : Option (ℕ × ℕ)} {text rest next : List ℕ}
      {given : Read (List (Triplet S.Value))} → IsMeant S h at text given rest
      → BeginsLine next → contents_of next ≡ contents_of rest → length next ≤ length rest
      → IsLineRead S h at text given next
  line_is_read m begins same len = record {
    is = m.is;
    means = m.means;
    begins = begins;
    same = same ∙ ap contents_of m.after_line;
    shorter = omega (arith, ap (λ (l : List ℕ). length l) m.after_line);
  }

  -- a line was read as a data line, and the next line was found after its end
  pub meant_is_read : {at : Option (ℕ × ℕ)} {text rest next : List ℕ}
      {given : Read (List (Triplet S.Value))} → IsMeant S h at text given rest → BeginsLine text
      → contents_of next ≡ contents_of rest → length next ≤ length rest
      → IsRead text next (line_words text)
  meant_is_read {at} {text} {rest} {next} m b same len =
      let some : length text ≢ 0 = entry_not_empty text m.is in
      first_line_read text rest next b (omega arith) m.is m.after_line same len

  pub next_is_read : {at : Option (ℕ × ℕ)} {text next : List ℕ}
      {given : Read (List (Triplet S.Value))} → IsLineRead S h at text given next
      → BeginsLine text → IsRead text next (line_words text)
  next_is_read {at} {text} {next} {given} line b =
      let m : IsMeant S h at text given (after is_within_line text) =
      record { is = line.is; means = line.means; after_line = refl } in
      meant_is_read m b line.same line.shorter

  -- the final result for a matrix of these sizes
  abbrev outcome : Sizes → Reading S.Value → Read (Coo S.Value)
  outcome s r = still_read S h s r.read r.inside r.places r.matrix.triplets (contents_of r.text)

  -- no line has been read yet
  pub read_none : (now : Reading S.Value) → BeginsLine now.text → IsReadOn S h now now
  read_none now b = record {
    begins = b;
    shorter = omega arith;
    room = omega arith;
    rows = refl;
    cols = refl;
    same = λ count. refl;
  }

  pub read_both : {old now new : Reading S.Value} → IsReadOn S h old now → IsReadOn S h now new
      → IsReadOn S h old new
  read_both {old} {now} {new} o n = record {
    begins = n.begins;
    shorter = omega (arith, o.shorter, n.shorter);
    room = omega (arith, o.room, n.room);
    rows = n.rows ∙ o.rows;
    cols = n.cols ∙ o.cols;
    same = λ count. rw (o.rows, o.cols) at (n.same count) ∙ o.same count;
  }

  -- ---- one line

  module _ (s : Sizes) (inside kept : Bool) (ts ts' new : List (Triplet S.Value))
      (k : kept ≡ (inside && list_all (is_inside S s.0 s.1) new))
      (add : IsTrue kept → ts' ≡ ts ++ new) where
    -- the triplets of a line are appended to those read, if all lie within the shape
    ending-more : (us : List (Triplet S.Value))
        → ending S h s inside ts (new ++ us) ≡ ending S h s kept ts' us
    ending-more us =
        rw (
          list_all-append (is_inside S s.0 s.1) new us,
          sym (and_assoc inside (list_all (is_inside S s.0 s.1) new)
              (list_all (is_inside S s.0 s.1) us)),
          sym k,
        ) (by kept add)
      where
        by : (t : Bool) → (IsTrue t → ts' ≡ ts ++ new)
            → cond (t && list_all (is_inside S s.0 s.1) us) (Ok (coo_of s.0 s.1 (ts ++ (new ++ us))))
            (Err (SparseFormatError IndexOutOfBounds)) ≡ ending S h s t ts' us
        by true add = rw (add refl, append_assoc ts new us) refl
        by false add = refl

    entries-more : (read : Read (List (Triplet S.Value)))
        → ((read >>= λ us. Ok (new ++ us)) >>= ending S h s inside ts)
        ≡ (read >>= ending S h s kept ts')
    entries-more (Ok us) = ending-more us
    entries-more (Err e) = refl

  -- one more line was read: its triplets were appended to the matrix, or one of them or of those
  -- before lies outside the shape
  pub read_line : {now : Reading S.Value} {m : Coo S.Value} {next : List ℕ} {words : List (List ℕ)}
      {kept : Bool} {places : List (ℕ × ℕ)} {first : Option (ℕ × ℕ)}
      {new : List (Triplet S.Value)}
      → IsRead now.text next words → BeginsLine next → first ≡ slice_get now.places 0
      → places ≡ drop 1 now.places → Ok new ≡ triplets_of S h first words
      → m.nrows ≡ now.matrix.nrows → m.ncols ≡ now.matrix.ncols
      → kept ≡ (now.inside && list_all (is_inside S now.matrix.nrows now.matrix.ncols) new)
      → (IsTrue kept → m ≡ appended now.matrix new)
      → IsReadOn S h now (reading (now.read + 1) kept places m next)
  unfolding among_entries triplets_of_lines
  read_line {now} {m} {next} {words} {kept} {places} {first} {new} line b f p found r c k add =
      record {
        begins = b;
        shorter = omega (arith, line.shorter);
        room = omega (arith, line.shorter);
        rows = r;
        cols = c;
        same = λ count.
            let n : now.read + suc (length (contents_of next))
            ≡ now.read + 1 + length (contents_of next) = omega arith in
            let e = entries-more (now.matrix.nrows, now.matrix.ncols, count) now.inside kept
            now.matrix.triplets m.triplets new k
            (λ y. ap (λ (x : Coo S.Value). x.triplets) (add y))
            (triplets_of_lines S h (drop 1 now.places) (contents_of next)) in
            sym (rw (line.same, line.is, sym f, sym found, n, e, sym p) refl);
      }

  -- ---- the final result

  module _ (s : Sizes) where
    -- the whole text, of which no line has been read
    abbrev pub start : List ℕ → Reading S.Value
    start text = reading 0 true (places_of h.format h.symmetry s.0 s.1) (coo_of s.0 s.1 []) text

    -- the result for the whole text
    abbrev pub total : List ℕ → Read (Coo S.Value)
    total text = among_entries (contents_of text) (listed_of S h s (contents_of text))

    -- a new matrix, before the first line
    pub read_start : {text next : List ℕ} {places : List (ℕ × ℕ)} {m : Coo S.Value}
        → BeginsLine next → contents_of next ≡ contents_of text → length next ≤ length text
        → places ≡ places_of h.format h.symmetry s.0 s.1 → m ≡ coo_of s.0 s.1 []
        → IsReadOn S h (start text) (reading 0 true places m next)
    read_start b same le p e = record {
      begins = b;
      shorter = omega (arith, le);
      room = omega (arith, le);
      rows = ap (λ (m : Coo S.Value). m.nrows) e;
      cols = ap (λ (m : Coo S.Value). m.ncols) e;
      same = λ count. rw (same, p, e) refl;
    }

    module _ {text : List ℕ} {now : Reading S.Value} (o : IsReadOn S h (start text) now) where
      start_gives : outcome s (start text) ≡ total text
      unfolding listed_of
      start_gives =
          let z : 0 + length (contents_of text) ≡ length (contents_of text) = omega arith in
          rw z refl

      decided : {r : Read (Coo S.Value)} → outcome s now ≡ r → total text ≡ r
      decided e = sym start_gives ∙ sym (o.same s.2) ∙ e

      pub read_refused : IsRefused now.text → total text ≡ Err ParsingError
      unfolding among_entries
      read_refused r = decided (rw (r.same, r.is) refl)

      pub read_fault : {rest : List ℕ} {words : List (List ℕ)} {e : MatrixMarketErrorKind}
          → IsRead now.text rest words → triplets_of S h (slice_get now.places 0) words ≡ Err e
          → total text ≡ Err (settled_of e (now.read + 1) s.2 (contents_of rest))
      unfolding among_entries triplets_of_lines settled_of
      read_fault {rest} {words} {e} r f =
          let n : now.read + suc (length (contents_of rest))
          ≡ now.read + 1 + length (contents_of rest) = omega arith in
          decided (rw (r.same, r.is, f, n) (by (list_all is_entry (contents_of rest))
          (is_count s.2 (now.read + 1 + length (contents_of rest)))))
        where
          by : (t u : Bool)
              → cond {A = Read (Coo S.Value)} t (cond u (Err e) (Err EntryMismatch))
              (Err ParsingError) ≡ Err (cond t (cond u e EntryMismatch) ParsingError)
          by true true = refl
          by true false = refl
          by false u = refl

      -- the result after the last line
      pub read_end : length now.text ≡ 0
          → total text ≡ ended_of (is_count s.2 now.read) now.inside now.matrix
      unfolding among_entries triplets_of_lines
      read_end e =
          let n : now.read + 0 ≡ now.read = omega arith in
          decided (rw (
            no_text now.text e,
            n,
            sym o.rows,
            sym o.cols,
            append-nil now.matrix.triplets,
          ) (by now.inside))
        where
          by : (i : Bool)
              → cond {A = Read (Coo S.Value)} (is_count s.2 now.read)
              (cond (i && true) (Ok now.matrix) (Err (SparseFormatError IndexOutOfBounds)))
              (Err EntryMismatch) ≡ ended_of (is_count s.2 now.read) i now.matrix
          by true = refl
          by false = refl

      module _ {T : Type 0} (value : T → S.Value) where
        given : (result : Result (Coo T) MatrixMarketError)
            → total text ≡ read_as (values_of value) result → Gives S value result (total text)
        given (Ok m) e = e
        given (Err e) f = inr f

        pub read_gives : (result : Result (Coo T) MatrixMarketError) {complete : Bool}
            → length now.text ≡ 0 → complete ≡ is_count s.2 now.read
            → read_as (values_of value) result ≡ ended_of complete now.inside now.matrix
            → Gives S value result (total text)
        read_gives result e k ended =
            given result
            (read_end e ∙ sym (ended ∙ ap (λ (b : Bool). ended_of b now.inside now.matrix) k))
