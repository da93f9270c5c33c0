-- Arrays that hold a matrix once its arrays are copied into them: `HoldsRows-put`, `HoldsDense-put`.
use Rattle.std.proofs.Common.{◌≡◌, ℕ, ℤ, ◌*◌, ◌≤◌, List, length, map, take, ap, sym}
use Rattle.std.proofs.Common.{subst, ◌∙◌, arith}
use Rattle.sparse_algebra.specs.Algebra.{CommRing}
use Rattle.sparse_coo_dense.specs.Dense.{Dense}
use Rattle.sparse_coo_dense.specs.DensePlain.{plain_of_dense}
use Rattle.sparse_compressed.specs.Compressed.{Compressed, compressed_of, arrays_of, IsSound}
use Rattle.sparse_compressed.specs.PlainOfLanes.{plain_of_rows}
use Rattle.c_arrays.specs.Arrays.{plain_by_rows, plain_by_values, output_arrays, matrix_in}
use Rattle.c_arrays.specs.Arrays.{HoldsDense, HoldsRows}
use Rattle.sparse_algebra.specs.Integers.{element_of}
use Rattle.sparse_coo_dense.proofs.Meanings.{dense-meant, same_length}
use Rattle.c_arrays.proofs.Meanings.{place_count-rows, rows-meant}

module _ (R : CommRing) {T : Type 0} (f : T → R.Carrier) where
  -- arrays that begin with those of a sound matrix hold its plain matrix
  pub HoldsRows-put : (m : Compressed T) → IsSound m
      → (os is : List ℕ) (vs : List ℤ) (places : ℕ)
      → take (length m.pattern.offsets) os ≡ m.pattern.offsets
      → take (length m.pattern.indices) is ≡ m.pattern.indices
      → map (element_of R) (take (length m.values) vs) ≡ map f m.values → places ≡ length m.values
      → HoldsRows (plain_of_rows R f m) (output_arrays os is vs places)
  HoldsRows-put m sound os is vs places eo ei ev count =
      let a = plain_of_rows R f m in
      let r = output_arrays os is vs places in
      let front = take (length m.values) vs in
      let written : matrix_in a.rows a.cols r ≡ compressed_of m.pattern front = λ k. arrays_of
      m.pattern.major_dim m.pattern.minor_dim
      ((ap (λ n. take n os) (sym sound.valid.count) ∙ eo) k)
      ((ap (λ n. take n is) (count ∙ sound.count) ∙ ei) k) (take (count k) vs) in
      let same = same_length R (element_of R) f front m.values ev in
      let holds : IsSound (compressed_of m.pattern front) =
      record { valid = sound.valid; count = same ∙ sound.count } in
      record {
        sound = subst IsSound (sym written) holds;
        plain = ap (plain_by_rows R) written ∙ rows-meant R (element_of R) f m.pattern front m.values ev;
        places = count ∙ sym (place_count-rows R f m sound);
      }

  -- an array that begins with the values of a dense matrix holds its plain matrix
  pub HoldsDense-put : (d : Dense T) → length d.values ≡ d.nrows * d.ncols → (vs : List ℤ)
      → length d.values ≤ length vs → map (element_of R) (take (length d.values) vs) ≡ map f d.values
      → HoldsDense (plain_of_dense R f d) vs
  HoldsDense-put d full vs room ev = record {
    plain = ap (λ n. plain_by_values R d.nrows d.ncols (take n vs)) (sym full)
        ∙ dense-meant R (element_of R) f d.nrows d.ncols (take (length d.values) vs) d.values ev;
    room = omega arith;
  }
