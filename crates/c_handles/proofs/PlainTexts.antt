-- Texts and plain matrices.
-- - `plain-numbers`: a list of scalars has the plain matrix of the list of the integers that represent them
-- - `OnOk-HoldsMeaning`: a handle in which the matrix of a text was stored satisfies `HoldsMeaning`
-- - `text-rows`: the text that is written for a CSR matrix is `text_of_plain` of its plain matrix
use Rattle.std.proofs.Common.{◌≡◌, ℕ, List, [], ◌∷◌, ◌++◌, length, map, sym, ap, ◌∙◌, refl}
use Rattle.std.specs.Prelude.{codes, ◌||◌, ℤ, Option, Some, Ok, Err, OnOk}
use Rattle.core.specs.declared.result.Result.{Result}
use Rattle.std.specs.List.{flat_map, list_any}
use Rattle.std.specs.Int.{w64}
use Rattle.std.specs.Fmt.{signed_decimal}
use Rattle.std.proofs.lemmas.List.{length-map}
use Rattle.sparse_algebra.specs.Algebra.{CommRing}
use Rattle.sparse_algebra.specs.Numbers.{w64_number}
use Rattle.sparse_algebra.specs.Plain.{is_at}
use Rattle.sparse_algebra.specs.Sums.{sum_by, where_true}
use Rattle.sparse_algebra.specs.Wrapping.{class_of}
use Rattle.sparse_algebra.specs.WrappingValues.{w64_value}
use Rattle.sparse_algebra.specs.declared.scalar.wrapping.W64.{W64}
use Rattle.sparse_algebra.proofs.WholeNumbers.{number_of-class}
use Rattle.sparse_coo_dense.specs.Coo.{Coo, coo_of}
use Rattle.sparse_coo_dense.specs.CooPlain.{plain_of_coo}
use Rattle.c_arrays.specs.Arrays.{ring64}
use Rattle.c_arrays.specs.declared.refusal.Refusal.{Refusal}
use Rattle.sparse_compressed.specs.Compressed.{Compressed, IsSound, lane_triplets}
use Rattle.sparse_compressed.specs.PlainOfLanes.{plain_of_rows}
use Rattle.sparse_compressed.proofs.RowOrder.{row_order-rows}
use Rattle.sparse_io.specs.Written.{heading_with, size_line, text_with, triplet_line}
use Rattle.sparse_io.specs.Written.{written_text_with}
use Rattle.sparse_io.specs.declared.banner.Banner.{Banner}
use Rattle.sparse_io.specs.declared.banner.Banner.TheVariants.{MixedCase}
use Rattle.sparse_market_scalar.specs.ScalarTypes.{wrapping_scalar}
use Rattle.sparse_parser.specs.Meaning.{value_triplet, values_of, Means}
use Rattle.c_handles.specs.Texts.{residue_text, text_of_plain, HoldsMeaning}

module _ {T V : Type 0} (h : T → V) where
  module _ (R : CommRing) (f : V → R.Carrier) where
    any-numbers : (i j : ℕ) (ts : List (ℕ × ℕ × T))
        → list_any (is_at i j) ts ≡ list_any (is_at i j) (map (value_triplet h) ts)
    any-numbers i j [] = refl
    any-numbers i j (t ∷ ts) = ap (λ b. is_at i j t || b) (any-numbers i j ts)

    sum-numbers : (i j : ℕ) (ts : List (ℕ × ℕ × T))
        → sum_by R (λ t. where_true R (is_at i j t) (f (h t.2))) ts
        ≡ sum_by R (λ t. where_true R (is_at i j t) (f t.2)) (map (value_triplet h) ts)
    sum-numbers i j [] = refl
    sum-numbers i j (t ∷ ts) =
        ap (R.add (where_true R (is_at i j t) (f (h t.2)))) (sum-numbers i j ts)

    pub plain-numbers : (m : Coo T) → plain_of_coo R (λ x. f (h x)) m ≡ plain_of_coo R f (values_of h m)
    plain-numbers m = λ k. record {
      rows = m.nrows;
      cols = m.ncols;
      has = λ i j. any-numbers i j m.triplets k;
      value = λ i j. sum-numbers i j m.triplets k;
    }

  module _ (text : V → List ℕ) where
    lines : (ts : List (ℕ × ℕ × T)) → flat_map (triplet_line text) (map (λ t. (t.0, t.1, h t.2)) ts)
        ≡ flat_map (triplet_line (λ x. text (h x))) ts
    unfolding triplet_line
    lines [] = refl
    lines (t ∷ ts) = ap (λ l. triplet_line (λ x. text (h x)) t ++ l) (lines ts)

    written : (banner : Banner) (name : List ℕ) (rows cols : ℕ) (ts : List (ℕ × ℕ × T))
        → written_text_with banner name text rows cols (map (λ t. (t.0, t.1, h t.2)) ts)
        ≡ written_text_with banner name (λ x. text (h x)) rows cols ts
    unfolding written_text_with
    written banner name rows cols ts =
        ap (λ n. heading_with banner name ++ (size_line rows cols n
        ++ flat_map (triplet_line text) (map (λ t. (t.0, t.1, h t.2)) ts)))
        (length-map ts (λ t. (t.0, t.1, h t.2)))
        ∙ ap (λ l. heading_with banner name ++ (size_line rows cols (length ts) ++ l)) (lines ts)

pub OnOk-HoldsMeaning : (answer : Result (Unit {0}) Refusal) (handle : Option (Compressed W64))
    (m : Compressed W64) (list : Coo ℤ) (text : List ℕ) → OnOk answer (handle ≡ Some m)
    → Means (wrapping_scalar w64) text (Ok list)
    → plain_of_rows ring64 w64_value m ≡ plain_of_coo ring64 (class_of w64) list
    → OnOk answer (HoldsMeaning handle text)
OnOk-HoldsMeaning (Ok u) handle m list text put means same = (list, means, (m, put, same))
OnOk-HoldsMeaning (Err e) handle m list text put means same = tt

shown : (x : W64) → residue_text (w64_value x) ≡ signed_decimal (w64_number x)
shown x = ap signed_decimal (number_of-class w64 x.number x.in_range)

pub text-rows : (m : Compressed W64) → IsSound m
    → text_with MixedCase (codes "integer") (λ x. signed_decimal (w64_number x))
    (coo_of m.pattern.major_dim m.pattern.minor_dim (lane_triplets m))
    ≡ text_of_plain (plain_of_rows ring64 w64_value m)
text-rows m sound =
    let ts = lane_triplets m in
    let rows = m.pattern.major_dim in
    let cols = m.pattern.minor_dim in
    sym (ap (written_text_with MixedCase (codes "integer") residue_text rows cols)
    (row_order-rows ring64 w64_value m sound)
    ∙ written w64_value residue_text MixedCase (codes "integer") rows cols ts
    ∙ (λ k. written_text_with MixedCase (codes "integer") (λ x. shown x k) rows cols ts))
