-- The sizes of a document: what they say about its header, and about the places of its data lines.
use Rattle.std.proofs.Common.{◌≡◌, ℕ, ◌<◌, ◌≤◌, Bool, true, false, eqb, List, [], ◌∷◌}
use Rattle.std.proofs.Common.{Option, Some, Ok, Err, refl, sym, ◌∙◌, arith}
use Rattle.std.specs.Prelude.{◌^◌, nat_lt, slice_get}
use Rattle.std.specs.Result.{is_ok}
use Rattle.std.proofs.lemmas.Bool.{eqb-true, eq-eqb}
use Rattle.sparse_parser.specs.declared.header.Format.{Format}
use Rattle.sparse_parser.specs.declared.header.Format.TheVariants.{Coordinate, Array}
use Rattle.sparse_parser.specs.declared.header.Header.{Header}
use Rattle.sparse_parser.specs.declared.header.Symmetry.{Symmetry}
use Rattle.sparse_parser.specs.ArrayPlaces.{places_of, array_places, array_count}
use Rattle.sparse_parser.specs.Header.{is_allowed}
use Rattle.sparse_parser.specs.Meaning.{Sizes, number_of, numbers_of_size, sizes_of}
use Rattle.sparse_parser.specs.Meaning.{is_count, is_fitting, within_usize}
use Rattle.sparse_parser.specs.Reads.{Read}
use Rattle.sparse_parser.specs.Scalars.{Scalar}
use Rattle.sparse_faults.proofs.ArrayPlaces.{IsPlace, length-array_places, in_array, found_at}
use Rattle.sparse_faults.proofs.EntryFaults.{ArePlaced}
use Rattle.sparse_faults.proofs.LineTriplets.{IsPlaced}

-- what the sizes of a size line say about its header
pub record AreSized (h : Header) (s : Sizes) : Type 0 where
  pub allowed : is_allowed h ≡ true
  pub fits : is_fitting h.symmetry s.0 s.1 ≡ true
  pub count : h.format ≡ Array → s.2 ≡ within_usize (array_count h.symmetry s.0 s.1)

numbers_array : (y : Symmetry) (words : List (List ℕ)) (s : Sizes)
    → numbers_of_size Array y words ≡ Ok s → s.2 ≡ within_usize (array_count y s.0 s.1)
unfolding numbers_of_size
numbers_array y [] s e = absurd cc
numbers_array y (r ∷ []) s e = absurd cc
numbers_array y (r ∷ c ∷ n ∷ words) s e = absurd cc
numbers_array y (r ∷ c ∷ []) s e = by (number_of r) (number_of c) refl refl
  where
    by : (a b : Read ℕ) → number_of r ≡ a → number_of c ≡ b
        → s.2 ≡ within_usize (array_count y s.0 s.1)
    by (Ok a) (Ok b) f g =
        let k : numbers_of_size Array y (r ∷ c ∷ [])
        ≡ Ok (a, b, within_usize (array_count y a b)) = rw (f, g) refl in
        let l : (a, b, within_usize (array_count y a b)) ≡ s = cc in
        rw (sym l) refl
    by (Ok a) (Err k) f g = absurd (let l : numbers_of_size Array y (r ∷ c ∷ []) ≡ Err k =
        rw (f, g) refl in cc)
    by (Err k) b f g = absurd (let l : numbers_of_size Array y (r ∷ c ∷ []) ≡ Err k =
        rw f refl in cc)

pub are_sized : (h : Header) (words : List (List ℕ)) (s : Sizes) → sizes_of h words ≡ Ok s → AreSized h s
unfolding sizes_of
are_sized h words s e = by (is_allowed h) (numbers_of_size h.format h.symmetry words) refl refl
  where
    fitted : (n : Sizes) (t : Bool) → is_allowed h ≡ true
        → numbers_of_size h.format h.symmetry words ≡ Ok n → is_fitting h.symmetry n.0 n.1 ≡ t
        → AreSized h s
    fitted n true f g k =
        let r : sizes_of h words ≡ Ok n = rw (f, g, k) refl in
        let l : n ≡ s = cc in
        record {
          allowed = f;
          fits = rw l at k;
          count = λ a. numbers_array h.symmetry words s (rw (l, a) at g);
        }
    fitted n false f g k = absurd (let r : is_ok (sizes_of h words) ≡ false =
        rw (f, g, k) refl in
        let q : is_ok (sizes_of h words) ≡ true = rw e refl in cc)

    by : (t : Bool) (r : Read Sizes) → is_allowed h ≡ t
        → numbers_of_size h.format h.symmetry words ≡ r → AreSized h s
    by true (Ok n) f g = fitted n (is_fitting h.symmetry n.0 n.1) f g refl
    by true (Err k) f g = absurd (let r : sizes_of h words ≡ Err k = rw (f, g) refl in cc)
    by false r f g = absurd (let q : is_ok (sizes_of h words) ≡ false = rw f refl in
        let p : is_ok (sizes_of h words) ≡ true = rw e refl in cc)

pub sizes_allowed : (h : Header) (words : List (List ℕ)) (s : Sizes) → sizes_of h words ≡ Ok s
    → is_allowed h ≡ true
sizes_allowed h words s e = (are_sized h words s e).allowed

count_is : (n k : ℕ) → is_count (within_usize n) k ≡ true → k ≡ n
unfolding within_usize
count_is n k e = by (nat_lt n (2 ^ 64)) refl
  where
    by : (t : Bool) → nat_lt n (2 ^ 64) ≡ t → k ≡ n
    by true f =
        let g : is_count (within_usize n) k ≡ (is_count (Some n) k) = rw f refl in
        eqb-true k n (sym g ∙ e)
    by false f = absurd (let g : is_count (within_usize n) k ≡ false = rw f refl in cc)

pub count_same : (o : Option ℕ) (n k : ℕ) → o ≡ Some n → n ≡ k → is_count o k ≡ true
count_same o n k e f = rw e (eq-eqb k n (sym f))

pub count_differs : (o : Option ℕ) (n k : ℕ) → o ≡ Some n → ¬ (n ≡ k) → is_count o k ≡ false
count_differs o n k e f = by (eqb k n) refl
  where
    by : (t : Bool) → eqb k n ≡ t → is_count o k ≡ false
    by true g = absurd (f (sym (eqb-true k n g)))
    by false g = rw e g

-- the places of an array are as many as its data lines
pub places_placed : (S : Scalar) (h : Header) (s : Sizes) (n : ℕ) → AreSized h s → is_count s.2 n ≡ true
    → (k : ℕ) → k ≤ n → ArePlaced S h s.0 s.1 (places_of h.format h.symmetry s.0 s.1) k
places_placed S h s n a c k le = λ i lt. by h.format refl i (omega arith)
  where
    by : (format : Format) → h.format ≡ format → (i : ℕ) → i < n
        → IsPlaced format h.symmetry s.0 s.1 (slice_get (places_of format h.symmetry s.0 s.1) i)
    by Coordinate e i lt = tt
    by Array e i lt =
        let f = a.count e in
        let m = count_is _ n (rw f at c) in
        let l = length-array_places h.symmetry s.0 s.1 a.fits in
        let p = found_at (IsPlace h.symmetry s.0 s.1)
        (array_places h.symmetry s.0 s.1) i (in_array h.symmetry s.0 s.1)
        (omega arith) in
        rw p.1 p.2
