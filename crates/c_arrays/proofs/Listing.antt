-- Arrays that hold a coordinate list.
use Rattle.std.proofs.Common.{◌≡◌, ℕ, ℤ, List, [], ◌∷◌, length, map, take, ap, sym, ◌∙◌, refl}
use Rattle.std.proofs.lemmas.List.{length-map}
use Rattle.sparse_coo_dense.specs.Coo.{Coo}
use Rattle.sparse_parser.specs.Meaning.{value_triplet, values_of}
use Rattle.c_arrays.specs.Lists.{list_output_arrays, HoldsList}

module _ {T : Type 0} (f : T → ℤ) where
  rows-valued : (ts : List (ℕ × ℕ × T))
      → map (λ t. t.0) (map (value_triplet f) ts) ≡ map (λ t. t.0) ts
  rows-valued [] = refl
  rows-valued (t ∷ ts) = ap (λ is. t.0 ∷ is) (rows-valued ts)

  cols-valued : (ts : List (ℕ × ℕ × T))
      → map (λ t. t.1) (map (value_triplet f) ts) ≡ map (λ t. t.1) ts
  cols-valued [] = refl
  cols-valued (t ∷ ts) = ap (λ js. t.1 ∷ js) (cols-valued ts)

  values-valued : (ts : List (ℕ × ℕ × T))
      → map (λ t. t.2) (map (value_triplet f) ts) ≡ map f (map (λ t. t.2) ts)
  values-valued [] = refl
  values-valued (t ∷ ts) = ap (λ vs. f t.2 ∷ vs) (values-valued ts)

  module _ (m : Coo T) where
    pub length-valued : length (map (value_triplet f) m.triplets) ≡ length m.triplets
    length-valued = length-map m.triplets (value_triplet f)

    -- the beginning of an array, copied from the rows, the columns or the values of the triplets
    front : {X Y : Type 0} (xs : List X) (ys zs : List Y) (part : ℕ × ℕ × T → X)
        → xs ≡ map part m.triplets → take (length xs) ys ≡ zs
        → take (length (map (value_triplet f) m.triplets)) ys ≡ zs
    front xs ys zs part is copied = ap (λ n. take n ys)
        (length-valued ∙ sym (ap length is ∙ length-map m.triplets part)) ∙ copied

    pub HoldsList-put : (is js : List ℕ) (vs : List ℤ) (count : ℕ) (xs ys : List ℕ) (zs : List T)
        → xs ≡ map (λ t. t.0) m.triplets → ys ≡ map (λ t. t.1) m.triplets
        → zs ≡ map (λ t. t.2) m.triplets → take (length xs) is ≡ xs → take (length ys) js ≡ ys
        → take (length zs) vs ≡ map f zs → count ≡ length m.triplets
        → HoldsList (values_of f m) (list_output_arrays is js vs count)
    HoldsList-put is js vs count xs ys zs ex ey ez ei ej ev ec = record {
      rows = front xs is xs (λ t. t.0) ex ei ∙ ex ∙ sym (rows-valued m.triplets);
      cols = front ys js ys (λ t. t.1) ey ej ∙ ey ∙ sym (cols-valued m.triplets);
      values = front zs vs (map f zs) (λ t. t.2) ez ev ∙ ap (map f) ez
          ∙ sym (values-valued m.triplets);
      count = ec ∙ sym length-valued;
    }
