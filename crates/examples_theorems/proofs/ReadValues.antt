-- Lists of wrapping integers, and the lists of whole numbers that their texts mean.
use Rattle.std.proofs.Common.{◌≡◌, ℕ, ◌<◌, List, [], ◌∷◌, ◌++◌}
use Rattle.std.proofs.Common.{length, map, get_or, refl, sym, ap, ◌∙◌}
use Rattle.std.specs.Prelude.{◌||◌, ◌&&◌, All}
use Rattle.std.specs.List.{list_any, flat_map}
use Rattle.std.proofs.lemmas.List.{length-map}
use Rattle.std.proofs.lemmas.List.Elements.{All-map}
use Rattle.nalgebra_sparse.specs.Algebra.{CommRing}
use Rattle.nalgebra_sparse.specs.Sums.{sum_by, where_true}
use Rattle.nalgebra_sparse.specs.Plain.{is_at}
use Rattle.nalgebra_sparse.specs.Coo.{Coo, IsInside}
use Rattle.nalgebra_sparse.specs.CooPlain.{plain_of_coo}
use Rattle.nalgebra_sparse.specs.Meaning.{value_triplet, values_of}
use Rattle.nalgebra_sparse.specs.Written.{heading, size_line, triplet_line, written_text_with, text_of}

module _ {T V : Type 0} (h : T → V) where
  any-read : (i j : ℕ) (ts : List (ℕ × ℕ × T))
      → list_any (is_at i j) (map (value_triplet h) ts) ≡ list_any (is_at i j) ts
  any-read i j [] = refl
  any-read i j (t ∷ ts) = ap (λ b. is_at i j t || b) (any-read i j ts)

  module _ (R : CommRing) (f : V → R.Carrier) where
    sum-read : (i j : ℕ) (ts : List (ℕ × ℕ × T))
        → sum_by R (λ t. where_true R (is_at i j t) (f t.2)) (map (value_triplet h) ts)
        ≡ sum_by R (λ t. where_true R (is_at i j t) (f (h t.2))) ts
    sum-read i j [] = refl
    sum-read i j (t ∷ ts) = ap (R.add (where_true R (is_at i j t) (f (h t.2)))) (sum-read i j ts)

    -- both lists have the same plain matrix
    pub plain-read : (m : Coo T) → plain_of_coo R f (values_of h m) ≡ plain_of_coo R (λ x. f (h x)) m
    plain-read m = λ k. record {
      rows = m.nrows;
      cols = m.ncols;
      has = λ i j. any-read i j m.triplets k;
      value = λ i j. sum-read i j m.triplets k;
    }

  module _ (text : V → List ℕ) where
    lines-read : (ts : List (ℕ × ℕ × T)) → flat_map (triplet_line text) (map (value_triplet h) ts)
        ≡ flat_map (triplet_line (λ x. text (h x))) ts
    unfolding triplet_line
    lines-read [] = refl
    lines-read (t ∷ ts) = ap (λ l. triplet_line (λ x. text (h x)) t ++ l) (lines-read ts)

    -- both lists have the same text
    pub text-read : (name : List ℕ) (m : Coo T)
        → text_of name (λ x. text (h x)) m ≡ text_of name text (values_of h m)
    unfolding written_text_with
    text-read name m =
        ap (λ n. heading name ++ (size_line m.nrows m.ncols n
        ++ flat_map (triplet_line (λ x. text (h x))) m.triplets))
        (sym (length-map m.triplets (value_triplet h)))
        ∙ ap (λ l. heading name ++ (size_line m.nrows m.ncols
        (length (map (value_triplet h) m.triplets)) ++ l)) (sym (lines-read m.triplets))

  pub length-read : (m : Coo T) → length (values_of h m).triplets ≡ length m.triplets
  length-read m = length-map m.triplets (value_triplet h)

  pub inside-read : (m : Coo T) → IsInside m → IsInside (values_of h m)
  inside-read m inside = All-map (λ t. (t.0 < m.nrows) × (t.1 < m.ncols)) (value_triplet h)
      m.triplets inside

  pub values-read : (P : V → Type 0) → ((x : T) → P (h x)) → (m : Coo T)
      → All (λ t. P t.2) (values_of h m).triplets
  values-read P own m = All-map (λ t. P t.2) (value_triplet h) m.triplets
      (λ k t lt. own (get_or m.triplets k t).2)
