-- Matrices with one pattern, whose values represent the same ring elements.
use Rattle.std.proofs.Common.{◌≡◌, ℕ, List, [], ◌∷◌, length, map, refl, ap, ◌∙◌, arith}
use Rattle.std.specs.Prelude.{nat_eq, ◌&&◌, ◌||◌}
use Rattle.std.specs.List.{list_any}
use Rattle.sparse_algebra.specs.Algebra.{CommRing}
use Rattle.sparse_algebra.specs.Plain.{is_at, plain_of_triplets}
use Rattle.sparse_algebra.specs.Sums.{sum_by, where_true}
use Rattle.sparse_algebra.proofs.PlainLemmas.{same_plain}
use Rattle.sparse_compressed.specs.Compressed.{zip_values}

module _ (R : CommRing) {X Y : Type 0} (f : X → R.Carrier) (g : Y → R.Carrier) where
  module _ (i j : ℕ) where
    same-places : (ps : List (ℕ × ℕ)) (vs : List X) (ws : List Y) → map f vs ≡ map g ws
        → list_any (is_at i j) (zip_values ps vs) ≡ list_any (is_at i j) (zip_values ps ws)
    same-places [] vs ws e = refl
    same-places (p ∷ ps) [] [] e = refl
    same-places (p ∷ ps) [] (w ∷ ws) e = absurd (omega (arith, ap length e))
    same-places (p ∷ ps) (v ∷ vs) [] e = absurd (omega (arith, ap length e))
    same-places (p ∷ ps) (v ∷ vs) (w ∷ ws) e =
        let rest : map f vs ≡ map g ws = cc in
        ap (λ b. (nat_eq p.0 i && nat_eq p.1 j) || b) (same-places ps vs ws rest)

    same-sums : (ps : List (ℕ × ℕ)) (vs : List X) (ws : List Y) → map f vs ≡ map g ws
        → sum_by R (λ t. where_true R (is_at i j t) (f t.2)) (zip_values ps vs)
        ≡ sum_by R (λ t. where_true R (is_at i j t) (g t.2)) (zip_values ps ws)
    same-sums [] vs ws e = refl
    same-sums (p ∷ ps) [] [] e = refl
    same-sums (p ∷ ps) [] (w ∷ ws) e = absurd (omega (arith, ap length e))
    same-sums (p ∷ ps) (v ∷ vs) [] e = absurd (omega (arith, ap length e))
    same-sums (p ∷ ps) (v ∷ vs) (w ∷ ws) e =
        let rest : map f vs ≡ map g ws = cc in
        let here : f v ≡ g w = cc in
        ap (λ c. R.add (where_true R (nat_eq p.0 i && nat_eq p.1 j) c)
        (sum_by R (λ t. where_true R (is_at i j t) (f t.2)) (zip_values ps vs))) here
        ∙ ap (R.add (where_true R (nat_eq p.0 i && nat_eq p.1 j) (g w))) (same-sums ps vs ws rest)

  pub same-triplets : (rows cols : ℕ) (ps : List (ℕ × ℕ)) (vs : List X) (ws : List Y)
      → map f vs ≡ map g ws
      → plain_of_triplets R f rows cols (zip_values ps vs)
      ≡ plain_of_triplets R g rows cols (zip_values ps ws)
  same-triplets rows cols ps vs ws e =
      same_plain (plain_of_triplets R f rows cols (zip_values ps vs))
      (plain_of_triplets R g rows cols (zip_values ps ws)) refl refl
      (λ i j. same-places i j ps vs ws e) (λ i j. same-sums i j ps vs ws e)
