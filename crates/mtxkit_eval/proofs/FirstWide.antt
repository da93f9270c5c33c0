-- The search for the first entry that does not fit in 64 bits.
use Rattle.std.proofs.Common.{◌≡◌, ℕ, ℤ, All, List, [], ◌∷◌, ◌++◌, refl, sym, ap, subst, ◌∙◌, append-nil, append_assoc}
use Rattle.std.specs.Int.{w64}
use Rattle.std.specs.Int.RustNames.{FitsSigned}
use Rattle.std.proofs.lemmas.List.{map-append}
use Rattle.std.proofs.lemmas.List.Elements.{All-map, All-nil, All-push}
use Rattle.sparse_algebra.specs.Plain.{row_order}
use Rattle.sparse_algebra.specs.Whole.{whole_ring}
use Rattle.sparse_algebra.specs.WrappingValues.{w128_number}
use Rattle.sparse_algebra.specs.declared.scalar.wide.W128.{W128}
use Rattle.sparse_compressed.specs.Compressed.{Compressed, IsSound, lane_triplets}
use Rattle.sparse_compressed.specs.PlainOfLanes.{meant}
use Rattle.sparse_compressed.proofs.RowOrder.{row_order-rows}
use Rattle.mtxkit_eval.specs.Values.{exact_of, IsFirstWide}

-- the value of the triplet fits in 64 bits
abbrev IsNarrow : ℕ × ℕ × W128 → Type 0
IsNarrow t = FitsSigned w64 (w128_number t.2)

-- the values of the triplets before the rest fit in 64 bits
pub record IsNarrowBefore (all rest : List (ℕ × ℕ × W128)) : Type 0 where
  pub before : List (ℕ × ℕ × W128)
  pub split : all ≡ before ++ rest
  pub narrow : All (λ t. FitsSigned w64 (w128_number t.2)) before

pub narrow-none : (all : List (ℕ × ℕ × W128)) → IsNarrowBefore all all
narrow-none all = record { before = []; split = refl; narrow = All-nil IsNarrow }

pub narrow-more : (all rest more : List (ℕ × ℕ × W128)) (t : ℕ × ℕ × W128) → rest ≡ t ∷ more
    → FitsSigned w64 (w128_number t.2) → IsNarrowBefore all rest → IsNarrowBefore all more
narrow-more all rest more t next here kept = record {
  before = kept.before ++ t ∷ [];
  split = kept.split ∙ ap (λ ts. kept.before ++ ts) next ∙ sym (append_assoc kept.before (t ∷ []) more);
  narrow = All-push IsNarrow kept.before t kept.narrow here;
}

module _ (m : Compressed W128) (sound : IsSound m) where
  order : row_order whole_ring (exact_of m) ≡ meant whole_ring w128_number (lane_triplets m)
  order = row_order-rows whole_ring w128_number m sound

  narrow-meant : (ts : List (ℕ × ℕ × W128)) → All IsNarrow ts
      → All (λ t. FitsSigned w64 t.2) (meant whole_ring w128_number ts)
  narrow-meant ts all = All-map (λ (t : ℕ × ℕ × ℤ). FitsSigned w64 t.2)
      (λ t. (t.0, t.1, w128_number t.2)) ts all

  pub all-narrow : (rest : List (ℕ × ℕ × W128)) → rest ≡ [] → IsNarrowBefore (lane_triplets m) rest
      → All (λ t. FitsSigned w64 t.2) (row_order whole_ring (exact_of m))
  all-narrow rest none kept =
      let every : lane_triplets m ≡ kept.before = kept.split ∙ ap (λ ts. kept.before ++ ts) none
      ∙ append-nil kept.before in
      subst (All (λ t. FitsSigned w64 t.2)) (sym (order ∙ ap (meant whole_ring w128_number) every))
      (narrow-meant kept.before kept.narrow)

  pub first-wide : (rest more : List (ℕ × ℕ × W128)) (t : ℕ × ℕ × W128) → rest ≡ t ∷ more
      → (FitsSigned w64 (w128_number t.2) → ⊥) → IsNarrowBefore (lane_triplets m) rest
      → IsFirstWide (exact_of m) t.0 t.1
  first-wide rest more t next wide kept = record {
    before = meant whole_ring w128_number kept.before;
    value = w128_number t.2;
    after = meant whole_ring w128_number more;
    split = order ∙ ap (meant whole_ring w128_number) (kept.split ∙ ap (λ ts. kept.before ++ ts) next)
        ∙ map-append (λ (u : ℕ × ℕ × W128). (u.0, u.1, w128_number u.2)) kept.before (t ∷ more);
    narrow = narrow-meant kept.before kept.narrow;
    wide = wide;
  }
