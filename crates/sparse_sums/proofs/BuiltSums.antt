-- Matrices that are built lane by lane, by appending the entries of each lane (`GainsEntries`).
use Rattle.std.proofs.Common.{◌≡◌, ℕ, ◌+◌, ◌<◌, ◌↔◌, List, [], ◌∷◌, ◌++◌, length}
use Rattle.std.proofs.Common.{Contains, ◌∙◌, refl, arith}
use Rattle.sparse_algebra.specs.Algebra.{CommRing}
use Rattle.sparse_compressed.proofs.BuiltMatrices.{IsBuiltMatrix, matrix_lane_built}
use Rattle.sparse_sums.specs.InnerAdding.{GainsEntries}

module _ {R : CommRing} {T : Type 0} {f : T → R.Carrier} where
  module _ {m : ℕ} {P : ℕ → ℕ → Type 0} {V : ℕ → ℕ → R.Carrier} where
    -- empty arrays are those of the first 0 lanes
    pub none_built : IsBuiltMatrix R f m P V 0 (0 ∷ []) [] []
    none_built = record {
      built = record {
        valid = record {
          count = refl;
          first = refl;
          last = refl;
          lanes = λ i lt. absurd (omega arith);
        };
        entries = λ i j lt. absurd (omega arith);
      };
      count = refl;
      values_are = λ i j lt. absurd (omega arith);
    }

    -- appending the entries of lane n to the first n lanes gives the first n + 1
    pub entries_built : {n : ℕ} {offsets offsets' indices indices' : List ℕ}
        {values values' : List T} → IsBuiltMatrix R f m P V n offsets indices values
        → {P' : ℕ → Type 0} {V' : ℕ → R.Carrier}
        → (gains : GainsEntries R f indices indices' values values' P' V')
        → ((j : ℕ) → P' j ↔ P n j) → ((j : ℕ) → V' j ≡ V n j) → ((j : ℕ) → P n j → j < m)
        → offsets' ≡ offsets ++ length indices' ∷ []
        → IsBuiltMatrix R f m P V (n + 1) offsets' indices' values'
    entries_built {n} {offsets} {indices = indices} {values = values} built gains places sums
        below is =
        let holds : (j : ℕ) → Contains gains.lane j ↔ P n j = λ j. (
          λ h. (places j).0 ((gains.holds j).0 h),
          λ h. (gains.holds j).1 ((places j).1 h),
        ) in
        rw (is, gains.pushed, gains.values_pushed)
        (matrix_lane_built R f m P V n offsets indices gains.lane values gains.values built
        gains.rising (λ j h. below j ((holds j).0 h)) holds gains.count
        (λ j. gains.sums j ∙ sums j))
