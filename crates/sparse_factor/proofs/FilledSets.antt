-- The entries of a filled pattern, as a set of pairs that is closed under fill.
use Rattle.std.proofs.Common.{◌≡◌, ℕ, inl, inr, true, false}
use Rattle.sparse_algebra.proofs.Cases.{true_or_false}
use Rattle.sparse_algebra.specs.Algebra.{CommRing}
use Rattle.sparse_pattern.specs.Raw.{Raw, IsEntry}
use Rattle.sparse_compressed.specs.Compressed.{Compressed, IsSound}
use Rattle.sparse_compressed.specs.PlainOfLanes.{plain_of_cols}
use Rattle.sparse_compressed.proofs.Arrays.{has_is_place, proper_rows}
use Rattle.sparse_factor.specs.InnerFactors.{IsFilledPattern, IsIncluded}
use Rattle.sparse_factor.specs.Fill.{InFill, PlainBase, StoresByColumns, UpperBase}
use Rattle.sparse_factor.proofs.Alternatives.{both_ways}
use Rattle.sparse_factor.proofs.FillLaws.{in_fill_into}
use Rattle.sparse_factor.proofs.ClosedSets.{IsClosed, IsZeroOutside, clash}

module _ (R : CommRing) {T : Type 0} (f : T → R.Carrier) (l : Compressed T) (sound : IsSound l)
  where
    pub has_entry : (i j : ℕ) → (plain_of_cols R f l).has i j ≡ true → IsEntry l.pattern j i
    has_entry i j hit = (has_is_place R f l.pattern sound.valid l.values sound.count j i).0 hit

    pub entry_has : (i j : ℕ) → IsEntry l.pattern j i → (plain_of_cols R f l).has i j ≡ true
    entry_has i j place = (has_is_place R f l.pattern sound.valid l.values sound.count j i).1 place

    -- the fill of the upper triangle, read from the pattern, is that read from the plain matrix
    pub plain_fill : (p : Raw) → StoresByColumns (InFill (UpperBase l.pattern)) p
        → StoresByColumns (InFill (PlainBase (plain_of_cols R f l))) p
    plain_fill p stores i j = both_ways (stores i j) (
      in_fill_into (λ c r base. (entry_has r c base.0, base.1)) i j,
      in_fill_into (λ c r base. (has_entry r c base.0, base.1)) i j,
    )

    pub no_entry_has : (i j : ℕ) → (IsEntry l.pattern j i → ⊥)
        → (plain_of_cols R f l).has i j ≡ false
    no_entry_has i j none = elim (true_or_false ((plain_of_cols R f l).has i j)) [
      | inl hit ↦ absurd (none (has_entry i j hit))
      | inr miss ↦ miss
    ]

    pub no_entry_zero : (i j : ℕ) → (IsEntry l.pattern j i → ⊥)
        → (plain_of_cols R f l).value i j ≡ R.zero
    no_entry_zero i j none = proper_rows R f l j i (no_entry_has i j none)

    module _ (filled : IsFilledPattern l.pattern) where
      pub set-closed : IsClosed (plain_of_cols R f l).has
      set-closed i j k a b lt le =
          entry_has i j (filled.closed i j k (has_entry i k a) (has_entry j k b) lt le)

    pub zero_outside : (a : Compressed T) → IsSound a → IsIncluded a.pattern l.pattern → (n : ℕ)
        → IsZeroOutside R n (plain_of_cols R f a).value (plain_of_cols R f l).has
    zero_outside a a_sound included n i j le within out = proper_rows R f a j i
        (elim (true_or_false ((plain_of_cols R f a).has i j)) [
          | inl hit ↦ absurd (clash _ (entry_has i j (included.entries i j
              ((has_is_place R f a.pattern a_sound.valid a.values a_sound.count j i).0 hit))) out)
          | inr miss ↦ miss
        ])
