-- The value of a matrix at a pair is that of an entry, or zero.
use Rattle.std.proofs.Common.{◌≡◌, ℕ, ◌⊎◌, inl, inr, get_or}
use Rattle.sparse_algebra.proofs.Cases.{true_or_false}
use Rattle.sparse_algebra.specs.Algebra.{CommRing}
use Rattle.sparse_pattern.specs.Raw.{IsEntry}
use Rattle.sparse_compressed.specs.Compressed.{Compressed, IsSound}
use Rattle.sparse_compressed.specs.PlainOfLanes.{plain_of_cols}
use Rattle.sparse_compressed.proofs.Arrays.{value_at_offset}
use Rattle.sparse_factor.proofs.ClosedSets.{clash}
use Rattle.sparse_factor.proofs.FilledSets.{has_entry, entry_has}

module _ (R : CommRing) {T : Type 0} (f : T → R.Carrier) {m : Compressed T} (sound : IsSound m)
  where
    pub value_at_entry : (z : T) {i j : ℕ} (place : IsEntry m.pattern j i)
        → (plain_of_cols R f m).value i j ≡ f (get_or m.values place.at z)
    value_at_entry z {i} {j} place = value_at_offset R f m.pattern sound.valid m.values sound.count z
        j i place.at (place.in_lane, place.index)

    pub entry_or_none : (i j : ℕ) → IsEntry m.pattern j i ⊎ (IsEntry m.pattern j i → ⊥)
    entry_or_none i j = elim (true_or_false ((plain_of_cols R f m).has i j)) [
      | inl hit ↦ inl (has_entry R f m sound i j hit)
      | inr miss ↦ inr (λ place. clash _ (entry_has R f m sound i j place) miss)
    ]
