-- A pattern built lane by lane has exactly the entries that satisfy a given condition.
use Rattle.std.proofs.Common.{◌≡◌, ℕ, ◌+◌, ◌<◌, inl, inr, ◌↔◌, List, [], ◌∷◌, ◌++◌, length}
use Rattle.std.proofs.Common.{Contains, ap, sym, subst, ◌∙◌, arith}
use Rattle.std.specs.List.Sorted.{IsStrictlyIncreasing}
use Rattle.sparse_algebra.proofs.Cases.{lt_add_one_cases}
use Rattle.sparse_pattern.specs.Raw.{Raw, raw_of, IsValid, IsEntry}
use Rattle.sparse_pattern.specs.InnerGainedLanes.{GainsLane}
use Rattle.sparse_pattern.proofs.PushedLanes.{valid_pushed, entries_kept, entries_last}

-- the minor index of an entry is below the minor dimension
pub minor_index_below : (d : Raw) → IsValid d → (i j : ℕ) → IsEntry d i j → j < d.minor_dim
minor_index_below d valid i j place =
    let at = place.in_lane in
    subst (λ x. x < d.minor_dim) place.index
    ((valid.lanes i at.lane).bounded place.at at.from at.to)

-- n lanes are built: their entries are the pairs for which P holds
pub record IsBuilt (minor_dim : ℕ) (P : ℕ → ℕ → Type 0) (n : ℕ) (offsets indices : List ℕ) : Type
    0 where
  pub valid : IsValid (raw_of n minor_dim offsets indices)
  pub entries : (i j : ℕ) → i < n → IsEntry (raw_of n minor_dim offsets indices) i j ↔ P i j

module _ (m : ℕ) (P : ℕ → ℕ → Type 0) (n : ℕ) where
  -- appending the lane n builds n + 1 lanes
  pub lane_built : (offsets indices lane : List ℕ) (valid : IsValid (raw_of n m offsets indices))
      → ((i j : ℕ) → i < n → IsEntry (raw_of n m offsets indices) i j ↔ P i j)
      → IsStrictlyIncreasing lane
      → ((j : ℕ) → Contains lane j → j < m) → ((j : ℕ) → Contains lane j ↔ P n j)
      → IsBuilt m P (n + 1) (offsets ++ length (indices ++ lane) ∷ []) (indices ++ lane)
  lane_built offsets indices lane valid places rising bounded holds = record {
    valid = valid_pushed m n offsets indices lane valid rising bounded;
    entries = λ i j i_lt. elim (lt_add_one_cases i n i_lt) [
      | inl old ↦
          let kept = entries_kept m n offsets indices lane valid rising bounded i j old in
          let was = places i j old in
          (λ h. was.0 (kept.0 h), λ h. kept.1 (was.1 h))
      | inr last ↦
          let new = entries_last m n offsets indices lane valid rising bounded j in
          subst (λ i. IsEntry (raw_of (n + 1) m (offsets ++ length (indices ++ lane) ∷ [])
          (indices ++ lane)) i j ↔ P i j) (sym last)
          (λ h. (holds j).0 (new.0 h), λ h. new.1 ((holds j).1 h))
    ];
  }

  -- the same, for a lane that was appended to the indices
  pub lane_gained : (offsets offsets' indices indices' : List ℕ) → IsBuilt m P n offsets indices
      → ((j : ℕ) → P n j → j < m) → GainsLane indices indices' (P n)
      → offsets' ≡ offsets ++ length indices' ∷ [] → IsBuilt m P (n + 1) offsets' indices'
  lane_gained offsets offsets' indices indices' built below gains is =
      rw (is, gains.pushed) (lane_built offsets indices gains.lane built.valid built.entries
      gains.rising (λ j h. below j ((gains.holds j).0 h)) gains.holds)

-- once all lanes are built, the entries are the pairs for which P holds
pub all_built : (m : ℕ) (P : ℕ → ℕ → Type 0) (n rows : ℕ) (d : Raw) (offsets indices : List ℕ)
    → n ≡ rows → d ≡ raw_of rows m offsets indices → ((i j : ℕ) → P i j → i < rows)
    → IsBuilt m P n offsets indices → (i j : ℕ) → IsEntry d i j ↔ P i j
all_built m P n rows d offsets indices whole is within built i j =
    let so_far : Raw = raw_of n m offsets indices in
    let same : d ≡ so_far = is ∙ ap (λ k. raw_of k m offsets indices) (sym whole) in (
      λ h. let here = subst (λ d. IsEntry d i j) same h in (built.entries i j here.in_lane.lane).0
          here,
      λ h. subst (λ d. IsEntry d i j) (sym same)
          ((built.entries i j (omega (arith, within i j h))).1 h),
    )
