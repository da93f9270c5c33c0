-- One step of the factorisation over arrays: column j after the updates is divided by the pivot,
-- which is its entry on the diagonal.
use Rattle.std.proofs.Common.{◌≡◌, ◌≢◌, ℕ, ◌+◌, ◌<◌, ◌≤◌, inl, inr, List, length}
use Rattle.std.proofs.Common.{get_or, set, ap, sym, subst, ◌∙◌, arith, add-one}
use Rattle.std.proofs.Common.{get_or-set_same, get_or-set_other, length-set}
use Rattle.std.proofs.lemmas.List.{get_or_default, get_or_past}
use Rattle.sparse_algebra.proofs.Cases.{lt_add_one_cases, lt_or_ge, three}
use Rattle.sparse_algebra.specs.Algebra.{CommRing}
use Rattle.sparse_algebra.proofs.RingLemmas.{zero_add}
use Rattle.sparse_algebra.proofs.SumLemmas.{sum_below-same}
use Rattle.sparse_pattern.specs.Raw.{Raw, IsEntry}
use Rattle.sparse_pattern.proofs.OffsetsInLanes.{one_lane}
use Rattle.sparse_compressed.specs.Compressed.{Compressed, compressed_of, IsSound}
use Rattle.sparse_compressed.specs.PlainOfLanes.{plain_of_cols}
use Rattle.sparse_dense_ops.specs.SparseVectors.{AddsMultiple, elements}
use Rattle.sparse_dense_ops.proofs.RingSteps.{add_off, mul_off}
use Rattle.sparse_algebra.specs.Inverses.{HasInverse}
use Rattle.sparse_factor.specs.InnerFactors.{term, AreCursors, ArePartFactors, IsColumnGathered}
use Rattle.sparse_factor.specs.InnerFactors.{IsFilledPattern, IsIncluded, IsUpdated}
use Rattle.sparse_factor.proofs.ClosedSets.{left-outside, part-outside}
use Rattle.sparse_factor.proofs.Columns.{no_factorisation}
use Rattle.sparse_factor.proofs.FilledSets.{no_entry_has, no_entry_zero, set-closed}
use Rattle.sparse_factor.proofs.FilledSets.{zero_outside}
use Rattle.sparse_factor.proofs.NextColumn.{part_step}
use Rattle.sparse_factor.proofs.EntryValues.{entry_or_none, value_at_entry}
use Rattle.sparse_factor.proofs.RingFacts.{one_mul}

module _ {R : CommRing} {T : Type 0} {f : T → R.Carrier} {z : T} {p : Raw} {j : ℕ} {e : R.Carrier}
    {old new x y : List T} (sound : IsSound (compressed_of p old))
    (gathered : IsColumnGathered R f z p j e old new x y) where
  gathered-sound : IsSound (compressed_of p new)
  gathered-sound = record { valid = sound.valid; count = gathered.count ∙ sound.count }

  -- the other columns are the same
  gathered-others : (i c : ℕ) → c ≢ j → (plain_of_cols R f (compressed_of p new)).value i c
      ≡ (plain_of_cols R f (compressed_of p old)).value i c
  gathered-others i c ne = elim (entry_or_none R f sound i c) [
    | inl place ↦ value_at_entry R f gathered-sound z place
        ∙ ap f (gathered.others place.at (λ inside.
        ne (one_lane p sound.valid c j place.at place.in_lane inside)))
        ∙ sym (value_at_entry R f sound z place)
    | inr none ↦ no_entry_zero R f (compressed_of p new) gathered-sound i c none
        ∙ sym (no_entry_zero R f (compressed_of p old) sound i c none)
  ]

  -- column j is the old scratch column, times e
  gathered-here : {i : ℕ} → IsEntry p j i
      → (plain_of_cols R f (compressed_of p new)).value i j ≡ R.mul (f (get_or x i z)) e
  gathered-here place = value_at_entry R f gathered-sound z place ∙ gathered.gathered place.at place.in_lane
      ∙ ap (λ i. R.mul (f (get_or x i z)) e) place.index

module _ (R : CommRing) {T : Type 0} (f : T → R.Carrier) (z : T) where
  -- the columns of L and the pivots before j are those of a factorisation of the matrix whose lower
  -- triangle `lower` stores by columns; the cursors are at row j, and the scratch column has the
  -- pivots before j and is zero from row j on
  pub record AreColumnsDone (lower l : Compressed T) (inverses : List T) (cursors : List ℕ)
      (column : List T) (j : ℕ) : Type 0 where
    pub zero : f z ≡ R.zero
    pub filled : IsFilledPattern l.pattern
    pub included : IsIncluded lower.pattern l.pattern
    pub sound : IsSound l
    pub count : length inverses ≡ l.pattern.major_dim
    pub rows : length column ≡ l.pattern.major_dim
    pub room : l.pattern.major_dim ≤ length cursors
    pub factors : ArePartFactors R f l.pattern.major_dim j (plain_of_cols R f lower).value
        (plain_of_cols R f l).value (elements R f z column)
    pub placed : AreCursors l.pattern j cursors
    pub empty : (i : ℕ) → j ≤ i → i < length column → elements R f z column i ≡ R.zero
    pub inverts : (i : ℕ) → i < j
        → R.mul (elements R f z column i) (elements R f z inverses i) ≡ R.one

  -- and from row j on `left` is column j after the updates by the columns before it
  pub record IsColumnUpdated (lower l : Compressed T) (inverses : List T) (cursors : List ℕ)
      (column : List T) (j : ℕ) (left : List T) : Type 0 where
    pub done : AreColumnsDone lower l inverses cursors column j
    pub sound : IsSound lower
    pub within : j < l.pattern.major_dim
    pub long : length left ≡ l.pattern.major_dim
    pub leaves : IsUpdated R l.pattern.major_dim j (plain_of_cols R f l).value
        (elements R f z column) j (elements R f z left) (λ i. (plain_of_cols R f lower).value i j)
    pub above : (i : ℕ) → i < j → f (get_or left i z) ≡ f (get_or column i z)

module _ {R : CommRing} {T : Type 0} {f : T → R.Carrier} {z : T} {lower l : Compressed T}
    {inverses : List T} {cursors : List ℕ} {column : List T} {j : ℕ} where
  -- column j of the matrix is added to the scratch column and updated by the columns before it
  pub column_updated : AreColumnsDone R f z lower l inverses cursors column j → IsSound lower
      → j < l.pattern.major_dim → {one : T} (added left : List T) → f one ≡ R.one
      → AddsMultiple R f z (f one) (λ i. (plain_of_cols R f lower).value i j) column added
      → length added ≡ length column → length left ≡ length added
      → IsUpdated R (length added) j (plain_of_cols R f l).value
      (elements R f z added) j (elements R f z left) (elements R f z added)
      → ((i : ℕ) → i < j → f (get_or left i z) ≡ f (get_or added i z))
      → IsColumnUpdated R f z lower l inverses cursors column j left
  column_updated done sound lt {one} added left unit adds same_added same_left leaves above =
      let v = (plain_of_cols R f l).value in
      let a : ℕ → R.Carrier = λ i. (plain_of_cols R f lower).value i j in
      let is : (i : ℕ) → i < l.pattern.major_dim
      → f (get_or added i z) ≡ R.add (f (get_or column i z)) (a i) =
      λ i within. adds i (omega (arith, within, done.rows))
      ∙ ap (R.add (f (get_or column i z))) (one_mul R (f one) (a i) unit) in
      let same : (i : ℕ) → i < j → f (get_or added i z) ≡ f (get_or column i z) =
      λ i less. is i (omega (arith, less, lt))
      ∙ add_off R _ (a i) (no_entry_zero R f lower sound i j (λ place.
      let low = done.filled.lower j i (done.included.entries i j place) in
      omega (arith, low, less))) in
      record {
        done = done;
        sound = sound;
        within = lt;
        long = same_left ∙ same_added ∙ done.rows;
        leaves = λ i le within.
            ap (λ s. R.add s (f (get_or left i z))) (sum_below-same R j
            (term R v (elements R f z column) i j) (term R v (elements R f z added) i j)
            (λ k less. ap (λ c. R.mul (R.mul (v i k) c) (v j k)) (sym (same k less))))
            ∙ leaves i le (omega (arith, within, same_added, done.rows)) ∙ is i within
            ∙ ap (λ c. R.add c (a i)) (done.empty i le (omega (arith, within, done.rows)))
            ∙ zero_add R (a i);
        above = λ i less. above i less ∙ same i less;
      }

  module _ {left : List T} (s : IsColumnUpdated R f z lower l inverses cursors column j left)
      {u : T} (is : u ≡ get_or left j u) where
    abbrev n : ℕ
    n = l.pattern.major_dim

    abbrev a : ℕ → ℕ → R.Carrier
    a = (plain_of_cols R f lower).value

    -- u is the pivot
    pivot : u ≡ get_or left j z
    pivot = is ∙ get_or_default left j u z (omega (arith, s.within, s.long))

    -- without an inverse of the pivot there is no factorisation
    pub step_singular : (HasInverse R f (f u) → ⊥) → (l' : ℕ → ℕ → R.Carrier)
        (d' : ℕ → R.Carrier) → ArePartFactors R f n n a l' d' → ⊥
    step_singular none l' d' = no_factorisation R f n j a (plain_of_cols R f l).value l'
        (elements R f z column) d' (f (get_or left j z)) s.within s.done.factors
        (s.leaves j (omega arith) s.within)
        (λ h. none (subst (λ v. HasInverse R f (f v)) (sym pivot) h))

    -- column j has no entry above the diagonal
    none_above : (i : ℕ) → i < j → IsEntry l.pattern j i → ⊥
    none_above i less place = let le = s.done.filled.lower j i place in omega (arith, le, less)

    -- column j after the updates is zero outside the pattern of L
    updated_zero : (i : ℕ) → j ≤ i → i < n → (IsEntry l.pattern j i → ⊥)
        → f (get_or left i z) ≡ R.zero
    updated_zero i le within none =
        let v = plain_of_cols R f l in
        let closed = set-closed R f l s.done.sound s.done.filled in
        let out = zero_outside R f l s.done.sound lower s.sound s.done.included n in
        let zeros = part-outside R f n a v.has closed out j v.value (elements R f z column)
        (omega (arith, s.within)) s.done.factors in
        left-outside R f n a v.has closed out j v.value (elements R f z column) zeros
        (elements R f z left) i le within (no_entry_has R f l s.done.sound i j none)
        (s.leaves i le within)

    module _ {e : T} {new last : List T} (inverts : R.mul (f u) (f e) ≡ R.one)
        (gathered : IsColumnGathered R f z l.pattern j (f e) l.values new left last) where
      abbrev next : Compressed T
      next = compressed_of l.pattern new

      abbrev pivots : List T
      pivots = set last j u

      next_sound : IsSound next
      next_sound = gathered-sound s.done.sound gathered

      column_is : (i : ℕ) → j ≤ i → i < n
          → (plain_of_cols R f next).value i j ≡ R.mul (f (get_or left i z)) (f e)
      column_is i le within = elim (entry_or_none R f s.done.sound i j) [
        | inl place ↦ gathered-here s.done.sound gathered place
        | inr none ↦ no_entry_zero R f next next_sound i j none
            ∙ sym (mul_off R _ (f e) (updated_zero i le within none))
      ]

      in_pivots : j < length last
      in_pivots = omega (arith, s.within, gathered.same, s.long)

      -- the scratch column is zero from row j on
      cleared_below : (i : ℕ) → j ≤ i → i < n → f (get_or last i z) ≡ R.zero
      cleared_below i le within = elim (entry_or_none R f s.done.sound i j) [
        | inl place ↦ ap (λ i. f (get_or last i z)) (sym place.index)
            ∙ ap f (gathered.cleared place.at place.in_lane) ∙ s.done.zero
        | inr none ↦ ap f (gathered.kept i none) ∙ updated_zero i le within none
      ]

      kept_pivots : (c : ℕ) → c ≢ j → elements R f z pivots c ≡ elements R f z column c
      kept_pivots c ne = ap f (get_or-set_other last j c u z ne) ∙ elim (three c j) [
        | inl less ↦ ap f (gathered.kept c (none_above c less)) ∙ s.above c less
        | inr (inl more) ↦ elim (lt_or_ge c n) [
          | inl within ↦ cleared_below c (omega arith) within
              ∙ sym (s.done.empty c (omega arith) (omega (arith, within, s.done.rows)))
          | inr past ↦ ap f (get_or_past last c z (omega (arith, past, gathered.same, s.long))
              ∙ sym (get_or_past column c z (omega (arith, past, s.done.rows))))
        ]
        | inr (inr same) ↦ absurd (ne same)
      ]

      new_pivot : elements R f z pivots j ≡ f u
      new_pivot = ap f (get_or-set_same last j u z in_pivots)

      next_factors : ArePartFactors R f n (j + 1) a (plain_of_cols R f next).value
          (elements R f z pivots)
      next_factors =
          let unit = ap (λ v. R.mul (f v) (f e)) (sym pivot) ∙ inverts in
          rw add-one (part_step R f n j a (plain_of_cols R f l).value (plain_of_cols R f next).value
          (elements R f z column) (elements R f z pivots) (elements R f z left) e s.within
          s.done.factors s.leaves unit (gathered-others s.done.sound gathered) kept_pivots
          (new_pivot ∙ ap f pivot) (column_is j (omega arith) s.within ∙ unit)
          (λ i less. no_entry_zero R f next next_sound i j (none_above i less))
          (λ i more within. column_is i (omega arith) within))

      inverted : (i : ℕ) → i < j + 1
          → R.mul (elements R f z pivots i) (elements R f z (set inverses j e) i) ≡ R.one
      inverted i less = elim (lt_add_one_cases i j less) [
        | inl under ↦
            let ne : i ≢ j = λ same. omega (arith, same, under) in
            ap (λ c. R.mul c (elements R f z (set inverses j e) i)) (kept_pivots i ne)
            ∙ ap (λ v. R.mul (elements R f z column i) (f v))
            (get_or-set_other inverses j i e z ne) ∙ s.done.inverts i under
        | inr at ↦
            ap (λ i. R.mul (elements R f z pivots i) (elements R f z (set inverses j e) i)) at
            ∙ ap (λ c. R.mul c (elements R f z (set inverses j e) j)) new_pivot
            ∙ ap (λ v. R.mul (f u) (f v)) (get_or-set_same inverses j e z
            (omega (arith, s.within, s.done.count))) ∙ inverts
      ]

      pub step_done : {cursors' : List ℕ} → AreCursors l.pattern (j + 1) cursors'
          → length cursors' ≡ length cursors
          → AreColumnsDone R f z lower next (set inverses j e) cursors' pivots (j + 1)
      step_done placed count = record {
        zero = s.done.zero;
        filled = s.done.filled;
        included = s.done.included;
        sound = next_sound;
        count = length-set inverses j e ∙ s.done.count;
        rows = length-set last j u ∙ gathered.same ∙ s.long;
        room = omega (arith, count, s.done.room);
        factors = next_factors;
        placed = placed;
        empty = λ i le within.
            ap f (get_or-set_other last j i u z (λ same. omega (arith, same, le)))
            ∙ cleared_below i (omega arith)
            (omega (arith, within, length-set last j u, gathered.same, s.long));
        inverts = inverted;
      }
