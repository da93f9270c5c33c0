-- Sums over the entries with one index.
use Rattle.std.proofs.Common.{◌≡◌, ◌≢◌, ℕ, Bool, true, false, eqb, List, [], ◌∷◌, ◌++◌, inl, inr}
use Rattle.std.proofs.Common.{All, refl, ap, ◌∙◌, subst, arith}
use Rattle.std.specs.Prelude.{◌||◌}
use Rattle.std.specs.List.{list_any}
use Rattle.std.proofs.lemmas.Bool.Decides.{Decides-eqb}
use Rattle.std.proofs.lemmas.List.Elements.{All-tail}
use Rattle.std.proofs.lemmas.List.Folds.{list_any-append}
use Rattle.sparse_algebra.proofs.Cases.{nat_eq_no, neither, or_cases, or_false, or_right}
use Rattle.sparse_algebra.specs.Algebra.{CommRing}
use Rattle.sparse_algebra.specs.Sums.{where_true}
use Rattle.sparse_algebra.proofs.RingLemmas.{zero_add}
use Rattle.sparse_algebra.proofs.SumLemmas.{sum_by-append, where_no, where_yes}
use Rattle.sparse_convert.specs.InnerTripletLanes.{index_sum}

module _ {T : Type 0} where
  -- whether an entry has the index j
  abbrev pub has_index : ℕ → List (ℕ × T) → Bool
  has_index j es = list_any (λ e. eqb e.0 j) es

  -- the test after one more entry is appended
  has_index-more : (es : List (ℕ × T)) (e : ℕ × T) (j : ℕ)
      → has_index j (es ++ e ∷ []) ≡ (has_index j es || eqb e.0 j)
  has_index-more es e j = list_any-append (λ e. eqb e.0 j) es (e ∷ [])
      ∙ ap (λ b. has_index j es || b) (or_false (eqb e.0 j))

  pub has_index-here : (es : List (ℕ × T)) (e : ℕ × T) (j : ℕ) → e.0 ≡ j
      → has_index j (es ++ e ∷ []) ≡ true
  has_index-here es e j same = has_index-more es e j
      ∙ or_right (has_index j es) (eqb e.0 j) ((Decides-eqb e.0 j).1 same)

  pub has_index-other : (es : List (ℕ × T)) (e : ℕ × T) (j : ℕ) → e.0 ≢ j
      → has_index j (es ++ e ∷ []) ≡ has_index j es
  has_index-other es e j ne = has_index-more es e j
      ∙ ap (λ b. has_index j es || b) (nat_eq_no e.0 j ne) ∙ or_false (has_index j es)

  -- a property of the indices of all entries holds of an index that is found
  pub all_has : (P : ℕ → Type 0) (es : List (ℕ × T)) (j : ℕ) → All (λ e. P e.0) es
      → has_index j es ≡ true → P j
  all_has P [] j all has = cc
  all_has P (e ∷ es) j all has = elim (or_cases (eqb e.0 j) (has_index j es) has) [
    | inl hit ↦ subst P ((Decides-eqb e.0 j).0 hit) (all 0 e (omega arith))
    | inr later ↦ all_has P es j (All-tail (λ e. P e.0) e es all) later
  ]

module _ (R : CommRing) {T : Type 0} (f : T → R.Carrier) where
  -- the sum is zero if no entry has the index
  pub index_sum-none : (es : List (ℕ × T)) (j : ℕ) → has_index j es ≡ false
      → index_sum R f es j ≡ R.zero
  index_sum-none [] j h = refl
  index_sum-none (e ∷ es) j h =
      let parts = neither (eqb e.0 j) (has_index j es) h in
      ap (λ c. R.add c (index_sum R f es j)) (where_no R (eqb e.0 j) (f e.1) parts.0)
      ∙ zero_add R _ ∙ index_sum-none es j parts.1

  index_sum-more : (es : List (ℕ × T)) (e : ℕ × T) (j : ℕ)
      → index_sum R f (es ++ e ∷ []) j ≡ R.add (index_sum R f es j)
      (where_true R (eqb e.0 j) (f e.1))
  index_sum-more es e j = sum_by-append R (λ e. where_true R (eqb e.0 j) (f e.1)) es (e ∷ [])
      ∙ ap (R.add (index_sum R f es j)) (R.laws.add_zero _)

  pub index_sum-here : (es : List (ℕ × T)) (e : ℕ × T) (j : ℕ) → e.0 ≡ j
      → index_sum R f (es ++ e ∷ []) j ≡ R.add (index_sum R f es j) (f e.1)
  index_sum-here es e j same = index_sum-more es e j ∙ ap (R.add (index_sum R f es j))
      (where_yes R (eqb e.0 j) (f e.1) ((Decides-eqb e.0 j).1 same))

  pub index_sum-other : (es : List (ℕ × T)) (e : ℕ × T) (j : ℕ) → e.0 ≢ j
      → index_sum R f (es ++ e ∷ []) j ≡ index_sum R f es j
  index_sum-other es e j ne = index_sum-more es e j ∙ ap (R.add (index_sum R f es j))
      (where_no R (eqb e.0 j) (f e.1) (nat_eq_no e.0 j ne)) ∙ R.laws.add_zero _
