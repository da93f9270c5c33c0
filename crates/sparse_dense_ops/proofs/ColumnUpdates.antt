-- Writing one element of a list, and updating a column entry by entry.
use Rattle.std.proofs.Common.{◌≡◌, ◌≢◌, ℕ, ◌+◌, ◌<◌, inl, inr, List, length, get_or, set, ap, sym}
use Rattle.std.proofs.Common.{subst, ◌∙◌, arith, get_or-set_same, get_or-set_other}
use Rattle.std.proofs.lemmas.List.{length-set}
use Rattle.sparse_algebra.proofs.Cases.{lt_add_one_cases}
use Rattle.sparse_algebra.specs.Algebra.{CommRing}
use Rattle.sparse_dense_ops.specs.InnerKernels.{IsWrittenAt}
use Rattle.sparse_dense_ops.specs.InnerUpdates.{IsUpdatedBelow, updated}

module _ {R : CommRing} {T : Type 0} {f : T → R.Carrier} {z : T} {n : ℕ} {v : R.Carrier}
    {old : List T} where
  pub written_at : (w : T) → n < length old → f w ≡ v → IsWrittenAt R f z n v old (set old n w)
  written_at w lt is =
      let same = get_or-set_same old n w z lt in
      record { written = ap (set old n) (sym same); value = ap f same ∙ is }

  module _ {new : List T} (h : IsWrittenAt R f z n v old new) where
    pub written_length : length new ≡ length old
    written_length = ap length h.written ∙ length-set old n (get_or new n z)

    pub written_others : (i : ℕ) → i ≢ n → get_or new i z ≡ get_or old i z
    written_others i ne = ap (λ l. get_or l i z) h.written
        ∙ get_or-set_other old n i (get_or new n z) z ne

-- writing entry n updates the first n + 1 entries, where the first n were updated
pub updated_more : {R : CommRing} {T : Type 0} {f : T → R.Carrier} {z : T} {beta alpha : R.Carrier}
    {x : ℕ → R.Carrier} {n : ℕ} {old now new : List T} {sum : R.Carrier}
    → IsUpdatedBelow R f z beta alpha n x old now
    → IsWrittenAt R f z n (updated R f beta alpha (get_or now n z) sum) now new → sum ≡ x n
    → IsUpdatedBelow R f z beta alpha (n + 1) x old new
updated_more {R} {f = f} {z = z} {beta} {alpha} {x} {n} {old} {now} {new} h one is = record {
  count = written_length one ∙ h.count;
  before = λ i i_lt. elim (lt_add_one_cases i n i_lt) [
    | inl less ↦ ap f (written_others one i (λ e. omega (arith, e, less))) ∙ h.before i less
    | inr same ↦ subst (λ k. f (get_or new k z) ≡ updated R f beta alpha (get_or old k z) (x k))
        (sym same) here
  ];
  behind = λ i le. written_others one i (λ e. omega (arith, e, le)) ∙ h.behind i (omega arith);
}
  where
    here : f (get_or new n z) ≡ updated R f beta alpha (get_or old n z) (x n)
    here = one.value ∙ ap (updated R f beta alpha (get_or now n z)) is
        ∙ ap (λ v. updated R f beta alpha v (x n)) (h.behind n (omega arith))
