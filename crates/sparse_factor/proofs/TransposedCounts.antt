-- A pattern and its transpose have the same number of entries.
use Rattle.std.proofs.Common.{◌≡◌, ℕ, zero, suc, ◌+◌, ◌<◌, ◌≤◌, inl, inr, subst, sym}
use Rattle.std.proofs.Common.{arith}
use Rattle.sparse_pattern.specs.Raw.{Raw, start_of, IsValid, IsEntry, nnz_of, entries_of}
use Rattle.sparse_pattern.specs.TransposedPattern.{IsTransposedPattern}
use Rattle.sparse_pattern.proofs.LaneOrder.{length-entries, Contains-entries_of}
use Rattle.sparse_factor.specs.InnerCountedPairs.{CountsPairs}
use Rattle.sparse_factor.proofs.Runs.{lane_run, lane_entry}
use Rattle.sparse_factor.proofs.AddedRows.{none_added, counted_superset, counted_both, counted_at_most, run_counted}

-- the pairs (j, k) of the entries of the lanes k before n
lanes_counted : (d : Raw) → IsValid d → (n : ℕ) → n ≤ d.major_dim
    → CountsPairs (λ j k. (k < n) × IsEntry d k j) 0 (start_of d n)
lanes_counted d valid zero le = rw valid.first (none_added (λ j k. (k < zero) × IsEntry d k j) 0)
lanes_counted d valid (suc n) le =
    let run = lane_run d n (valid.lanes n (omega arith)) in
    let next : suc n ≡ n + 1 = omega arith in
    rw next (counted_superset (λ j k h. elim h [
      | inl old ↦ (omega (arith, old.0), old.1)
      | inr new ↦ (
        omega (arith, new.0),
        subst (λ l. IsEntry d l j) (sym new.0) ((lane_entry d n j (omega arith)).0 new.1),
      )
    ]) (counted_both (lanes_counted d valid n (omega arith))
    (run_counted run n (omega (arith, run.ordered))) (λ j k old new. omega (arith, old.0, new.0))))

-- a pattern has no more entries than one that has each of them with the indices exchanged
no_more_entries : {d t : Raw} → IsValid d → IsValid t → ((i j : ℕ) → IsEntry d i j → IsEntry t j i)
    → nnz_of d ≤ nnz_of t
no_more_entries {d} {t} valid-d valid-t into =
    let most = counted_at_most (lanes_counted d valid-d d.major_dim (omega arith)) (entries_of t)
    (λ j k h. (Contains-entries_of t valid-t j k).1 (into k j h.1)) in
    omega (arith, most, valid-d.last, length-entries t valid-t)

pub transposed_count : {d t : Raw} → IsValid d → IsValid t → IsTransposedPattern d t
    → nnz_of t ≡ nnz_of d
transposed_count valid-d valid-t transposed =
    let up = no_more_entries valid-d valid-t (λ i j h. (transposed.entries i j).1 h) in
    let down = no_more_entries valid-t valid-d (λ j i h. (transposed.entries i j).0 h) in
    omega arith
