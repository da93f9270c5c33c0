use Rattle.std.proofs.Common.{◌≡◌, ℕ, ◌≤◌, ◌⊎◌}
use Rattle.std.specs.Int.{abs_diff}
use Rattle.sparse_pattern.specs.Raw.{IsEntry}
use Rattle.mtxkit_matrices.proofs.EntriesLeft.{IsPartlyVisited}
use Rattle.mtxkit_matrices.proofs.facts.shape.bandwidth.Given as goal

abbrev pub invariant-loop-row : goal.invariant-loop-row
invariant-loop-row l = record {
  half : IsPartlyVisited l.pattern l.row-iterator (λ i j. abs_diff i j ≤ l.widest);
  reached : (l.widest ≡ 0)
      ⊎ ((i : ℕ) × (j : ℕ) × IsEntry l.pattern i j × (abs_diff i j ≡ l.widest));
}
