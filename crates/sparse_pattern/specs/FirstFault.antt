-- The first violated rule, in the order of the ranks of the rules.
use Rattle.std.specs.Prelude.{◌≡◌, ℕ, ◌<◌, ◌⊎◌}

-- lexicographic order: a comes before b
abbrev pub IsBefore : ℕ × ℕ × ℕ → ℕ × ℕ × ℕ → Type 0
IsBefore a b = (a.0 < b.0) ⊎ ((a.0 ≡ b.0) × ((a.1 < b.1) ⊎ ((a.1 ≡ b.1) × (a.2 < b.2))))

-- this rule is violated, and no rule of a lower rank is
pub record IsFirst {S : Type 0} (rank_of : S → ℕ × ℕ × ℕ) (HasFault : S → Type 0) (rule : S) : Type
    0 where
  pub here : HasFault rule
  pub none_before : (s : S) → IsBefore (rank_of s) (rank_of rule) → HasFault s → ⊥
