-- One more entry is counted.
use Rattle.std.proofs.Common.{◌≡◌, ℕ, ◌+◌, ◌≤◌, List, ◌∷◌, arith}
use Rattle.std.proofs.lemmas.Grind.{common_steps}
use Rattle.mtxkit_patterns.specs.Columns.{count_lower}

pub counted : (col row : ℕ) (rest others : List (ℕ × ℕ)) → rest ≡ (col, row) ∷ others → col ≤ row
    → count_lower rest ≡ count_lower others + 1
counted col row rest others e le = grind (arith, common_steps, e, le)
