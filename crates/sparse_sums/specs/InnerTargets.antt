-- To which entries of the target those of an operand are added.
use Rattle.std.specs.Prelude.{ℕ, Bool, true, false, List, Contains}
use Rattle.sparse_pattern.specs.Raw.{Raw, IsEntry}

-- the major and the minor index in the target of the operand's (i, j), exchanged if the operand is transposed
abbrev pub lane_in : Bool → ℕ → ℕ → ℕ
lane_in true i j = j
lane_in false i j = i

abbrev pub index_in : Bool → ℕ → ℕ → ℕ
index_in true i j = i
index_in false i j = j

-- the number of lanes of the operand, or of its transpose
abbrev pub lanes_of_op : Bool → Raw → ℕ
lanes_of_op transposed d = lane_in transposed d.major_dim d.minor_dim

-- the pattern of the target contains that of the operand, or of its transpose
abbrev pub ContainsPatternOf : Raw → Bool → Raw → Type 0
ContainsPatternOf d transposed a = (i j : ℕ) → IsEntry a i j
    → IsEntry d (lane_in transposed i j) (index_in transposed i j)

-- the target lane has each index of the lane
abbrev pub HasIndicesOf : List ℕ → List ℕ → Type 0
HasIndicesOf target lane = (j : ℕ) → Contains lane j → Contains target j
