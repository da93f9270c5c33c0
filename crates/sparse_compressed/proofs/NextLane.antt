-- The lanes that an iterator has not yielded: the next one and the others.
use Rattle.std.proofs.Common.{◌≡◌, ℕ, suc, ◌+◌, ◌-◌, ◌<◌, ◌≤◌, [], ◌∷◌, ap, arith}
use Rattle.sparse_compressed.specs.Compressed.{Compressed}
use Rattle.sparse_compressed.specs.Lanes.{lane_at, lanes_from}

-- the lanes from i on are lane i and those after it
pub next_lane : {T : Type 0} (m : Compressed T) (i : ℕ) → i < m.pattern.major_dim
    → lanes_from m i (m.pattern.major_dim - i) ≡ lane_at m i ∷ lanes_from m (i + 1)
    (m.pattern.major_dim - (i + 1))
next_lane m i inside =
    let e : m.pattern.major_dim - i ≡ suc (m.pattern.major_dim - (i + 1)) = omega arith in
    ap (lanes_from m i) e

-- past the last lane none is left
pub no_lane : {T : Type 0} (m : Compressed T) (i : ℕ) → m.pattern.major_dim ≤ i
    → lanes_from m i (m.pattern.major_dim - i) ≡ []
no_lane m i past =
    let e : m.pattern.major_dim - i ≡ 0 = omega arith in
    ap (lanes_from m i) e
