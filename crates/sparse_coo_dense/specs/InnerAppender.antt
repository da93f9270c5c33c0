-- The spare capacity of three lists.
use Rattle.std.specs.Prelude.{ℕ, ◌+◌, ◌≤◌}

-- three lists of these lengths and capacities each have room for `room` more elements
pub record HasRoom (room row_len row_capacity col_len col_capacity len capacity : ℕ) : Type 0 where
  pub rows : room + row_len ≤ row_capacity
  pub cols : room + col_len ≤ col_capacity
  pub values : room + len ≤ capacity
