-- The integers that represent the scalars `W32` and `W64`.
use Rattle.std.specs.Prelude.{ℤ}
use Rattle.sparse_algebra.specs.declared.scalar.wrapping.W32.{W32}
use Rattle.sparse_algebra.specs.declared.scalar.wrapping.W64.{W64}

abbrev pub w32_number : W32 → ℤ
w32_number x = x.number

abbrev pub w64_number : W64 → ℤ
w64_number x = x.number
