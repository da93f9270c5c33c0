-- The residue classes of the scalars `W32`, `W64` and `W128`, and the integers that represent them.
use Rattle.std.specs.Prelude.{◌≡◌, ℤ, ◌%◌, ◌^◌}
use Rattle.std.specs.Int.{Width, w32, w64, w128, cast_unsigned}
use mir.Val.{bits}
use Rattle.sparse_algebra.specs.Numbers.{w32_number, w64_number}
use Rattle.sparse_algebra.specs.Residues.{Residue}
use Rattle.sparse_algebra.specs.Wrapping.{class_of}
use Rattle.sparse_algebra.specs.declared.scalar.wrapping.W32.{W32}
use Rattle.sparse_algebra.specs.declared.scalar.wrapping.W64.{W64}
use Rattle.sparse_algebra.specs.declared.scalar.wide.W128.{W128}

abbrev pub w128_number : W128 → ℤ
w128_number x = x.number

abbrev pub w32_value : W32 → Residue (2 ^ bits w32)
w32_value x = class_of w32 (w32_number x)

abbrev pub w64_value : W64 → Residue (2 ^ bits w64)
w64_value x = class_of w64 (w64_number x)

abbrev pub w128_value : W128 → Residue (2 ^ bits w128)
w128_value x = class_of w128 (w128_number x)

-- the last bit of the number is one
abbrev pub IsOdd : Width → ℤ → Type 0
IsOdd w z = cast_unsigned w z % 2 ≡ 1
