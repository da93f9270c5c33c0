-- A call that fails leaves the arrays for its result unchanged. It writes only the size of the result, if an array is
-- too small.
use Rattle.std.specs.Prelude.{◌≡◌, ◌≢◌, ℕ, ℤ}
use Rattle.c_arrays.specs.Arrays.{pattern_output_arrays, output_arrays, PatternOutputArrays, OutputArrays}
use Rattle.c_arrays.specs.Lists.{list_output_arrays, ListOutputArrays}
use Rattle.c_arrays.specs.Statuses.{number_of}
use Rattle.c_arrays.specs.declared.refusal.Refusal.TheVariants.{TooSmall}

-- the size is unchanged by a call with this status, except at TooSmall, where it is the size that is needed
abbrev pub KeepsSize : ℤ → ℕ → ℕ → Type 0
KeepsSize status old new = status ≢ number_of TooSmall → new ≡ old

-- the arrays for a matrix are unchanged, and so is the number of entries but at TooSmall
abbrev pub IsUntouched : ℤ → OutputArrays → OutputArrays → Type 0
IsUntouched status old new = (output_arrays new.offsets new.indices new.values old.places ≡ old)
    × KeepsSize status old.places new.places

-- the arrays for a pattern are unchanged, and so is the number of entries but at TooSmall
abbrev pub IsPatternUntouched : ℤ → PatternOutputArrays → PatternOutputArrays → Type 0
IsPatternUntouched status old new = (pattern_output_arrays new.offsets new.indices old.places ≡ old)
    × KeepsSize status old.places new.places

-- the arrays for triplets are unchanged, and so is their number but at TooSmall
abbrev pub IsListUntouched : ℤ → ListOutputArrays → ListOutputArrays → Type 0
IsListUntouched status old new = (list_output_arrays new.rows new.cols new.values old.count ≡ old)
    × KeepsSize status old.count new.count
