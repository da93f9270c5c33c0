-- The matrix with the rows `1 2` and `0 3`, without the zero.
use Rattle.std.specs.Prelude.{◌≡◌, ℤ, pos, [], ◌∷◌}
use Rattle.nalgebra_sparse.specs.Compressed.{Compressed, arrays_of}

-- a matrix with the structure of that one and these values
abbrev pub small_of : {T : Type 0} → T → T → T → Compressed T
small_of a b c = arrays_of 2 2 (0 ∷ 2 ∷ 3 ∷ []) (0 ∷ 1 ∷ 1 ∷ []) (a ∷ b ∷ c ∷ [])

-- its values are the numbers 1, 2 and 3
pub record IsSmall {T : Type 0} (number : T → ℤ) (m : Compressed T) : Type 0 where
  pub a : T
  pub b : T
  pub c : T
  pub is : m ≡ small_of a b c
  pub one : number a ≡ pos 1
  pub two : number b ≡ pos 2
  pub three : number c ≡ pos 3
