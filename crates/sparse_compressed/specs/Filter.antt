-- The entries that a predicate keeps.
use Rattle.std.specs.Prelude.{◌≡◌, ℕ, Bool, nat_eq, nat_le, cond, List, [], ◌∷◌}
use Rattle.std.specs.Fn.{Shared, FnReturns}
use denote.Ref.{Bor}
use Rattle.sparse_compressed.specs.Compressed.{Compressed}

-- for each element x of xs there is a result b with R x b; ys has, in order, the elements whose
-- result is `true`
abbrev pub IsKept : {X : Type 0} → (X → Bool → Type 0) → List X → List X → Type 0
IsKept R [] ys = ys ≡ []
IsKept {X} R (x ∷ xs) ys = (b : Bool) × R x b × (zs : List X) × IsKept R xs zs
    × (ys ≡ cond b (x ∷ zs) zs)

-- f may return b when it is called with the two indices of a triplet and a reference to its value
pub record Answers {F T : Type 0} (g : Shared F (ℕ × (ℕ × (Bor T × Unit {0}))) Bool) (f : F)
    (t : ℕ × ℕ × T) (b : Bool) : Type 0 where
  pub shown : Bor T
  pub shows : shown.now ≡ t.2
  pub says : FnReturns g f (t.0, (t.1, (shown, tt))) b

-- whatever f returns for a triplet is what the test says
abbrev pub AnswersAs : {F T : Type 0} → Shared F (ℕ × (ℕ × (Bor T × Unit {0}))) Bool → F
    → (ℕ × ℕ × T → Bool) → Type 0
AnswersAs {T = T} g f test = (t : ℕ × ℕ × T) (b : Bool) → Answers g f t b → b ≡ test t

module _ {T : Type 0} where
  -- tests of a triplet (row, column, value): on or above the diagonal, on or below it, and on it
  abbrev pub is_upper : ℕ × ℕ × T → Bool
  is_upper t = nat_le t.0 t.1

  abbrev pub is_lower : ℕ × ℕ × T → Bool
  is_lower t = nat_le t.1 t.0

  abbrev pub is_diagonal : ℕ × ℕ × T → Bool
  is_diagonal t = nat_eq t.0 t.1

-- the same shape as m
pub record HasShapeOf {T : Type 0} (m now : Compressed T) : Type 0 where
  pub major_dim : now.pattern.major_dim ≡ m.pattern.major_dim
  pub minor_dim : now.pattern.minor_dim ≡ m.pattern.minor_dim
